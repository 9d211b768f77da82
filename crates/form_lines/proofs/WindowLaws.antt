-- Laws of a window's line whose dates were cut to their fields: what is written of it is what is written of the whole dates.
use mathlib.Core.Path.{◌≡◌, sym, ap, ◌∙◌}
use mathlib.Core.Bool.{Bool, true, false, ◌&&◌}
use mathlib.Core.List.{List}
use Prim.Native.Nat.{ℕ}
use native.Mathlib.Omega.{arith}
use borrow.Author.Tests.{ne_eqb}
use lib.Dec.{ltb}
use lib.ListN.{length}
use Rattle.bits.specs.Choice.{choose}
use Rattle.bits.proofs.Tests.{by_test, both}
use Rattle.writing.specs.Puts.{least_output}
use Rattle.calendar.specs.declared.Date.{Date}
use Rattle.calendar.specs.Calendar.{exists}
use Rattle.calendar.specs.Conversion.{Narrows}
use Rattle.command.specs.Forms.{window}
use Rattle.command.specs.Limits.{slot_within}
use Rattle.command.specs.Causes.{Cause, first, form_causes}
use Rattle.form_lines.specs.Written.{write_refusal, writes, written_form}

-- where a cause of its own holds, the line does not matter, and of the causes only the first that holds does
writes_caused : (causes others : List Cause) (line other out : List ℕ) → first causes ≡ first others → (first others ≡ 0 → ⊥)
    → writes causes line out ≡ writes others other out
unfolding writes write_refusal first
writes_caused causes others line other out same some =
    by_test (ltb (length out) least_output) (λ t. rw t) (λ t. rw (t, same, ne_eqb (first others) 0 some))

-- of a window with a date that does not exist the first cause is 2 or 11, by the slot alone
undated_cause : (slot : ℕ) (begins ends : Date) → exists begins && exists ends ≡ false
    → first (form_causes (window slot begins ends)) ≡ choose (slot_within slot) (λ _. 11) (λ _. 2)
unfolding first
undated_cause slot begins ends h = rw h (by_test (slot_within slot) (λ t. rw t) (λ t. rw t))

some_cause : (t : Bool) → ◌≡◌ {A = ℕ} (choose t (λ _. 11) (λ _. 2)) 0 → ⊥
some_cause true e = omega (arith, e)
some_cause false e = omega (arith, e)

pub narrow_written : (slot : ℕ) (out : List ℕ) {b e d f : Date} → Narrows b d → Narrows e f → written_form (window slot d f) out ≡ written_form (window slot b e) out
unfolding written_form
narrow_written slot out {b} {e} {d} {f} p q =
    by_test
    (exists b && exists e)
    (λ t.
    let (x, y) = both (exists b) (exists e) t in
    ap (λ (z : Date). written_form (window slot z f) out) (p.equal x) ∙ ap (λ (z : Date). written_form (window slot b z) out) (q.equal y))
    (λ t.
    let cut : exists d && exists f ≡ false = rw (p.exists_alike, q.exists_alike) t in
    let wide = undated_cause slot b e t in
    writes_caused _ _ _ _ out (undated_cause slot d f cut ∙ sym wide) (λ z. some_cause (slot_within slot) (sym wide ∙ z)))
