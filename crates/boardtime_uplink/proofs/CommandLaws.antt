-- A call that returns number and length of what was written as one number.
use mathlib.Core.Path.{◌≡◌, sym, ap, ◌∙◌, subst}
use mathlib.Core.List.{List}
use Prim.Native.Nat.{ℕ, ◌+◌, ◌*◌, ◌≤◌}
use lib.IntN.{ℤ}
use Rattle.moment.specs.Intervals.{interval}
use Rattle.moment.specs.declared.Interval.{Interval}
use Rattle.writing.specs.Puts.{least_output}
use Rattle.form_lines.specs.Written.{WriteResult, write_result}
use Rattle.boardtime_uplink.specs.Commands.{Returns}

module _ {w : WriteResult} {n l : ℕ} {b : List ℕ} (e : write_result n l b ≡ w) where
  pub length_fits : w.length ≤ least_output → l ≤ least_output
  length_fits h = subst (λ (k : ℕ). k ≤ least_output) (sym (ap (λ (x : WriteResult). x.length) e)) h

  pub returns_it : {r : ℕ} → r ≡ n + 256 * l → Returns w r b
  returns_it h = record { returned = h ∙ ap (λ (x : WriteResult). x.number + 256 * x.length) e; output = ap (λ (x : WriteResult). x.buffer) e }

-- the edges that were passed on, said another way
pub same_edges : (result : Interval → WriteResult) {w : WriteResult} {a b c d : ℤ} → a ≡ c → b ≡ d → w ≡ result (interval a b) → w ≡ result (interval c d)
same_edges result {w} {a} {b} {c} {d} e f h = h ∙ ap (λ (x : ℤ). result (interval x b)) e ∙ ap (λ (x : ℤ). result (interval c x)) f
