-- Laws of a command and of a reading written back, by those of its form.
use mathlib.Core.Path.{◌≡◌, sym, ap, ◌∙◌}
use mathlib.Core.List.{List, ◌++◌}
use mathlib.Core.Logic.{◌↔◌}
use Prim.Native.Nat.{ℕ, ◌≤◌}
use lib.ListN.{length, drop}
use Rattle.writing.specs.Puts.{least_output}
use Rattle.command.specs.Spelling.{plain_spelling}
use Rattle.std.specs.Prelude.{Ok, Err}
use Rattle.command.specs.Limits.{form_of, Reading}
use Rattle.command.specs.Causes.{first, form_causes, own_causes}
use Rattle.command.specs.declared.Command.{Command}
use Rattle.form_lines.specs.Written.{WriteResult, write_result, written_form}
use Rattle.form_lines.proofs.WrittenLaws.{none_refusal, writes_line, form_accepts, Bounded, form_bounded, cause_bounded}
use Rattle.writer.specs.Written.{written, written_reading}

-- by the case that a command or a reading is
pub command_written : (out : List ℕ) {w : WriteResult} {c d : Command} → d ≡ c → w ≡ written_form (form_of c) out → w ≡ written d out
unfolding written
command_written out {w} {c} {d} e h = h ∙ ap (λ (x : Command). written_form (form_of x) out) (sym e)

pub reading_written : (out : List ℕ) {w : WriteResult} {r s : Reading} → s ≡ r → w ≡ written_reading r out → w ≡ written_reading s out
reading_written out {w} {r} {s} e h = h ∙ ap (λ (x : Reading). written_reading x out) (sym e)

-- number 0 exactly if there is room and no cause of the command's own holds
pub written_accepts : (c : Command) (out : List ℕ) → ((written c out).number ≡ 0) ↔ ((least_output ≤ length out) × (first (own_causes c) ≡ 0))
unfolding written own_causes
written_accepts c out = form_accepts (form_of c) out

-- and then the plain spelling of its form stands at the front
pub written_line : (c : Command) (out : List ℕ) → least_output ≤ length out → first (own_causes c) ≡ 0
    → written c out ≡ write_result 0 (length (plain_spelling (form_of c))) (plain_spelling (form_of c) ++ drop (length (plain_spelling (form_of c))) out)
unfolding written written_form own_causes
written_line c out room none = writes_line (form_causes (form_of c)) (plain_spelling (form_of c)) out (none_refusal (form_causes (form_of c)) out room none)

pub reading_bounded : (r : Reading) (out : List ℕ) → Bounded (written_reading r out)
unfolding written_reading written
reading_bounded (Ok c) out = form_bounded (form_of c) out
reading_bounded (Err r) out = cause_bounded r out
