-- Refused by its cause, or the word put at the front.
use Rattle.std.proofs.lemmas.Result.{err_from_is_err_and}
use native.Mathlib.Omega.{arith}
use Rattle.writing.proofs.PutsLaws.{one_put}
use Rattle.form_lines.specs.Written.{write_refusal}
use Rattle.form_lines.proofs.WrittenLaws.{writes_err, passed, writes_put}
use Rattle.form_lines.proofs.layouts.write_bare.Goals as goal

pub returns-in_err-tested : goal.returns-in_err-tested
unfolding write_refusal
returns-in_err-tested c =
    let p = err_from_is_err_and c.from_residual.result c.from_residual.ensures.1 in
    rw (p.1, p.2) (writes_err _ _ _ c.in_err-tested.was c.tested.ensures)

pub returns : goal.returns
unfolding write_refusal
returns c =
    writes_put _ _ _ _ _ (passed _ _ c.in_ok-tested.was c.tested.ensures) (omega (arith, c.requires)) (one_put c.put_bytes-length.ensures)
