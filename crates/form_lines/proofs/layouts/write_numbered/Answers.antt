-- Refused by its cause, or the three parts one after the other, at most 16 + 20 + 1 bytes.
use Rattle.std.proofs.lemmas.Result.{err_from_is_err_and}
use native.Mathlib.Omega.{arith}
use lib.ListN.{length-append}
use Rattle.numeral.proofs.Digits.{digits_most}
use Rattle.writing.proofs.PutsLaws.{one_put, ◌then◌}
use Rattle.form_lines.specs.Written.{write_refusal}
use Rattle.form_lines.specs.Lines.{numbered_line}
use Rattle.form_lines.proofs.WrittenLaws.{writes_err, passed, writes_put}
use Rattle.form_lines.proofs.layouts.write_numbered.Goals as goal

pub returns-in_err-tested : goal.returns-in_err-tested
unfolding write_refusal
returns-in_err-tested c =
    let p = err_from_is_err_and c.from_residual.result c.from_residual.ensures.1 in
    rw (p.1, p.2) (writes_err _ _ _ c.in_err-tested.was c.tested.ensures)

pub returns : goal.returns
unfolding write_refusal numbered_line
returns c =
    writes_put
    _
    _
    _
    _
    _
    (passed _ _ c.in_ok-tested.was c.tested.ensures)
    (simp length-append (omega (arith, c.requires, digits_most 19 c.args.n (omega (arith, c.ranges)))))
    (one_put c.put_bytes-at.ensures then one_put c.put_number-at.ensures then one_put c.put_bytes-length.ensures)
