-- The parts are put in the order of the definition, and are at most 3 * 20 + 2 + 1 + 2 bytes.
use native.Mathlib.Omega.{arith}
use lib.ListN.{length-append}
use Rattle.numeral.proofs.Digits.{digits_most}
use Rattle.writing.proofs.PutsLaws.{one_put, ◌then◌}
use Rattle.form_lines.specs.Lines.{timed_end}
use Rattle.form_lines.proofs.layouts.put_times.Goals as goal

pub returns : goal.returns
unfolding timed_end
returns c =
    let x = c.args in (
      one_put c.put_number-at.ensures then one_put c.put_bytes-at.ensures then one_put c.put_number-at-2.ensures then one_put c.put_bytes-at-2.ensures then one_put c.put_number-at-3.ensures then one_put c.put_bytes.ensures,
      simp length-append (omega (arith, digits_most 19 x.n (omega (arith, c.ranges)), digits_most 19 x.first (omega (arith, c.ranges)), digits_most 19 x.second (omega (arith, c.ranges)))),
    )
