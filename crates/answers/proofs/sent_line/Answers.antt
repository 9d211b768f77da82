-- The parts are put in the order of the definition, and are at most 6 + 3 + 1 + 10 + 1 bytes.
use mathlib.Core.List.{append_assoc}
use native.Mathlib.Omega.{arith}
use lib.ListN.{length-append}
use Rattle.numeral.proofs.Digits.{digits_most}
use Rattle.writing.proofs.PutsLaws.{one_put, ◌then◌, puts_same}
use Rattle.answers.specs.Answers.{line_of}
use Rattle.answers.proofs.sent_line.Goals as goal

pub returns : goal.returns
unfolding line_of
returns c k =
    record {
      puts = puts_same (one_put c.put_bytes-at.ensures
          then one_put c.put_number-at.ensures
          then one_put c.put_bytes-at-2.ensures
          then one_put c.put_number-at-2.ensures
          then one_put c.put_bytes.ensures) (simp append_assoc);
      short = (simp length-append (omega (arith, digits_most 2 c.args.peer (omega (arith, c.ranges)), digits_most 9 c.args.tag (omega (arith, c.ranges)))));
    }
