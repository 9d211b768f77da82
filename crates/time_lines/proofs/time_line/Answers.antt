-- The parts are put in the order of the definition, and are at most 6 + 43 + 1 + 43 + 1 + 10 + 1 + 10 + 1 bytes.
use Prim.Native.Nat.{◌^◌, ◌<◌}
use lib.Signed.{mag}
use borrow.Author.Rules.{rules}
use native.Mathlib.Omega.{arith}
use mir.Facts.{to_z-of_z}
use lib.ListN.{length-append}
use Rattle.text.specs.Words.{bytes}
use Rattle.numeral.proofs.Digits.{digits_most}
use Rattle.moment.proofs.Integers.{got}
use Rattle.writing.specs.Puts.{pair}
use Rattle.writing.proofs.PutsLaws.{one_put, ◌then◌, pair_most, puts_same}
use Rattle.answers.specs.Answers.{line_of}
use Rattle.time_lines.proofs.TimeLaws.{time_parts}
use Rattle.time_lines.proofs.time_line.Goals as goal

pub returns : goal.returns
unfolding line_of
returns c k =
    let x = c.args in
    let lower : mag x.edges.lower < 2 ^ 63 = search rules in
    let upper : mag x.edges.upper < 2 ^ 63 = search rules in
    record {
      puts = puts_same
          (one_put c.put_bytes-at.ensures
          then (rw (got x.edges.lower lower, got x.edges.upper upper) at c.put_pair-at.ensures.0)
          then one_put c.put_bytes-at-2.ensures
          then (rw (to_z-of_z c.ranges.centre, to_z-of_z c.ranges.error) at c.put_pair-at-2.ensures.0)
          then c.put_counts.ensures)
          (time_parts (bytes "(time ") (pair x.edges.lower x.edges.upper) (pair x.centre x.error) x.conflicts x.waiting);
      short =
          simp length-append
          (omega (
            arith,
            pair_most x.edges.lower x.edges.upper lower upper,
            pair_most x.centre x.error c.ranges.centre.sfits c.ranges.error.sfits,
            digits_most 9 x.conflicts (omega (arith, c.ranges.conflicts)),
            digits_most 9 x.waiting (omega (arith, c.ranges.waiting)),
          ));
    }
