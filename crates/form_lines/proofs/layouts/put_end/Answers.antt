-- The parts are put in the order of the definition, and are at most 20 + 1 + 43 + 1 bytes.
use Prim.Native.Nat.{◌^◌, ◌<◌}
use lib.Signed.{mag}
use borrow.Author.Rules.{rules}
use native.Mathlib.Omega.{arith}
use lib.ListN.{length-append}
use Rattle.numeral.proofs.Digits.{digits_most}
use Rattle.moment.proofs.Integers.{got}
use Rattle.writing.proofs.PutsLaws.{one_put, ◌then◌, pair_most}
use Rattle.form_lines.specs.Lines.{edged_end}
use Rattle.form_lines.proofs.layouts.put_end.Goals as goal

pub returns : goal.returns
unfolding edged_end
returns c =
    let x = c.args in
    let lower : mag x.edges.lower < 2 ^ 63 = search rules in
    let upper : mag x.edges.upper < 2 ^ 63 = search rules in (
      one_put c.put_number-at.ensures then one_put c.put_bytes-at.ensures then (rw (got x.edges.lower lower, got x.edges.upper upper) at c.put_pair-at.ensures.0) then one_put c.put_bytes.ensures,
      simp length-append (omega (arith, digits_most 19 x.n (omega (arith, c.ranges)), pair_most x.edges.lower x.edges.upper lower upper)),
    )
