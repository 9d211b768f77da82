-- The parts are put in the order of the definition.
use Prim.Native.Nat.{◌^◌, ◌<◌}
use lib.Signed.{mag}
use borrow.Author.Rules.{rules}
use mathlib.Core.List.{append_assoc}
use Rattle.moment.proofs.Integers.{got}
use Rattle.writing.proofs.PutsLaws.{one_put, ◌then◌, puts_same}
use Rattle.answers.specs.Answers.{edges_line}
use Rattle.edge_lines.proofs.put_edges.Goals as goal

pub returns : goal.returns
unfolding edges_line
returns c =
    let x = c.args in
    let lower : mag x.edges.lower < 2 ^ 63 = search rules in
    let upper : mag x.edges.upper < 2 ^ 63 = search rules in
    puts_same
    (one_put c.put_number-at.ensures
    then one_put c.put_bytes-at.ensures
    then (rw (got x.edges.lower lower, got x.edges.upper upper) at c.put_pair-at.ensures.0)
    then one_put c.put_bytes.ensures)
    (simp append_assoc)
