-- The word of the finding is put before the edges.
use Prim.Native.Nat.{◌^◌, ◌<◌}
use lib.Signed.{mag}
use borrow.Author.Rules.{rules}
use native.Mathlib.Omega.{arith}
use Rattle.answers.specs.Answers.{finding_word, line_of}
use Rattle.edge_lines.proofs.EdgeLaws.{edges_put, word_most}
use Rattle.edge_lines.proofs.replied_line.Goals as goal

pub returns : goal.returns
unfolding line_of
returns c k =
    let x = c.args in
    let f = x.verdict.finding in
    let edges = x.verdict.edges in
    let lower : mag edges.lower < 2 ^ 63 = search rules in
    let upper : mag edges.upper < 2 ^ 63 = search rules in
    edges_put (finding_word f) x.peer edges (word_most f) (omega (arith, c.ranges)) lower upper c.put_finding-at.ensures c.put_edges.ensures
