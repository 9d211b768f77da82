-- The word is put before the edges.
use Prim.Native.Nat.{◌^◌, ◌<◌}
use lib.Signed.{mag}
use borrow.Author.Rules.{rules}
use native.Mathlib.Omega.{arith}
use Rattle.text.specs.Words.{bytes}
use Rattle.writing.proofs.PutsLaws.{one_put}
use Rattle.answers.specs.Answers.{line_of}
use Rattle.edge_lines.proofs.EdgeLaws.{edges_put}
use Rattle.edge_lines.proofs.at_line.Goals as goal

pub returns : goal.returns
unfolding line_of
returns c k =
    let x = c.args in
    let lower : mag x.edges.lower < 2 ^ 63 = search rules in
    let upper : mag x.edges.upper < 2 ^ 63 = search rules in
    edges_put (bytes "(at ") x.ticks x.edges (omega arith) (omega (arith, c.ranges)) lower upper (one_put c.put_bytes-at.ensures) c.put_edges.ensures
