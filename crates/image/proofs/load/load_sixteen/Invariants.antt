-- The numbers before the next one were read.
use Rattle.image.proofs.LoadLaws.{Loaded}
use Rattle.image.proofs.load.load_sixteen.Given as goal

abbrev pub invariant-loop-p : goal.invariant-loop-p
invariant-loop-p g l = Loaded g.N.Number.of_bits g.row.WIDTH l.at l.p l.image l.n-items
