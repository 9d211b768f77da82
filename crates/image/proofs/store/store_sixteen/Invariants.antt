-- The numbers before the next one were put.
use Rattle.image.proofs.StoreLaws.{Filled}
use Rattle.image.proofs.store.store_sixteen.Given as goal

abbrev pub invariant-loop-p : goal.invariant-loop-p
invariant-loop-p g l = Filled g.N.Number.bits g.row.WIDTH l.at l.p l.numbers l.initial.image l.image
