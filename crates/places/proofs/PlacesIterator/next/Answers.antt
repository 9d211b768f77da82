-- The zeros below the lowest bit that is set are counted, and the mask below takes that bit off.
use native.Mathlib.Omega.{arith}
use Rattle.bits.proofs.BitLaws.{lowest_cleared}
use Rattle.places.proofs.Lowest.{lowest}
use Rattle.places.proofs.PlacesIterator.next.Goals as goal

pub returns-clause-steps : goal.returns-clause-steps
returns-clause-steps c =
    let rest = c.args.self.now.rest in
    (lowest rest (omega (arith, c.if-rest-eq0.false)) (omega arith), lowest_cleared 16 rest (omega (arith, c.if-rest-eq0.false)) (omega arith))
