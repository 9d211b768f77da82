-- The test is the definition's.
use mathlib.Core.Path.{refl}
use Rattle.flights.specs.Flights.{flight_within}
use Rattle.flights.proofs.time_within.Goals as goal

pub returns : goal.returns
unfolding flight_within
returns c = refl
