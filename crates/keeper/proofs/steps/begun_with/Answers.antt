-- The other fields are a fresh keeper's, as in the definition.
use Rattle.keeper.specs.Apply.{begun}
use Rattle.keeper.proofs.steps.begun_with.Goals as goal

pub returns : goal.returns
unfolding begun
returns c = rw c.fresh.ensures
