-- The request is ended with the verdict's edges and count.
use Rattle.keeper.specs.Apply.{replied}
use Rattle.keeper.proofs.steps.replied_with.Goals as goal

pub returns : goal.returns
unfolding replied
returns c = rw (c.ended_with.ensures, c.conflicts_after-conflicts.ensures)
