-- The fields are the definition's.
use mathlib.Core.Path.{refl}
use Rattle.keeper.specs.State.{fresh}
use Rattle.keeper.proofs.Keeper.fresh.Goals as goal

pub returns : goal.returns
unfolding fresh
returns c =
    refl
