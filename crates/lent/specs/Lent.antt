-- What a pass of a lent keeper promises: the number returned and the keeper left behind the reference are those of the pass by value.
use Rattle.std.specs.Prelude.{◌≡◌, ℕ}
use Rattle.command.specs.declared.Command.TheVariants as C
use Rattle.keeper.specs.Apply.{apply, number_of}
use Rattle.keeper.specs.declared.Keeper.{Keeper}

pub record PassLent (before : Keeper) (ticks : ℕ) (number : ℕ) (after : Keeper) : Type 0 where
  pub number_is : number ≡ number_of (apply before (C.Pass ticks)).answer
  pub keeper_is : after ≡ (apply before (C.Pass ticks)).keeper
