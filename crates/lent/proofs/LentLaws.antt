-- The law of a lent keeper's pass: if the number is not 0, the keeper is left as it was.
use mathlib.Core.Path.{◌≡◌, ◌∙◌}
use Prim.Native.Nat.{ℕ}
use Rattle.command.specs.declared.Command.TheVariants as C
use Rattle.lent.specs.Lent.{PassLent}
use Rattle.keeper.specs.declared.Keeper.{Keeper}
use Rattle.keeper.proofs.Returned.{refused_keeps}

pub refused_stays : {before after : Keeper} {ticks number : ℕ} → PassLent before ticks number after → (number ≡ 0 → ⊥) → after ≡ before
refused_stays {before} {ticks = ticks} lent h = lent.keeper_is ∙ refused_keeps before (C.Pass ticks) (λ e. h (lent.number_is ∙ e))
