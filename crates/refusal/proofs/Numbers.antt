-- No refusal has the number 0, by which an accepted line is known.
use Rattle.std.specs.Prelude.{◌≡◌, refl, false, eqb}
use Rattle.refusal.specs.declared.Refusal.{Refusal}
use Rattle.refusal.specs.declared.Refusal.TheVariants as R
use Rattle.refusal.specs.Refusal.{number}

pub not_zero : (r : Refusal) → eqb (number r) 0 ≡ false
not_zero R.NoShape = refl
not_zero R.OutsideLimits = refl
not_zero R.OutOfTurn = refl
not_zero R.OwnBoard = refl
not_zero R.LeavesRange = refl
not_zero R.PeerWaits = refl
not_zero R.NoRequest = refl
not_zero R.TooLate = refl
not_zero R.TagsUsedUp = refl
not_zero R.NoRoom = refl
not_zero R.NoDate = refl
not_zero R.EmptyWindow = refl
