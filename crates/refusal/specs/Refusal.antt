-- The number of each cause of a refusal, as document 01 has it, 'Causes of a refusal'; 11 and 12 are of document 02, order 3.
use Rattle.std.specs.Prelude.{ℕ, Result, Ok, Err}
use Rattle.refusal.specs.declared.Refusal.{Refusal}
use Rattle.refusal.specs.declared.Refusal.TheVariants as R

abbrev pub number : Refusal → ℕ
number R.NoShape = 1
number R.OutsideLimits = 2
number R.OutOfTurn = 3
number R.OwnBoard = 4
number R.LeavesRange = 5
number R.PeerWaits = 6
number R.NoRequest = 7
number R.TooLate = 8
number R.TagsUsedUp = 9
number R.NoRoom = 10
number R.NoDate = 11
number R.EmptyWindow = 12

-- 'An accepted line returns 0': the number of what passed every test, or of the cause for which it was refused. No cause has the number 0.
abbrev pub number_of : {T : Type 0} → Result T Refusal → ℕ
number_of (Ok x) = 0
number_of (Err r) = number r
