-- The day lies in the year and in the month that the two searches found, so that no difference is
-- below zero, and the day of the month is one of its days.
use native.Mathlib.Omega.{arith}
use Rattle.calendar.proofs.DateLaws.{at_both}
use Rattle.calendar.proofs.convert.date_at.Goals as goal

pub returns : goal.returns
returns c =
    at_both _ _ _ _ _ _ _ (omega arith) (omega arith) (omega arith) (omega arith) (omega arith) (omega arith) (omega arith) (omega arith)
