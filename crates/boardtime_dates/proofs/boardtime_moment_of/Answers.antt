-- The date that the calendar is asked for was cut to its fields, which changes neither its
-- number nor its moment; the moment is an i64, so that storing its bits loses nothing.
use Rattle.std.proofs.Common.{refl, rules}
use Rattle.moment.proofs.Integers.{got}
use Rattle.boardtime_dates.proofs.CallLaws.{moment_called}
use Rattle.boardtime_dates.proofs.boardtime_moment_of.Goals as goal

pub returns-in-Ok : goal.returns-in-Ok
returns-in-Ok c = moment_called c.date_from.ensures c.in-Ok.ensures refl (got c.in-Ok.begins (search rules))

pub returns-in-Err : goal.returns-in-Err
returns-in-Err c = moment_called c.date_from.ensures c.in-Err.ensures c.number.ensures refl
