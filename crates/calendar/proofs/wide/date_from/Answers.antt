-- No number of a date that exists is as large as the greatest of its field, so a number that was
-- cut stands in no date that exists, before or after.
use native.Mathlib.Omega.{arith}
use Rattle.calendar.proofs.NarrowLaws.{narrowed, cut}
use Rattle.calendar.proofs.wide.date_from.Goals as goal

pub returns : goal.returns
returns c =
    let year = cut _ _ _ _ _ c.try_from.ensures c.unwrap_or.ensures in
    let month = cut _ _ _ _ _ c.try_from-2.ensures c.unwrap_or-2.ensures in
    let day = cut _ _ _ _ _ c.try_from-3.ensures c.unwrap_or-3.ensures in
    let hour = cut _ _ _ _ _ c.try_from-4.ensures c.unwrap_or-4.ensures in
    let minute = cut _ _ _ _ _ c.try_from-5.ensures c.unwrap_or-5.ensures in
    let second = cut _ _ _ _ _ c.try_from-6.ensures c.unwrap_or-6.ensures in
    narrowed (omega (arith, year, month, day, hour, minute, second))
