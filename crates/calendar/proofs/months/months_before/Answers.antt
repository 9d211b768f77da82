-- The days of the months are near their closed form, on either side of the test.
use Prim.Native.Nat.{◌+◌, ◌/◌, ◌≤◌, ◌<◌}
use native.Mathlib.Omega.{arith}
use Rattle.calendar.specs.Calendar.{days_of_months}
use Rattle.calendar.proofs.YearLaws.{year_most}
use Rattle.calendar.proofs.MonthLaws.{months_few, months_near}
use Rattle.calendar.proofs.months.months_before.Goals as goal

pub days_of_months-requires : goal.days_of_months-requires
days_of_months-requires c = omega (arith, year_most c.args.year)

pub returns-then-days_of_months-day : goal.returns-then-days_of_months-day
returns-then-days_of_months-day c =
    let year = c.args.year in
    let day = c.args.day in
    let months = day / 31 in
    let begun : days_of_months year (months + 1) ≤ day = omega arith in
    let few = months_few year (months + 1) day (omega (arith, year_most year)) begun c.requires in
    omega (arith, few, begun, months_near year (months + 1 + 1) (omega (arith, few)))

pub returns-else-days_of_months-day : goal.returns-else-days_of_months-day
returns-else-days_of_months-day c =
    let year = c.args.year in
    let months = c.args.day / 31 in
    let few : months < 12 = omega (arith, year_most year) in
    omega (arith, few, months_near year months (omega arith))
