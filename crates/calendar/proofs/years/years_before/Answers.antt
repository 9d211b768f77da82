-- By the closed form of the days of the years, on either side of the test.
use Prim.Native.Nat.{◌+◌, ◌/◌, ◌<◌}
use native.Mathlib.Omega.{arith}
use Rattle.calendar.proofs.YearLaws.{years_closed, years_end}
use Rattle.calendar.proofs.years.years_before.Goals as goal

pub days_of_years-requires : goal.days_of_years-requires
days_of_years-requires c = omega (arith, years_end)

pub returns-then-days_of_years-day : goal.returns-then-days_of_years-day
returns-then-days_of_years-day c =
    let years = c.args.day / 366 in
    let h = years_closed (years + 1) (omega (arith, years_end)) in
    let few : years + 1 < 200 = omega (arith, years_end) in
    omega (arith, few, years_closed (years + 1 + 1) (omega (arith, few)))

pub returns-else-days_of_years-day : goal.returns-else-days_of_years-day
returns-else-days_of_years-day c =
    let years = c.args.day / 366 in
    omega (arith, years_end, years_closed years (omega (arith, years_end)))
