-- A date that exists has its year, month and day within their bounds, so that no
-- difference is below zero and no sum is too large.
use native.Mathlib.Omega.{arith}
use Rattle.calendar.proofs.DateLaws.{parts}
use Rattle.calendar.proofs.convert.second_number.Goals as goal

pub overflow_sub-year : goal.overflow_sub-year
overflow_sub-year c =
    omega (arith, parts c.args.date c.requires)

pub days_of_years-requires : goal.days_of_years-requires
days_of_years-requires c =
    omega (arith, parts c.args.date c.requires)
