-- Laws of the days of years: one year more, the closed form up to the year 2099, and the bounds of a year's length.
use mathlib.Core.Path.{◌≡◌, refl}
use Prim.Native.Nat.{ℕ, zero, suc, ◌+◌, ◌-◌, ◌*◌, ◌/◌, ◌≤◌, ◌<◌}
use native.Mathlib.Omega.{arith}
use borrow.Author.Tests.{eqb-true}
use lib.Dec.{eqb}
use Rattle.bits.specs.Below.{all_below}
use Rattle.bits.proofs.Below.{all_at}
use Rattle.bits.proofs.Tests.{by_test}
use Rattle.calendar.specs.Calendar.{first_year, leap, year_length, days_of_years}

pub years_more : (n : ℕ) → days_of_years (suc n) ≡ days_of_years n + year_length (first_year + n)
unfolding days_of_years
years_more n = refl

-- of the years that 4 divides only 1900 is not leap: tried at each of the two hundred
year_rule : (n : ℕ) → n < 200 → year_length (first_year + n) + (n - 1) / 4 ≡ 365 + n / 4
unfolding all_below leap year_length
year_rule n h =
    eqb-true
    (year_length (first_year + n) + (n - 1) / 4)
    (365 + n / 4)
    (all_at 200 (λ (k : ℕ). eqb (year_length (first_year + k) + (k - 1) / 4) (365 + k / 4)) refl n h)

pub years_closed : (n : ℕ) → n ≤ 200 → days_of_years n ≡ 365 * n + (n - 1) / 4
unfolding days_of_years
years_closed zero h = refl
years_closed (suc n) h = omega (arith, years_closed n (omega arith), year_rule n h)

pub years_end : days_of_years 200 ≡ 73049
years_end = years_closed 200 (omega arith)

pub year_least : (y : ℕ) → 365 ≤ year_length y
unfolding year_length
year_least y = by_test (leap y) (λ e. rw e (omega arith)) (λ e. rw e (omega arith))

pub year_most : (y : ℕ) → year_length y ≤ 366
unfolding year_length
year_most y = by_test (leap y) (λ e. rw e (omega arith)) (λ e. rw e (omega arith))

-- a year ends where or before a later one begins
pub years_apart : (a b : ℕ) → a < b → b ≤ 200 → days_of_years a + year_length (first_year + a) ≤ days_of_years b
years_apart a b h l = omega (arith, years_more a, years_closed (suc a) (omega arith), years_closed b l)
