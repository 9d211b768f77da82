-- The Gregorian calendar, years 1900 through 2099: document 02, order 3. A date is six numbers; whether it exists is asked of any six.
use Rattle.std.specs.Prelude.{Bool, not, ◌&&◌, ◌||◌, List, [], ◌∷◌, ℕ, zero, suc, ◌+◌, ◌-◌, ◌*◌, ◌%◌, leb, ltb, eqb, get_or, take}
use Rattle.bits.specs.Choice.{choose}
use Rattle.calendar.specs.declared.Date.{Date}

-- 'years 1900 through 2099'
abbrev pub first_year : ℕ
first_year = 1900

abbrev pub last_year : ℕ
last_year = 2099

abbrev pub divides : ℕ → ℕ → Bool
divides k n = eqb (n % k) 0

-- 'Gregorian calendar': a year is leap if 4 divides it and 100 does not, or if 400 does.
unfoldable pub leap : ℕ → Bool
leap year = (divides 4 year && not (divides 100 year)) || divides 400 year

unfoldable pub year_length : ℕ → ℕ
year_length year = choose (leap year) (λ _. 366) (λ _. 365)

-- The days of each month of the year, January first.
unfoldable pub month_lengths : ℕ → List ℕ
month_lengths year =
    31 ∷ choose (leap year) (λ _. 29) (λ _. 28) ∷ 31 ∷ 30 ∷ 31 ∷ 30 ∷ 31 ∷ 31 ∷ 30 ∷ 31 ∷ 30 ∷ 31 ∷ []

unfoldable pub month_length : ℕ → ℕ → ℕ
month_length year month = get_or (month_lengths year) (month - 1) 0

-- '1900-02-29 doesn't exist; 2000-02-29 does.' The year is 1900 through 2099, the month 1 through 12, and the day 1 through the month's length.
unfoldable pub day_exists : ℕ → ℕ → ℕ → Bool
day_exists year month day =
    leb first_year year && (leb year last_year && (leb 1 month && (leb month 12 && (leb 1 day && leb day (month_length year month)))))

-- From 00:00:00 through 23:59:59, 'on a scale without leap seconds'.
unfoldable pub time_exists : ℕ → ℕ → ℕ → Bool
time_exists hour minute second = ltb hour 24 && (ltb minute 60 && ltb second 60)

unfoldable pub exists : Date → Bool
exists d = day_exists d.year d.month d.day && time_exists d.hour d.minute d.second

-- The days of the n years from 1900 on.
unfoldable pub days_of_years : ℕ → ℕ
days_of_years zero = 0
days_of_years (suc n) = days_of_years n + year_length (first_year + n)

unfoldable pub sum : List ℕ → ℕ
sum [] = 0
sum (n ∷ ns) = n + sum ns

-- The days of the first n months of the year.
unfoldable pub days_of_months : ℕ → ℕ → ℕ
unfolding sum
days_of_months year n = sum (take n (month_lengths year))

-- The days from 1900-01-01 to the date: those of the years before, of the months before, and of the month before the day.
unfoldable pub day_number : Date → ℕ
day_number d = days_of_years (d.year - first_year) + days_of_months d.year (d.month - 1) + (d.day - 1)

-- The seconds from 1900-01-01T00:00:00 to the date, 'on a scale without leap seconds'.
unfoldable pub second_number : Date → ℕ
second_number d = day_number d * 86400 + d.hour * 3600 + d.minute * 60 + d.second
