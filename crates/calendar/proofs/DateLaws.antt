-- What is known of a date that exists, the order of dates by the seconds before them, and the date of every second of the two hundred years.
use mathlib.Core.Path.{◌≡◌, refl, sym, ◌∙◌, ap}
use mathlib.Core.Bool.{true}
use Prim.Native.Nat.{ℕ, zero, suc, ◌+◌, ◌-◌, ◌*◌, ◌/◌, ◌%◌, ◌≤◌, ◌<◌}
use native.Mathlib.Numerals.{add-one}
use native.Mathlib.Omega.{arith}
use lib.Dec.{leb, ltb}
use borrow.Author.Tests.{leb-true, leb-false, ltb-true, ltb-false, le-leb, lt-ltb}
use Rattle.bits.proofs.Tests.{both, join, by_test}
use Rattle.calendar.specs.declared.Date.{Date}
use Rattle.calendar.specs.Calendar.{first_year, last_year, leap, year_length, month_lengths, month_length, day_exists, time_exists, exists, days_of_years, days_of_months, day_number, second_number}
use Rattle.calendar.specs.Conversion.{date, epoch, Earlier, by_year, by_month, by_day, by_hour, by_minute, by_second}
use Rattle.calendar.proofs.YearLaws.{years_apart, years_end, years_more}
use Rattle.calendar.proofs.MonthLaws.{months_apart, months_all, months_none, months_more, month_most}

-- What the test of a date says of its numbers.
pub record Parts (d : Date) : Type 0 where
  pub year_from : first_year ≤ d.year
  pub year_through : d.year ≤ last_year
  pub month_from : 1 ≤ d.month
  pub month_through : d.month ≤ 12
  pub day_from : 1 ≤ d.day
  pub day_through : d.day ≤ month_length d.year d.month
  pub hour_below : d.hour < 24
  pub minute_below : d.minute < 60
  pub second_below : d.second < 60

pub parts : (d : Date) → exists d ≡ true → Parts d
unfolding exists day_exists time_exists
parts d e =
    let (day, time) = both _ _ e in
    let (a, day-1) = both _ _ day in
    let (b, day-2) = both _ _ day-1 in
    let (c, day-3) = both _ _ day-2 in
    let (f, day-4) = both _ _ day-3 in
    let (g, h) = both _ _ day-4 in
    let (i, time-1) = both _ _ time in
    let (j, k) = both _ _ time-1 in
    record {
      year_from = leb-true _ _ a;
      year_through = leb-true _ _ b;
      month_from = leb-true _ _ c;
      month_through = leb-true _ _ f;
      day_from = leb-true _ _ g;
      day_through = leb-true _ _ h;
      hour_below = ltb-true _ _ i;
      minute_below = ltb-true _ _ j;
      second_below = ltb-true _ _ k;
    }

-- and a date with these parts exists
pub made : (d : Date) → Parts d → exists d ≡ true
unfolding exists day_exists time_exists
made d p =
    join
    (join (le-leb _ _ p.year_from) (join (le-leb _ _ p.year_through) (join (le-leb _ _ p.month_from) (join (le-leb _ _ p.month_through) (join (le-leb _ _ p.day_from) (le-leb _ _ p.day_through))))))
    (join (lt-ltb _ _ p.hour_below) (join (lt-ltb _ _ p.minute_below) (lt-ltb _ _ p.second_below)))

-- six equal numbers are one date
pub same_date : {d e : Date} → d.year ≡ e.year → d.month ≡ e.month → d.day ≡ e.day → d.hour ≡ e.hour → d.minute ≡ e.minute → d.second ≡ e.second → d ≡ e
same_date {d} {e} a b c f g h =
    let k : date d.year d.month d.day d.hour d.minute d.second ≡ date e.year e.month e.day e.hour e.minute e.second = cc in
    k

-- The days of a month and of those before it are at most the days of those before a later month.
month_order : (y m n : ℕ) → 1 ≤ m → m < n → n ≤ 13 → days_of_months y (m - 1) + month_length y m ≤ days_of_months y (n - 1)
month_order y m n h k l =
    let e : suc (m - 1) ≡ m = omega arith in
    omega (arith, months_apart y (m - 1) (n - 1) (omega arith) (omega arith), ap (month_length y) e)

-- a date lies within its year
pub within_year : (d : Date) → Parts d → days_of_months d.year (d.month - 1) + (d.day - 1) < year_length d.year
within_year d p = omega (arith, month_order d.year d.month 13 p.month_from (omega arith) (omega arith), months_all d.year)

-- The days of the years through a date's own are at most those of the years before a later year.
year_order : (d : Date) → Parts d → (n : ℕ) → d.year < n → n ≤ 2100 → days_of_years (d.year - first_year) + year_length d.year ≤ days_of_years (n - first_year)
year_order d p n h k =
    let e : first_year + (d.year - first_year) ≡ d.year = omega arith in
    omega (arith, years_apart (d.year - first_year) (n - first_year) (omega arith) (omega arith), ap year_length e)

-- every day is one of the two hundred years'
pub day_most : (d : Date) → Parts d → day_number d < days_of_years 200
unfolding day_number
day_most d p = omega (arith, year_order d p 2100 (omega arith) (omega arith), within_year d p)

-- and every second
pub second_most : (d : Date) → Parts d → second_number d < 73049 * 86400
unfolding second_number
second_most d p = omega (arith, day_most d p, years_end)

-- the day's part of the order
day_year : (d e : Date) → Parts d → Parts e → d.year < e.year → day_number d < day_number e
unfolding day_number
day_year d e p q h = omega (arith, year_order d p e.year h (omega arith), within_year d p)

day_month : (d e : Date) → Parts d → Parts e → d.year ≡ e.year → d.month < e.month → day_number d < day_number e
unfolding day_number
day_month d e p q y h =
    omega (arith, month_order d.year d.month e.month p.month_from h (omega arith), ap (λ y. days_of_years (y - first_year)) y, ap (λ y. days_of_months y (e.month - 1)) y)

day_day : (d e : Date) → Parts d → Parts e → d.year ≡ e.year → d.month ≡ e.month → d.day < e.day → day_number d < day_number e
unfolding day_number
day_day d e p q y m h =
    omega (arith, ap (λ y. days_of_years (y - first_year)) y, ap (λ y. days_of_months y (d.month - 1)) y, ap (λ m. days_of_months e.year (m - 1)) m)

day_same : (d e : Date) → d.year ≡ e.year → d.month ≡ e.month → d.day ≡ e.day → day_number d ≡ day_number e
unfolding day_number
day_same d e y m h =
    omega (arith, ap (λ y. days_of_years (y - first_year)) y, ap (λ y. days_of_months y (d.month - 1)) y, ap (λ m. days_of_months e.year (m - 1)) m)

-- an earlier date has fewer seconds before it
pub later_second : {d e : Date} → Parts d → Parts e → Earlier d e → second_number d < second_number e
unfolding second_number
later_second {d} {e} p q (by_year h) = omega (arith, day_year d e p q h)
later_second {d} {e} p q (by_month y h) = omega (arith, day_month d e p q y h)
later_second {d} {e} p q (by_day y m h) = omega (arith, day_day d e p q y m h)
later_second {d} {e} p q (by_hour y m a h) = omega (arith, day_same d e y m a)
later_second {d} {e} p q (by_minute y m a b h) = omega (arith, day_same d e y m a)
later_second {d} {e} p q (by_second y m a b c h) = omega (arith, day_same d e y m a)

-- of two numbers one is the smaller, or they are equal
three : {P : Type 0} (a b : ℕ) → (a < b → P) → (b < a → P) → (a ≡ b → P) → P
three a b f g h =
    by_test (ltb a b) (λ e. f (ltb-true a b e)) (λ e. by_test (ltb b a) (λ k. g (ltb-true b a k)) (λ k. h (omega (arith, ltb-false a b e, ltb-false b a k))))

-- of two dates one is the earlier, or they are equal
pub compared : {P : Type 0} (d e : Date) → (Earlier d e → P) → (Earlier e d → P) → (d ≡ e → P) → P
compared d e f g h =
    three d.year e.year (λ k. f (by_year k)) (λ k. g (by_year k)) (λ y.
    three d.month e.month (λ k. f (by_month y k)) (λ k. g (by_month (sym y) k)) (λ m.
    three d.day e.day (λ k. f (by_day y m k)) (λ k. g (by_day (sym y) (sym m) k)) (λ a.
    three d.hour e.hour (λ k. f (by_hour y m a k)) (λ k. g (by_hour (sym y) (sym m) (sym a) k)) (λ b.
    three d.minute e.minute (λ k. f (by_minute y m a b k)) (λ k. g (by_minute (sym y) (sym m) (sym a) (sym b) k)) (λ c.
    three d.second e.second (λ k. f (by_second y m a b c k)) (λ k. g (by_second (sym y) (sym m) (sym a) (sym b) (sym c) k)) (λ s.
    h (same_date y m a b c s)))))))

-- the step of a growing count in which a number lies
step_of : (f : ℕ → ℕ) (n x : ℕ) → f 0 ≡ 0 → x < f n → (k : ℕ) × (k < n) × (f k ≤ x) × (x < f (suc k))
step_of f zero x z h = absurd (omega arith)
step_of f (suc n) x z h =
    by_test (leb (f n) x)
    (λ e. (n, omega arith, leb-true (f n) x e, h))
    (λ e. let (k, below, from, to) = step_of f n x z (leb-false (f n) x e) in (k, omega arith, from, to))

-- the days from one year to the next, and from one month to the next
pub year_holds : (k : ℕ) → days_of_years (k + 1) ≡ days_of_years k + year_length (1900 + k)
year_holds k = ap days_of_years (add-one k) ∙ years_more k

pub month_holds : (y m : ℕ) → m < 12 → days_of_months y (m + 1) ≤ days_of_months y m + 31
month_holds y m h = rw add-one (omega (arith, months_more y m h, month_most y (suc m)))

-- A date whose numbers add up to a second exists and has that number: its day lies in the month after m, of the year after k.
module _ (s k m day hour minute second : ℕ) (years : k < 200) (months : m < 12) (from : 1 ≤ day) (through : days_of_months (1900 + k) m + day ≤ days_of_months (1900 + k) (m + 1)) (day-is : days_of_years k + days_of_months (1900 + k) m + day ≡ s / 86400 + 1) (minutes : minute < 60) (seconds : second < 60) (time-is : hour * 3600 + minute * 60 + second ≡ s % 86400) where
  at_exists : exists (date (1900 + k) (m + 1) day hour minute second) ≡ true
  at_exists =
      made (date (1900 + k) (m + 1) day hour minute second) (omega (arith, months_more (1900 + k) m months, ap (days_of_months (1900 + k)) (add-one m), ap (month_length (1900 + k)) (add-one m)))

  at_second : second_number (date (1900 + k) (m + 1) day hour minute second) ≡ s
  unfolding second_number day_number
  at_second =
      let e : 1900 + k - first_year ≡ k = omega arith in
      let f : m + 1 - 1 ≡ m = omega arith in
      omega (arith, ap days_of_years e, ap (days_of_months (1900 + k)) f)

  pub at_both : (exists (date (1900 + k) (m + 1) day hour minute second) ≡ true) × (second_number (date (1900 + k) (m + 1) day hour minute second) ≡ s)
  at_both = (at_exists, at_second)

-- no days before the first year
years_none : days_of_years 0 ≡ 0
unfolding days_of_years
years_none = refl

-- the date of a second, in the month that is found, and then in the year that is found
in_month : (s k m : ℕ) → k < 200 → days_of_years k ≤ s / 86400 → m < 12 → days_of_months (1900 + k) m ≤ s / 86400 - days_of_years k → s / 86400 - days_of_years k < days_of_months (1900 + k) (suc m) → (d : Date) × (exists d ≡ true) × (second_number d ≡ s)
in_month s k m years begun months month-begun month-on =
    let day = s / 86400 - days_of_years k - days_of_months (1900 + k) m + 1 in
    let hour = s % 86400 / 3600 in
    let minute = s % 86400 / 60 % 60 in
    let second = s % 60 in
    let on : days_of_months (1900 + k) m + day ≤ days_of_months (1900 + k) (m + 1) = rw (add-one m) (omega arith) in
    let both = at_both s k m day hour minute second years months (omega arith) on (omega arith) (omega arith) (omega arith) (omega arith) in
    (date (1900 + k) (m + 1) day hour minute second, both.0, both.1)

in_year : (s k : ℕ) → k < 200 → days_of_years k ≤ s / 86400 → s / 86400 < days_of_years (suc k) → (d : Date) × (exists d ≡ true) × (second_number d ≡ s)
in_year s k years begun on =
    let (m, months, month-begun, month-on) = step_of (days_of_months (1900 + k)) 12 (s / 86400 - days_of_years k) (months_none (1900 + k)) (omega (arith, years_more k, months_all (1900 + k))) in
    in_month s k m years begun months month-begun month-on

-- every second of the two hundred years is one of a date's
pub has_second : (s : ℕ) → s < days_of_years 200 * 86400 → (d : Date) × (exists d ≡ true) × (second_number d ≡ s)
has_second s h =
    let (k, years, begun, on) = step_of days_of_years 200 (s / 86400) years_none (omega arith) in
    in_year s k years begun on

-- moment 0 is so many seconds after 1900-01-01T00:00:00
pub epoch_second : second_number epoch ≡ 3155673600
unfolding second_number day_number days_of_years days_of_months year_length month_lengths leap
epoch_second = refl

pub first_second : second_number (date 1900 1 1 0 0 0) ≡ 0
unfolding second_number day_number days_of_years days_of_months year_length month_lengths leap
first_second = refl

pub last_second : second_number (date 2099 12 31 23 59 59) ≡ 6311433599
unfolding second_number day_number days_of_years days_of_months year_length month_lengths leap
last_second = refl

-- What the proofs of the conversions rest on.
pub ruleset second_steps = (parts, day_most, years_end)

pub ruleset date_steps = (year_holds, month_holds, at_both, years_end)
