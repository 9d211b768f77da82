-- Dates and moments, both ways: document 02, order 3.
use Rattle.std.specs.Prelude.{◌≡◌, Bool, true, false, ◌&&◌, List, [], ◌∷◌, Result, Ok, Err, ℕ, ◌/◌, ◌<◌, ℤ, pos, negsuc, ◌+ℤ◌, ◌-ℤ◌, ◌*ℤ◌, ◌≤ℤ◌, ◌<ℤ◌, get_or}
use Rattle.std.specs.Int.Signed.{le_z}
use Rattle.bits.specs.Choice.{choose}
use Rattle.calendar.specs.Calendar.{exists, second_number}
use Rattle.calendar.specs.declared.Date.{Date}
use Rattle.refusal.specs.declared.Refusal.{Refusal}
use Rattle.refusal.specs.declared.Refusal.TheVariants.{NoDate}

abbrev pub date : ℕ → ℕ → ℕ → ℕ → ℕ → ℕ → Date
date year month day hour minute second =
    record { year = year; month = month; day = day; hour = hour; minute = minute; second = second }

-- The date whose six numbers stand in a list, the year first, as a caller without the struct hands it in.
abbrev pub date_in : List ℕ → Date
date_in s = date (get_or s 0 0) (get_or s 1 0) (get_or s 2 0) (get_or s 3 0) (get_or s 4 0) (get_or s 5 0)

-- The six numbers of a date, in the order in which `date_in` takes them.
abbrev pub six_of : Date → List ℕ
six_of d = d.year ∷ d.month ∷ d.day ∷ d.hour ∷ d.minute ∷ d.second ∷ []

-- 'Moment 0 is 2000-01-01T00:00:00'
abbrev pub epoch : Date
epoch = date 2000 1 1 0 0 0

-- The moment at which the date's second begins, in nanoseconds.
unfoldable pub moment_of : Date → ℤ
moment_of d = (pos (second_number d) -ℤ pos (second_number epoch)) *ℤ pos 1000000000

-- Date to moment, of every date handed in: '11 for a date that doesn't exist or is outside those years'
unfoldable pub moment_result : Date → Result ℤ Refusal
moment_result d = choose (exists d) (λ _. Ok (moment_of d)) (λ _. Err NoDate)

-- The whole seconds from moment 0 to a moment, rounded toward minus infinity: it serves the proof of a private function.
unfoldable pub floor_second : ℤ → ℤ
floor_second (pos n) = pos (n / 1000000000)
floor_second (negsuc n) = negsuc (n / 1000000000)

-- The moment falls in the date's second, 'the second that began at or before it'.
pub record FallsIn (m : ℤ) (d : Date) : Type 0 where
  pub begun : moment_of d ≤ℤ m
  pub not_over : m <ℤ (moment_of d +ℤ pos 1000000000)

-- 'A moment outside those years has no date': those years begin at 1900-01-01T00:00:00 and end with the last nanosecond of 2099.
abbrev pub first_moment : ℤ
first_moment = moment_of (date 1900 1 1 0 0 0)

abbrev pub last_moment : ℤ
last_moment = moment_of (date 2099 12 31 23 59 59) +ℤ pos 999999999

unfoldable pub in_years : ℤ → Bool
in_years m = le_z first_moment m && le_z m last_moment

-- 11 for 'a moment that has none'
abbrev pub undated : Result Date Refusal
undated = Err NoDate

-- Moment to date, of every moment handed in: the date that exists and in whose second the moment falls. There is one such date exactly for the
-- moments of those years, and it is the only one (`has_date`, `one_date` of proofs/ConversionLaws.antt).
pub record IsDateOf (m : ℤ) (r : Result Date Refusal) : Type 0 where
  pub found : in_years m ≡ true → (d : Date) × (r ≡ Ok d) × (exists d ≡ true) × FallsIn m d
  pub refused : in_years m ≡ false → r ≡ undated

-- Six numbers of any width, handed to fields of 16 and 8 bits: if they are those of a date that exists, that date, and if not, one that does not
-- exist either.
pub record Narrows (wide narrow : Date) : Type 0 where
  pub exists_alike : exists narrow ≡ exists wide
  pub equal : exists wide ≡ true → narrow ≡ wide

-- The order of dates by their numbers, from the year on: the first in which they differ decides.
pub data Earlier (d e : Date) : Type 0 where
  by_year : d.year < e.year → Earlier d e
  by_month : d.year ≡ e.year → d.month < e.month → Earlier d e
  by_day : d.year ≡ e.year → d.month ≡ e.month → d.day < e.day → Earlier d e
  by_hour : d.year ≡ e.year → d.month ≡ e.month → d.day ≡ e.day → d.hour < e.hour → Earlier d e
  by_minute : d.year ≡ e.year → d.month ≡ e.month → d.day ≡ e.day → d.hour ≡ e.hour → d.minute < e.minute → Earlier d e
  by_second : d.year ≡ e.year → d.month ≡ e.month → d.day ≡ e.day → d.hour ≡ e.hour → d.minute ≡ e.minute → d.second < e.second → Earlier d e
