-- How a date is written: document 02, order 3.
use Rattle.std.specs.Prelude.{◌≡◌, List, [], ◌∷◌, ◌++◌, ℕ, ◌<◌}
use Rattle.text.specs.Words.{bytes}
use Rattle.digits.specs.Width.{last_digits}
use Rattle.calendar.specs.declared.Date.{Date}

-- -01-01 and :00:00, the second and the third field of a day and of a time, each behind the byte that separates it from the one before
unfoldable pub fields_text : ℕ → ℕ → ℕ → List ℕ
fields_text separator second third = (separator ∷ []) ++ last_digits 2 second ++ (separator ∷ []) ++ last_digits 2 third

-- 2000-01-01 and 00:00:00, with every field at full width
unfoldable pub day_text : ℕ → ℕ → ℕ → List ℕ
day_text year month day = last_digits 4 year ++ bytes "-" ++ last_digits 2 month ++ bytes "-" ++ last_digits 2 day

unfoldable pub time_text : ℕ → ℕ → ℕ → List ℕ
time_text hour minute second = last_digits 2 hour ++ bytes ":" ++ last_digits 2 minute ++ bytes ":" ++ last_digits 2 second

-- 'Dates are written like that one [2000-01-01T00:00:00], with every field at full width.'
unfoldable pub date_text : Date → List ℕ
date_text d = day_text d.year d.month d.day ++ bytes "T" ++ time_text d.hour d.minute d.second

-- Every field has a place that is wide enough for it.
pub record Fits (d : Date) : Type 0 where
  pub year : d.year < 10000
  pub month : d.month < 100
  pub day : d.day < 100
  pub hour : d.hour < 100
  pub minute : d.minute < 100
  pub second : d.second < 100

-- The bytes are a spelling of the date, which need not exist: any digits may stand in its fields.
pub record DateSpelling (d : Date) (s : List ℕ) : Type 0 where
  pub fits : Fits d
  pub spelling : s ≡ date_text d
