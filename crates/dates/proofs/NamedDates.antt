-- The dates that order 3 names, by computation.
use mathlib.Core.Path.{◌≡◌, refl}
use mathlib.Core.Bool.{true, false}
use Rattle.text.specs.Words.{bytes}
use Rattle.digits.specs.Width.{last_digits}
use Rattle.calendar.specs.Calendar.{exists, day_exists, time_exists, month_length, month_lengths, leap}
use Rattle.calendar.specs.Conversion.{date, epoch}
use Rattle.dates.specs.DateText.{date_text, day_text, time_text}

-- 'Dates are written like that one, with every field at full width.'
pub epoch_text : date_text epoch ≡ bytes "2000-01-01T00:00:00"
unfolding date_text day_text time_text last_digits
epoch_text = refl

-- '1900-02-29 doesn't exist; 2000-02-29 does.'
pub common_1900 : exists (date 1900 2 29 0 0 0) ≡ false
unfolding exists day_exists time_exists month_length month_lengths leap
common_1900 = refl

pub leap_2000 : exists (date 2000 2 29 0 0 0) ≡ true
unfolding exists day_exists time_exists month_length month_lengths leap
leap_2000 = refl
