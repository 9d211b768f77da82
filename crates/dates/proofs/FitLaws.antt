-- Every field of a date that exists has a place that is wide enough for it.
use mathlib.Core.Path.{◌≡◌}
use mathlib.Core.Bool.{true}
use Rattle.calendar.specs.Calendar.{exists}
use Rattle.calendar.specs.declared.Date.{Date}
use Rattle.calendar.proofs.ConversionLaws.{fields_fit}
use Rattle.dates.specs.DateText.{Fits}

pub exists_fits : (d : Date) → exists d ≡ true → Fits d
exists_fits d h =
    let (year, month, day, hour, minute, second) = fields_fit d h in
    record { year = year; month = month; day = day; hour = hour; minute = minute; second = second }
