-- Dates whose numbers were cut to the greatest of their fields.
use mathlib.Core.Path.{◌≡◌, sym, ◌∙◌, ap}
use mathlib.Core.Bool.{true}
use mathlib.Core.Logic.{◌⊎◌, inl, inr}
use Prim.Native.Nat.{ℕ, ◌<◌, ◌≤◌, min}
use native.Mathlib.Omega.{arith}
use Rattle.std.specs.Prelude.{Result, Ok, Err}
use Rattle.std.specs.Result.{OkIff, result_unwrap_or}
use Rattle.bits.proofs.Tests.{by_test}
use Rattle.calendar.specs.declared.Date.{Date}
use Rattle.calendar.specs.Calendar.{exists}
use Rattle.calendar.specs.Conversion.{Narrows}
use Rattle.calendar.proofs.MonthLaws.{month_most}
use Rattle.calendar.proofs.DateLaws.{parts, same_date}

-- Each number of the narrow date is that of the wide one, or the greatest of its field.
pub record Cut (wide narrow : Date) : Type 0 where
  pub year : narrow.year ≡ min wide.year 65535
  pub month : narrow.month ≡ min wide.month 255
  pub day : narrow.day ≡ min wide.day 255
  pub hour : narrow.hour ≡ min wide.hour 255
  pub minute : narrow.minute ≡ min wide.minute 255
  pub second : narrow.second ≡ min wide.second 255

-- what a conversion gives that falls back on another number
pub cut : {E : Type 0} (r : Result ℕ E) (n w top x : ℕ) → OkIff r (n < w) n → x ≡ result_unwrap_or r top → ((n < w) × (x ≡ n)) ⊎ ((w ≤ n) × (x ≡ top))
cut (Ok y) n w top x h e = inl (omega (arith, h, e))
cut (Err y) n w top x h e = inr (omega (arith, h, e))

-- if either exists, nothing was cut
wide_whole : {wide narrow : Date} → Cut wide narrow → exists wide ≡ true → narrow ≡ wide
wide_whole {wide} {narrow} c e =
    let p = parts wide e in
    let m = month_most wide.year wide.month in
    same_date (omega arith) (omega arith) (omega arith) (omega arith) (omega arith) (omega arith)

narrow_whole : {wide narrow : Date} → Cut wide narrow → exists narrow ≡ true → narrow ≡ wide
narrow_whole {wide} {narrow} c e =
    let p = parts narrow e in
    let m = month_most narrow.year narrow.month in
    same_date (omega arith) (omega arith) (omega arith) (omega arith) (omega arith) (omega arith)

pub narrowed : {wide narrow : Date} → Cut wide narrow → Narrows wide narrow
narrowed {wide} {narrow} c =
    record {
      exists_alike =
          by_test (exists wide) (λ e. ap exists (wide_whole c e)) (λ e.
          by_test (exists narrow) (λ f. ap exists (narrow_whole c f)) (λ f. f ∙ sym e));
      equal = wide_whole c;
    }
