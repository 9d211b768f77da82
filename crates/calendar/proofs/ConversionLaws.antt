-- What dates and moments have to do with each other: later dates have later moments, a moment of the two hundred years falls in the second of one
-- date, and going there and back changes nothing.
use mathlib.Core.Path.{◌≡◌, sym, ◌∙◌, ap}
use mathlib.Core.Bool.{true}
use mathlib.Core.Logic.{◌↔◌}
use Prim.Native.Nat.{◌<◌}
use native.Mathlib.Omega.{arith}
use lib.IntN.{ℤ, pos, ◌+ℤ◌}
use lib.Signed.{◌≤ℤ◌, ◌<ℤ◌}
use Rattle.bits.proofs.Tests.{by_test}
use Rattle.moment.specs.Moment.{in_range}
use Rattle.moment.proofs.Integers.{ints, sum}
use Rattle.moment.proofs.IntervalLaws.{range_made}
use Rattle.calendar.specs.declared.Date.{Date}
use Rattle.std.specs.Prelude.{Result, Ok}
use Rattle.refusal.specs.declared.Refusal.{Refusal}
use Rattle.calendar.specs.Calendar.{exists}
use Rattle.calendar.specs.Conversion.{epoch, moment_of, FallsIn, in_years, IsDateOf, Earlier}
use Rattle.calendar.proofs.YearLaws.{years_end}
use Rattle.calendar.proofs.MonthLaws.{month_most}
use Rattle.calendar.proofs.DateLaws.{parts, second_most, later_second, compared, has_second, epoch_second}
use Rattle.calendar.proofs.MomentLaws.{moment_parts, years_made, second_of, second_below, falls_in}

-- moment 0
pub epoch_zero : moment_of epoch ≡ pos 0
epoch_zero = omega (ints, moment_parts epoch, epoch_second)

-- a later date's moment is later by a second at least
pub later_moment : {d e : Date} → exists d ≡ true → exists e ≡ true → Earlier d e → (moment_of d +ℤ pos 1000000000) ≤ℤ moment_of e
later_moment {d} {e} p q h =
    omega (ints, later_second (parts d p) (parts e q) h, moment_parts d, moment_parts e, sum (moment_of d) (pos 1000000000))

pub later_than : {d e : Date} → exists d ≡ true → exists e ≡ true → Earlier d e → moment_of d <ℤ moment_of e
later_than {d} {e} p q h = omega (ints, later_moment p q h, sum (moment_of d) (pos 1000000000))

-- and a later moment is a later date's
pub later_date : {d e : Date} → exists d ≡ true → exists e ≡ true → moment_of d <ℤ moment_of e → Earlier d e
later_date {d} {e} p q h =
    compared d e
    (λ k. k)
    (λ k. absurd (omega (ints, later_than q p k)))
    (λ k. absurd (omega (ints, ap moment_of k)))

-- a moment falls in the second of one date at most
pub one_date : {m : ℤ} {d e : Date} → exists d ≡ true → exists e ≡ true → FallsIn m d → FallsIn m e → d ≡ e
one_date {m} {d} {e} p q f g =
    let s = sum (moment_of d) (pos 1000000000) in
    let t = sum (moment_of e) (pos 1000000000) in
    compared d e
    (λ k. absurd (omega (ints, later_moment p q k)))
    (λ k. absurd (omega (ints, later_moment q p k)))
    (λ k. k)

-- the moments of a date's second are of those years
pub date_within : {m : ℤ} {d : Date} → exists d ≡ true → FallsIn m d → in_years m ≡ true
date_within {m} {d} p f =
    let k = second_most d (parts d p) in
    let q = moment_parts d in
    let s = sum (moment_of d) (pos 1000000000) in
    years_made m (omega ints) (omega ints)

-- and each moment of those years falls in the second of a date that exists
pub some_date : {m : ℤ} → in_years m ≡ true → (d : Date) × (exists d ≡ true) × FallsIn m d
some_date {m} e =
    let (d, h, q) = has_second (second_of m) (omega (arith, second_below m e, years_end)) in
    (d, h, falls_in m d e q)

pub has_date : (m : ℤ) → (in_years m ≡ true) ↔ ((d : Date) × (exists d ≡ true) × FallsIn m d)
has_date m = (λ e. some_date e, λ h. date_within h.1 h.2)

-- a date's own moment falls in its second
pub own_second : (d : Date) → FallsIn (moment_of d) d
own_second d = omega (ints, sum (moment_of d) (pos 1000000000))

-- the contract of `date_of` leaves one answer
pub date_of_one : {m : ℤ} {r s : Result Date Refusal} → IsDateOf m r → IsDateOf m s → r ≡ s
date_of_one {m} {r} {s} a b =
    by_test (in_years m)
    (λ e.
    let (d, is, p, f) = a.found e in
    let (k, js, q, g) = b.found e in
    is ∙ ap Ok (one_date p q f g) ∙ sym js)
    (λ e. a.refused e ∙ sym (b.refused e))

-- date to moment to date is unchanged
pub there_and_back : (d : Date) (r : Result Date Refusal) → exists d ≡ true → IsDateOf (moment_of d) r → r ≡ Ok d
there_and_back d r p a =
    let (k, is, q, f) = a.found (date_within p (own_second d)) in
    is ∙ ap Ok (one_date q p f (own_second d))

-- a date's moment is in the range of document 01
pub moment_fits : (d : Date) → exists d ≡ true → in_range (moment_of d) ≡ true
moment_fits d p =
    let k = second_most d (parts d p) in
    let q = moment_parts d in
    range_made (moment_of d) (omega ints) (omega ints)

-- a date's year has four digits at most, and its other numbers two
pub fields_fit : (d : Date) → exists d ≡ true → (d.year < 10000) × (d.month < 100) × (d.day < 100) × (d.hour < 100) × (d.minute < 100) × (d.second < 100)
fields_fit d p = omega (arith, parts d p, month_most d.year d.month)
