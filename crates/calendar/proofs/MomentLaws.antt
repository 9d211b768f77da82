-- Moments as integers: the second in which one falls, the moment of a date by the seconds before it, and the edges of the two hundred years.
use mathlib.Core.Path.{◌≡◌, refl}
use mathlib.Core.Bool.{true, false}
use Prim.Native.Nat.{ℕ, ◌+◌, ◌-◌, ◌*◌, ◌≤◌, ◌<◌}
use native.Mathlib.Omega.{arith}
use lib.IntN.{ℤ, pos, negsuc, ◌+ℤ◌, ◌-ℤ◌, ◌*ℤ◌}
use lib.Signed.{le_z, ◌≤ℤ◌, ◌<ℤ◌}
use mir.Syntax.{w64}
use mir.Val.{SFits}
use mir.Facts.{to_z-of_z}
use Rattle.bits.proofs.Tests.{both, join, clash}
use Rattle.moment.proofs.Integers.{ints, up, dn, sum, dif, mul, make_le_z_true, make_le_z_false}
use Rattle.std.specs.Prelude.{Ok}
use Rattle.calendar.specs.declared.Date.{Date}
use Rattle.calendar.specs.Calendar.{exists, second_number}
use Rattle.calendar.specs.Conversion.{date, moment_of, floor_second, FallsIn, first_moment, last_moment, in_years, undated, IsDateOf}
use Rattle.calendar.proofs.YearLaws.{years_end}
use Rattle.calendar.proofs.DateLaws.{parts, second_most, epoch_second, first_second, last_second}

-- the whole seconds of a moment, rounded toward minus infinity
pub floor : (z : ℤ) → (up (floor_second z) * 1000000000 + dn z ≤ up z + dn (floor_second z) * 1000000000) × (up z + dn (floor_second z) * 1000000000 < up (floor_second z) * 1000000000 + dn z + 1000000000)
unfolding floor_second
floor (pos n) = omega arith
floor (negsuc n) = omega arith

-- the moment of a date, by the seconds before it
pub moment_is : (d : Date) → moment_of d ≡ (pos (second_number d) -ℤ pos 3155673600) *ℤ pos 1000000000
unfolding moment_of
moment_is d = rw epoch_second

pub moment_parts : (d : Date) → up (moment_of d) + 3155673600000000000 ≡ second_number d * 1000000000 + dn (moment_of d)
moment_parts d =
    let s = pos (second_number d) -ℤ pos 3155673600 in
    omega (ints, moment_is d, mul s 1000000000, dif (pos (second_number d)) (pos 3155673600))

pub first_is : first_moment ≡ negsuc 3155673599999999999
first_is = omega (ints, moment_parts (date 1900 1 1 0 0 0), first_second)

pub last_is : last_moment ≡ pos 3155759999999999999
last_is = omega (ints, moment_parts (date 2099 12 31 23 59 59), last_second, sum (moment_of (date 2099 12 31 23 59 59)) (pos 999999999))

-- a moment of those years, by the edges
pub years_read : (m : ℤ) → in_years m ≡ true → (negsuc 3155673599999999999 ≤ℤ m) × (m ≤ℤ pos 3155759999999999999)
unfolding in_years
years_read m e = let h = both (le_z first_moment m) (le_z m last_moment) e in omega (ints, first_is, last_is)

pub years_made : (m : ℤ) → negsuc 3155673599999999999 ≤ℤ m → m ≤ℤ pos 3155759999999999999 → in_years m ≡ true
unfolding in_years
years_made m h k = join (make_le_z_true first_moment m (omega (ints, first_is))) (make_le_z_true m last_moment (omega (ints, last_is)))

-- a moment before those years, and one after them
pub years_before : (m : ℤ) → m <ℤ negsuc 3155673599999999999 → in_years m ≡ false
unfolding in_years
years_before m h = rw (make_le_z_false first_moment m (omega (ints, first_is)))

pub years_after : (m : ℤ) → pos 3155759999999999999 <ℤ m → in_years m ≡ false
unfolding in_years
years_after m h = rw (make_le_z_true first_moment m (omega (ints, first_is)), make_le_z_false m last_moment (omega (ints, last_is)))

-- The second in which a moment of those years falls, counted from 1900-01-01T00:00:00.
abbrev pub second_of : ℤ → ℕ
second_of m = up (floor_second m) + 3155673600 - dn (floor_second m)

pub second_is : (m : ℤ) → in_years m ≡ true → floor_second m +ℤ pos 3155673600 ≡ pos (second_of m)
second_is m e = let h = years_read m e in omega (ints, floor m, sum (floor_second m) (pos 3155673600))

pub second_fits : (m : ℤ) → in_years m ≡ true → SFits w64 (floor_second m)
second_fits m e = let h = years_read m e in omega (ints, floor m)

pub second_below : (m : ℤ) → in_years m ≡ true → second_of m < 73049 * 86400
second_below m e = let h = years_read m e in omega (ints, floor m)

-- and it falls in the date of that second
pub falls_in : (m : ℤ) (d : Date) → in_years m ≡ true → second_number d ≡ second_of m → FallsIn m d
falls_in m d e q =
    let h = years_read m e in
    omega (ints, floor m, moment_parts d, sum (moment_of d) (pos 1000000000))

-- of the moments, those that the code refuses, and those that it does not
pub none_is : {m : ℤ} → in_years m ≡ false → IsDateOf m undated
none_is e = record { found = λ f. absurd (clash f e); refused = λ f. refl }

pub one_is : {m : ℤ} {d : Date} → in_years m ≡ true → exists d ≡ true → second_number d ≡ second_of m → IsDateOf m (Ok d)
one_is {m} {d} e h q = record { found = λ f. (d, refl, h, falls_in m d e q); refused = λ f. absurd (clash e f) }

-- the seconds of a date that exists are few
pub few : (d : Date) → exists d ≡ true → second_number d < 73049 * 86400
few d there = second_most d (parts d there)

-- What the proofs of the two conversions rest on.
pub ruleset moment_steps = (few, moment_is, to_z-of_z)

pub ruleset date_steps = (years_before, years_after, years_made, second_is, second_fits, second_below, none_is, one_is, years_end, to_z-of_z)
