-- What the definitions say, in plain orders of integers. The test of the range is true exactly for its moments; a move gives the sum or
-- is outside; two intervals share a moment exactly if the test says so, and their common moments are those from the larger lower edge
-- through the smaller upper one; the half of a sum is rounded toward minus infinity.
use mathlib.Core.Path.{◌≡◌, refl}
use mathlib.Core.Bool.{true, false}
use mathlib.Core.Logic.{◌↔◌}
use lib.IntN.{ℤ, pos, negsuc, ◌+ℤ◌}
use lib.Signed.{le_z, ◌≤ℤ◌, ◌<ℤ◌}
use Rattle.bits.proofs.Tests.{both}
use Rattle.moment.specs.declared.Interval.{Interval}
use Rattle.std.specs.Prelude.{Some, None}
use Rattle.moment.specs.Moment.{earliest, latest, in_range, moved_by, larger_of, smaller_of, floor_half}
use Rattle.moment.proofs.Integers.{ints, make_le_z_true, make_le_z_false, sum, max_is, min_is, half}
use Rattle.moment.specs.Intervals.{Holds, Share, share_one}

-- a moment of the range passes the test
pub range_made : (m : ℤ) → earliest ≤ℤ m → m ≤ℤ latest → in_range m ≡ true
unfolding in_range
range_made m h k = rw (make_le_z_true earliest m (omega ints), make_le_z_true m latest (omega ints))

-- what passes the test is in the range
pub range_read : (m : ℤ) → in_range m ≡ true → (earliest ≤ℤ m) × (m ≤ℤ latest)
unfolding in_range
range_read m e = let h = both (le_z earliest m) (le_z m latest) e in omega ints

-- a moment before the range does not pass
pub range_before : (m : ℤ) → m <ℤ earliest → in_range m ≡ false
unfolding in_range
range_before m h = rw (make_le_z_false earliest m (omega ints))

-- and none after it
pub range_after : (m : ℤ) → latest <ℤ m → in_range m ≡ false
unfolding in_range
range_after m h = rw (make_le_z_true earliest m (omega ints), make_le_z_false m latest (omega ints))

-- a move gives the sum of the edge and what it is moved by, if that is in the range
pub moved_to : (edge by : ℤ) → in_range (edge +ℤ by) ≡ true → moved_by edge by ≡ Some (edge +ℤ by)
unfolding moved_by
moved_to edge by h = rw h

-- and else there is none
pub moved_outside : (edge by : ℤ) → in_range (edge +ℤ by) ≡ false → moved_by edge by ≡ None
unfolding moved_by
moved_outside edge by h = rw h

-- The moments that two intervals have in common.
abbrev pub common : Interval → Interval → Interval
common a b = record { lower = larger_of a.lower b.lower; upper = smaller_of a.upper b.upper }

-- a moment lies in both exactly if it lies from the larger lower edge through the smaller upper one
pub meet : (a b : Interval) (m : ℤ) → (Holds a m × Holds b m) ↔ Holds (common a b) m
meet a b m =
    let lower = max_is a.lower b.lower in
    let upper = min_is a.upper b.upper in
    (λ h. omega ints, λ h. omega ints)

-- if some moment lies in both, the test says so
pub share_made : (a b : Interval) → Share a b → share_one a b ≡ true
unfolding share_one
share_made a b s = omega (ints, max_is a.lower b.lower, min_is a.upper b.upper)

-- and if the test says so, some moment lies in both: the larger lower edge
pub share_found : (a b : Interval) → share_one a b ≡ true → Share a b
unfolding share_one
share_found a b e =
    let both = (meet a b (larger_of a.lower b.lower)).1 (omega ints) in
    record { moment = larger_of a.lower b.lower; first = both.0; second = both.1 }

-- an interval with its edges out of order holds no moment
pub disordered : (a : Interval) (m : ℤ) → a.upper <ℤ a.lower → Holds a m → ⊥
disordered a m d h = omega ints

-- so it shares none, as the first of two
pub disordered_first : (a b : Interval) → a.upper <ℤ a.lower → share_one a b ≡ false
unfolding share_one
disordered_first a b d = omega (ints, max_is a.lower b.lower, min_is a.upper b.upper)

-- and as the second
pub disordered_second : (a b : Interval) → b.upper <ℤ b.lower → share_one a b ≡ false
unfolding share_one
disordered_second a b d = omega (ints, max_is a.lower b.lower, min_is a.upper b.upper)

-- the half, doubled, is at most the sum
pub half_below : (z : ℤ) → (floor_half z +ℤ floor_half z) ≤ℤ z
half_below z = omega (ints, half z, sum (floor_half z) (floor_half z))

-- and less than the sum by 1 at most
pub half_above : (z : ℤ) → z ≤ℤ ((floor_half z +ℤ floor_half z) +ℤ pos 1)
half_above z =
    omega (ints, half z, sum (floor_half z) (floor_half z), sum (floor_half z +ℤ floor_half z) (pos 1))

-- edges at -5 and 2 have their centre at -2, and not at -1
half_rounds_down : floor_half (negsuc 4 +ℤ pos 2) ≡ negsuc 1
unfolding floor_half
half_rounds_down = refl
