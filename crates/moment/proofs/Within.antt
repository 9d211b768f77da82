-- Edges in the range and in order, as orders of integers, and that what is computed of them fits an i64.
use mathlib.Core.Path.{◌≡◌}
use mathlib.Core.Bool.{true, ◌&&◌}
use lib.IntN.{ℤ, ◌-ℤ◌}
use lib.Signed.{le_z, ◌≤ℤ◌}
use mir.Syntax.{w64}
use mir.Val.{SFits}
use Rattle.bits.proofs.Tests.{both, join}
use Rattle.moment.specs.Moment.{earliest, latest, in_range}
use Rattle.moment.specs.Intervals.{edges_within, both_in_range}
use Rattle.moment.specs.declared.Interval.{Interval}
use Rattle.moment.proofs.Integers.{ints, make_le_z_true, dif}
use Rattle.moment.proofs.IntervalLaws.{range_made, range_read}

pub record Within (edges : Interval) : Type 0 where
  pub low : earliest ≤ℤ edges.lower
  pub order : edges.lower ≤ℤ edges.upper
  pub high : edges.upper ≤ℤ latest

pub within_read : (edges : Interval) → edges_within edges ≡ true → Within edges
unfolding edges_within
within_read edges e =
    let (range, order) = both (in_range edges.lower && in_range edges.upper) (le_z edges.lower edges.upper) e in
    let (lower, upper) = both (in_range edges.lower) (in_range edges.upper) range in
    let l = range_read edges.lower lower in
    let u = range_read edges.upper upper in
    omega ints

pub within_made : {edges : Interval} → Within edges → edges_within edges ≡ true
unfolding edges_within
within_made {edges} w =
    join
    (join (range_made edges.lower w.low (omega ints)) (range_made edges.upper (omega ints) w.high))
    (make_le_z_true edges.lower edges.upper (omega ints))

-- edges within their limits lie in the range
pub within_range : (edges : Interval) → edges_within edges ≡ true → both_in_range edges ≡ true
unfolding edges_within both_in_range
within_range edges e = (both (in_range edges.lower && in_range edges.upper) (le_z edges.lower edges.upper) e).0

-- of edges in order it is enough that both lie in the range
pub ordered_within : (edges : Interval) → both_in_range edges ≡ true → edges.lower ≤ℤ edges.upper → edges_within edges ≡ true
unfolding edges_within both_in_range
ordered_within edges range order = join range (make_le_z_true edges.lower edges.upper (omega ints))

-- a moment of the range fits
pub range_fits : (m : ℤ) → in_range m ≡ true → SFits w64 m
range_fits m e = let (from, through) = range_read m e in omega ints

-- and so do the edges and their difference
module _ (i : Interval) (h : Within i) where
  pub lower_fits : SFits w64 i.lower
  lower_fits = omega ints

  pub upper_fits : SFits w64 i.upper
  upper_fits = omega ints

  pub width_fits : SFits w64 (i.upper -ℤ i.lower)
  width_fits = omega (ints, dif i.upper i.lower)
