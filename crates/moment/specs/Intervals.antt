-- Intervals of moments: document 01, 'Moments and ticks' and 'The calls'.
use Rattle.std.specs.Prelude.{Bool, ◌&&◌, ℤ, ◌≤ℤ◌, Option, Some, None}
use Rattle.std.specs.Int.Signed.{le_z}
use Rattle.bits.specs.Choice.{choose}
use Rattle.moment.specs.Moment.{in_range, larger_of, smaller_of}
use Rattle.moment.specs.declared.Interval.{Interval}

-- The interval of two edges.
abbrev pub interval : ℤ → ℤ → Interval
interval lower upper = record { lower = lower; upper = upper }

-- A moment lies in an interval if it lies from its lower through its upper edge.
pub record Holds (i : Interval) (m : ℤ) : Type 0 where
  pub from : i.lower ≤ℤ m
  pub through : m ≤ℤ i.upper

-- 'One shared moment suffices': two intervals share a moment if some moment lies in both. An interval whose lower edge is above its
-- upper one holds no moment, so it shares none.
pub record Share (a b : Interval) : Type 0 where
  pub moment : ℤ
  pub first : Holds a moment
  pub second : Holds b moment

-- The test: the larger lower edge is at most the smaller upper one. `proofs/IntervalLaws.antt` proves that it is true exactly if the two
-- share a moment.
unfoldable pub share_one : Interval → Interval → Bool
share_one a b = le_z (larger_of a.lower b.lower) (smaller_of a.upper b.upper)

-- both edges lie in the range
unfoldable pub both_in_range : Interval → Bool
both_in_range edges = in_range edges.lower && in_range edges.upper

-- both edges in the range, and not 'a first edge above the second'
unfoldable pub edges_within : Interval → Bool
edges_within edges = in_range edges.lower && in_range edges.upper && le_z edges.lower edges.upper

-- The edges, if both lie in the range; and if they are in order too.
unfoldable pub placed : Interval → Option Interval
placed i = choose (both_in_range i) (λ _. Some i) (λ _. None)

unfoldable pub bounds_of : Interval → Option Interval
bounds_of i = choose (edges_within i) (λ _. Some i) (λ _. None)
