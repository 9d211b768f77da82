-- How far an edge is moved outward: so little that a moment of the range moved by it, and the width of two moments with it twice, fit an i64. The
-- longest wait and one tick are under 4 * 10^12 ns.
use Rattle.std.specs.Prelude.{ℤ, pos, ◌≤ℤ◌}

pub record Span (span : ℤ) : Type 0 where
  pub from : pos 0 ≤ℤ span
  pub through : span ≤ℤ pos 1000000000000000
