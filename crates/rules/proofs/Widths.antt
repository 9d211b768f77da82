-- A pass never narrows the edges, and a reply that is taken never widens them.
use mathlib.Core.Path.{◌≡◌}
use mathlib.Core.Bool.{true, false}
use Prim.Native.Nat.{ℕ, ◌*◌}
use lib.IntN.{ℤ, pos, ◌+ℤ◌, ◌-ℤ◌}
use lib.Signed.{le_z, ◌≤ℤ◌, ◌<ℤ◌}
use Rattle.bits.proofs.Tests.{by_test, clash}
use Rattle.moment.specs.Moment.{shortest, longest, larger_of, smaller_of}
use Rattle.moment.specs.Intervals.{Holds}
use Rattle.moment.specs.declared.Interval.{Interval}
use Rattle.moment.proofs.Integers.{ints, sum, dif, max_is, min_is}
use Rattle.moment.proofs.IntervalLaws.{meet}
use Rattle.rules.specs.Rules.{widened, narrowed, no_wider, adopted}
use Rattle.rules.proofs.Sets.{ticks_apart}

-- a reply taken under im never widens: what the new edges hold, the old ones held
pub narrowed_inside : (b edges : Interval) (m : ℤ) → Holds (narrowed b edges) m → Holds edges m
unfolding narrowed
narrowed_inside b edges m h = ((meet b edges m).1 h).1

-- nor their width
pub narrowed_no_wider : (b edges : Interval) → ((narrowed b edges).upper -ℤ (narrowed b edges).lower) ≤ℤ (edges.upper -ℤ edges.lower)
unfolding narrowed
narrowed_no_wider b edges =
    let lower = larger_of b.lower edges.lower in
    let upper = smaller_of b.upper edges.upper in
    omega (ints, max_is b.lower edges.lower, min_is b.upper edges.upper, dif upper lower, dif edges.upper edges.lower)

-- one is adopted under mm exactly if the new edges are no wider than the old ones
module _ (span : ℤ) (reply edges : Interval) where
  abbrev lower : ℤ
  lower = reply.lower -ℤ span

  abbrev upper : ℤ
  upper = reply.upper +ℤ span

  abbrev width : ℤ
  width = reply.upper -ℤ reply.lower

  pub adopted_no_wider : no_wider span reply edges ≡ true
      → ((adopted span reply).upper -ℤ (adopted span reply).lower) ≤ℤ (edges.upper -ℤ edges.lower)
  unfolding adopted no_wider
  adopted_no_wider e =
      omega (ints, dif upper lower, sum reply.upper span, dif reply.lower span, dif reply.upper reply.lower, sum span span, sum width (span +ℤ span), dif edges.upper edges.lower)

  pub no_wider_adopted : ((adopted span reply).upper -ℤ (adopted span reply).lower) ≤ℤ (edges.upper -ℤ edges.lower)
      → no_wider span reply edges ≡ true
  unfolding adopted no_wider
  no_wider_adopted h =
      omega (ints, dif upper lower, sum reply.upper span, dif reply.lower span, dif reply.upper reply.lower, sum span span, sum width (span +ℤ span), dif edges.upper edges.lower)

  -- and if the test fails they would be wider
  pub adopted_wider : no_wider span reply edges ≡ false → (edges.upper -ℤ edges.lower) <ℤ ((adopted span reply).upper -ℤ (adopted span reply).lower)
  adopted_wider e =
      by_test (le_z ((adopted span reply).upper -ℤ (adopted span reply).lower) (edges.upper -ℤ edges.lower))
      (λ t. absurd (clash (no_wider_adopted (omega ints)) e))
      (λ t. omega ints)

-- a pass never narrows them
pub widened_no_narrower : (claim n : ℕ) (edges : Interval) → (edges.upper -ℤ edges.lower) ≤ℤ ((widened claim n edges).upper -ℤ (widened claim n edges).lower)
unfolding widened
widened_no_narrower claim n edges =
    let lower = edges.lower +ℤ pos (n * shortest claim) in
    let upper = edges.upper +ℤ pos (n * longest claim) in
    omega (ints, ticks_apart claim n, dif edges.upper edges.lower, dif upper lower, sum edges.lower (pos (n * shortest claim)), sum edges.upper (pos (n * longest claim)))
