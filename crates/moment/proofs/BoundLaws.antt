-- Edges that are placed in the range: what the answers of the code say of the definitions.
use mathlib.Core.Path.{◌≡◌, refl}
use mathlib.Core.Bool.{Bool, true, false, and-false}
use Prim.Native.Nat.{ℕ}
use native.Mathlib.Omega.{arith}
use Rattle.std.specs.Prelude.{Some, None}
use Rattle.bits.specs.Choice.{choose}
use Rattle.moment.specs.Moment.{in_range}
use Rattle.moment.specs.Intervals.{both_in_range, edges_within, placed, bounds_of}
use Rattle.moment.specs.declared.Interval.{Interval}

module _ (i : Interval) where
  pub placed_within : (j : Interval) → placed i ≡ Some j → (both_in_range i ≡ true) × (j ≡ i)
  unfolding placed
  placed_within j h = go (both_in_range i) refl h
    where
      go : (t : Bool) → both_in_range i ≡ t → choose t (λ _. Some i) (λ _. None) ≡ Some j → (both_in_range i ≡ true) × (j ≡ i)
      go true e h = (e, cc)
      go false e h = absurd (let k : ◌≡◌ {A = ℕ} 0 1 = cc in omega arith)

  pub placed_outside : placed i ≡ None → both_in_range i ≡ false
  unfolding placed
  placed_outside h = go (both_in_range i) refl h
    where
      go : (t : Bool) → both_in_range i ≡ t → choose t (λ _. Some i) (λ _. None) ≡ None → both_in_range i ≡ false
      go true e h = absurd (let k : ◌≡◌ {A = ℕ} 0 1 = cc in omega arith)
      go false e h = e

module _ (i : Interval) where
  pub bounds_first : in_range i.lower ≡ false → bounds_of i ≡ None
  unfolding bounds_of edges_within
  bounds_first e = rw e

  pub bounds_second : in_range i.upper ≡ false → bounds_of i ≡ None
  unfolding bounds_of edges_within
  bounds_second e = rw (e, and-false (in_range i.lower))

  pub bounds_kept : edges_within i ≡ true → bounds_of i ≡ Some i
  unfolding bounds_of
  bounds_kept e = rw e

  pub bounds_broken : edges_within i ≡ false → bounds_of i ≡ None
  unfolding bounds_of
  bounds_broken e = rw e

  pub kept_bounds : (j : Interval) → bounds_of i ≡ Some j → (edges_within i ≡ true) × (j ≡ i)
  unfolding bounds_of
  kept_bounds j h = go (edges_within i) refl h
    where
      go : (t : Bool) → edges_within i ≡ t → choose t (λ _. Some i) (λ _. None) ≡ Some j → (edges_within i ≡ true) × (j ≡ i)
      go true e h = (e, cc)
      go false e h = absurd (let k : ◌≡◌ {A = ℕ} 0 1 = cc in omega arith)

  pub broken_bounds : bounds_of i ≡ None → edges_within i ≡ false
  unfolding bounds_of
  broken_bounds h = go (edges_within i) refl h
    where
      go : (t : Bool) → edges_within i ≡ t → choose t (λ _. Some i) (λ _. None) ≡ None → edges_within i ≡ false
      go true e h = absurd (let k : ◌≡◌ {A = ℕ} 0 1 = cc in omega arith)
      go false e h = e
