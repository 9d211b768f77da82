-- The zeros below the lowest bit that is set are as many as its place.
use mathlib.Core.Path.{◌≡◌, refl, ◌∙◌}
use mathlib.Core.Bool.{false}
use Prim.Native.Nat.{ℕ, zero, suc, ◌/◌, ◌%◌, ◌^◌, ◌<◌}
use native.Mathlib.Omega.{arith}
use borrow.Author.Tests.{ne_eqb}
use lib.Count.{count_trailing_zeros, under}
use Rattle.bits.specs.Bits.{bit_of}
use Rattle.bits.proofs.BitLaws.{bit_zero, bit_suc, lowest_set}
use Rattle.places.specs.Places.{Lowest}

none_lower : (n m : ℕ) → (q : ℕ) → q < count_trailing_zeros n m → bit_of m q ≡ false
unfolding count_trailing_zeros
none_lower zero m q h = absurd (omega arith)
none_lower (suc n) m q h = go (m % 2) refl h (λ q l. none_lower n (m / 2) q l)
  where
    go : (r : ℕ) → m % 2 ≡ r → q < under r (count_trailing_zeros n (m / 2))
        → ((q : ℕ) → q < count_trailing_zeros n (m / 2) → bit_of (m / 2) q ≡ false) → bit_of m q ≡ false
    go zero e h next = at q h
      where
        at : (q : ℕ) → q < under 0 (count_trailing_zeros n (m / 2)) → bit_of m q ≡ false
        at zero h = bit_zero m ∙ ne_eqb (m % 2) 1 (λ z. omega arith)
        at (suc q) h = bit_suc m q ∙ next q (omega arith)
    go (suc r) e h next = absurd (omega arith)

pub lowest : (m : ℕ) → 0 < m → m < 2 ^ 16 → Lowest m (count_trailing_zeros 16 m)
lowest m some fits =
    let (within, set) = lowest_set 16 m some fits in
    record { within = within; set = set; none_below = none_lower 16 m }
