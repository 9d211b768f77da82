-- The places of the set bits of a mask, one after the other.
use Rattle.std.specs.Prelude.{◌≡◌, true, false, ℕ, ◌-◌, ◌^◌, ◌<◌, Option, MatchOption}
use Rattle.bits.specs.Bits.{bit_of}

-- the lowest place whose bit is set, one of the sixteen
pub record Lowest (mask : ℕ) (p : ℕ) : Type 0 where
  pub within : p < 16
  pub set : bit_of mask p ≡ true
  pub none_below : (q : ℕ) → q < p → bit_of mask q ≡ false

-- From a mask the lowest place is given, and what is left is the mask without its bit; where no bit is set, nothing is given and none is left.
abbrev pub Gives : ℕ → Option ℕ → ℕ → Type 0
Gives mask given left = MatchOption given ((mask ≡ 0) × (left ≡ 0)) (λ p. Lowest mask p × (left ≡ mask - 2 ^ p))
