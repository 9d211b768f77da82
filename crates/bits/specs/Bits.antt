-- The bits of a mask.
use Rattle.std.specs.Prelude.{Bool, ℕ, ◌/◌, ◌%◌, ◌^◌, eqb}

unfoldable pub bit_of : ℕ → ℕ → Bool
bit_of mask place = eqb (mask / 2 ^ place % 2) 1
