-- Numbers as bytes, lowest byte first (little-endian).
use Rattle.std.specs.Prelude.{List, [], ◌∷◌, ◌++◌, ℕ, zero, suc, ◌+◌, ◌*◌, ◌/◌, ◌%◌, get_or, set}

-- The number that `width` bytes spell from the place on.
unfoldable pub number : (width : ℕ) → ℕ → List ℕ → ℕ
number zero at bytes = 0
number (suc width) at bytes = get_or bytes at 0 + 256 * number width (at + 1) bytes

-- The numbers of `count` runs of `width` bytes, one after the other from the place on.
unfoldable pub numbers : (count width : ℕ) → ℕ → List ℕ → List ℕ
numbers zero width at bytes = []
numbers (suc count) width at bytes = number width at bytes ∷ numbers count width (at + width) bytes

-- The `width` bytes that spell a number.
unfoldable pub lowest_first : (width : ℕ) → ℕ → List ℕ
lowest_first zero n = []
lowest_first (suc width) n = n % 256 ∷ lowest_first width (n / 256)

-- The bytes that spell numbers, one after the other.
unfoldable pub each_lowest_first : (width : ℕ) → List ℕ → List ℕ
each_lowest_first width [] = []
each_lowest_first width (n ∷ ns) = lowest_first width n ++ each_lowest_first width ns

-- The bytes s put from the place on, every other byte as it was.
unfoldable pub stored : List ℕ → ℕ → List ℕ → List ℕ
stored bytes at [] = bytes
stored bytes at (b ∷ s) = stored (set bytes at b) (at + 1) s
