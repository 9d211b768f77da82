-- The spelling of a number in base ten: document 01, 'Line forms'.
use Rattle.std.specs.Prelude.{ℕ, zero, suc, ◌+◌, ◌/◌, ◌%◌, List, [], ◌∷◌, ◌++◌, ℤ, pos, negsuc, nat_lt}
use Rattle.bits.specs.Choice.{choose}

-- The digits of n in base ten, the first one first, as the bytes '0' (48) to '9' (57), if n has at most `most` digits.
unfoldable pub digits_in : ℕ → ℕ → List ℕ
digits_in zero n = []
digits_in (suc most) n = choose (nat_lt n 10) (λ _. (48 + n) ∷ []) (λ _. digits_in most (n / 10) ++ (48 + n % 10) ∷ [])

-- The spelling of n: its digits in base ten, no zero before them.
unfoldable pub digits : ℕ → List ℕ
digits n = digits_in (suc n) n

-- The spelling of an integer: 'one '-' before it if negative'.
unfoldable pub signed_digits : ℤ → List ℕ
signed_digits (pos n) = digits n
signed_digits (negsuc n) = 45 ∷ digits (suc n)
