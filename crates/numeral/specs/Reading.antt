-- What the readers of numerals answer, for any bytes and any place. `proofs/Numerals.antt` proves that a numeral is answered exactly
-- where one begins that does not go on: `numeral_read`, `read_numeral` and `read_ends`.
use Rattle.std.specs.Prelude.{ℕ, ◌+◌, ◌-◌, ◌*◌, Bool, true, false, not, ◌&&◌, ◌||◌, List, [], ◌∷◌, length, drop, ℤ, pos, negsuc, neg_ℤ, ◌==◌, nat_le, slice_index, Option, Some, None}
use Rattle.text.specs.Words.{word_at}
use Rattle.numeral.specs.Groups.{underscore}
use Rattle.numeral.specs.declared.read.Signed.{Signed}
use Rattle.bits.specs.Choice.{choose}

-- The byte is a digit, '0' (48) to '9' (57).
abbrev pub is_digit : ℕ → Bool
is_digit b = nat_le 48 b && nat_le b 57

-- The byte goes on with a numeral that stands before it: it is a digit or a `_`. The numeral ends before bytes that are none, or of which the
-- first is another byte.
abbrev pub goes_on : ℕ → Bool
goes_on b = is_digit b || b == underscore

abbrev pub numeral_ends : List ℕ → Bool
numeral_ends [] = true
numeral_ends (b ∷ s) = not (goes_on b)

-- The digits that the bytes begin with, all of them up to the first other byte.
unfoldable pub run : List ℕ → List ℕ
run [] = []
run (b ∷ s) = choose (is_digit b) (λ _. b ∷ run s) (λ _. [])

-- The number that digits spell, read after digits that spell v.
unfoldable pub value_from : ℕ → List ℕ → ℕ
value_from v [] = v
value_from v (b ∷ s) = value_from (v * 10 + (b - 48)) s

-- The digits are 1 to 19, and the first is 0 only if it is the one digit.
unfoldable pub well_formed : List ℕ → Bool
well_formed [] = false
well_formed (b ∷ s) = nat_le (length s) 18 && (length s == 0 || not (b == 48))

-- The number that digits spell which no `_` follows, with the place after them; or that they are no numeral.
unfoldable pub number_in : List ℕ → ℕ → Option (ℕ × ℕ)
number_in digits at =
    choose (well_formed digits) (λ _. Some (value_from 0 digits, at + length digits)) (λ _. None)

-- The digits may stand before the first `_`: 1 to 3, and the first is not 0.
unfoldable pub first_group : List ℕ → Bool
first_group digits = nat_le 1 (length digits) && (nat_le (length digits) 3 && not (slice_index digits 0 == 48))

-- The bytes begin with a `_`; the four bytes are a group, a `_` and three digits.
abbrev pub at_underscore : List ℕ → Bool
at_underscore [] = false
at_underscore (b ∷ s) = b == underscore

abbrev pub is_group : ℕ → ℕ → ℕ → ℕ → Bool
is_group u a b c = u == underscore && (is_digit a && (is_digit b && is_digit c))

-- The number that is read up to a place, if the numeral ends there.
unfoldable pub ended_at : ℕ → ℕ → List ℕ → Option (ℕ × ℕ)
ended_at value at s = choose (numeral_ends s) (λ _. Some (value, at)) (λ _. None)

-- The number after `count` digits that spell `value`, and the groups that the bytes from the place on begin with, 19 digits at most.
unfoldable pub groups_from : ℕ → ℕ → ℕ → List ℕ → Option (ℕ × ℕ)
groups_from value count at [] = ended_at value at []
groups_from value count at (u ∷ []) = ended_at value at (u ∷ [])
groups_from value count at (u ∷ a ∷ []) = ended_at value at (u ∷ a ∷ [])
groups_from value count at (u ∷ a ∷ b ∷ []) = ended_at value at (u ∷ a ∷ b ∷ [])
groups_from value count at (u ∷ a ∷ b ∷ c ∷ s) =
    choose (nat_le count 16 && is_group u a b c) (λ _. groups_from (value_from value (a ∷ b ∷ c ∷ [])) (count + 3) (at + 4) s)
    (λ _. ended_at value at (u ∷ a ∷ b ∷ c ∷ s))

-- The number of the numeral that begins at the place, with the place after it, or that none does, by its first digits and what follows them.
unfoldable pub number_from : List ℕ → List ℕ → ℕ → Option (ℕ × ℕ)
number_from digits rest at =
    choose (at_underscore rest)
    (λ _. choose (first_group digits) (λ _. groups_from (value_from 0 digits) (length digits) (at + length digits) rest) (λ _. None))
    (λ _. number_in digits at)

unfoldable pub number_at : List ℕ → ℕ → Option (ℕ × ℕ)
number_at line at = number_from (run (drop at line)) (drop (at + length (run (drop at line))) line) at

-- The sign and the magnitude of the signed numeral that begins at the place, with the place after it; or that none does.
abbrev pub signed : Bool → ℕ → Signed
signed negative magnitude = record { negative = negative; magnitude = magnitude }

unfoldable pub unsigned : Option (ℕ × ℕ) → Option (Signed × ℕ)
unsigned (Some (magnitude, next)) = Some (signed false magnitude, next)
unsigned None = None

-- -0 is no numeral
unfoldable pub negated : Option (ℕ × ℕ) → Option (Signed × ℕ)
negated (Some (magnitude, next)) = choose (magnitude == 0) (λ _. None) (λ _. Some (signed true magnitude, next))
negated None = None

-- after a '-' (45), or without one
unfoldable pub signed_from : Option ℕ → List ℕ → ℕ → Option (Signed × ℕ)
signed_from (Some first) line at = negated (number_at line first)
signed_from None line at = unsigned (number_at line at)

unfoldable pub signed_at : List ℕ → ℕ → Option (Signed × ℕ)
signed_at line at = signed_from (word_at line at (45 ∷ [])) line at

-- The integer of a sign and a magnitude.
abbrev pub integer : Bool → ℕ → ℤ
integer true magnitude = neg_ℤ (pos magnitude)
integer false magnitude = pos magnitude

-- The sign of an integer.
abbrev pub negative : ℤ → Bool
negative (pos n) = false
negative (negsuc n) = true
