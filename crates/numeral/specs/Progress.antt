-- A run of digits that is being read from its first digit on, and the groups after it.
use Rattle.std.specs.Prelude.{◌≡◌, ℕ, ◌+◌, ◌-◌, ◌*◌, ◌^◌, ◌<◌, ◌≤◌, min, Bool, true, false, List, [], ◌∷◌, length, drop, Option, Some, None}
use Rattle.bits.specs.Choice.{choose}
use Rattle.numeral.specs.Reading.{is_digit, is_group, at_underscore, numeral_ends, run, value_from}

-- Whether d is at most 9 tells whether the byte is a digit, and if so it is the digit d.
pub record TellsDigit (b d : ℕ) : Type 0 where
  pub digit : d ≤ 9 → b ≡ 48 + d
  pub other : 9 < d → is_digit b ≡ false

-- The place up to which digits are read, in a line of a length: 19 bytes on, or the end of the line if that comes first.
abbrev pub digits_end : ℕ → ℕ → ℕ
digits_end long at = at + min (long - at) 19

-- `count` digits stand at the place, and n is their number: the run at the place is those digits and the run after them.
pub record DigitsAt (line : List ℕ) (at count n : ℕ) : Type 0 where
  pub small : n < 10 ^ count
  pub value : (v : ℕ) → value_from v (run (drop at line)) ≡ value_from (v * 10 ^ count + n) (run (drop (at + count) line))
  pub long : length (run (drop at line)) ≡ count + length (run (drop (at + count) line))

-- From the place `at`, the digits up to the place `next` are read, and `value` is their number.
pub record Progress (line : List ℕ) (at value next : ℕ) : Type 0 where
  pub from : at ≤ next
  pub within : next ≤ digits_end (length line) at
  pub passed : DigitsAt line at (next - at) value

-- Likewise, and the numeral ends there.
pub record Ended (line : List ℕ) (at value next : ℕ) : Type 0 where
  pub progress : Progress line at value next
  pub ends : numeral_ends (drop next line) ≡ true

-- Likewise, and a byte of the line stands there.
pub record EndedInside (line : List ℕ) (at value next : ℕ) : Type 0 where
  pub ended : Ended line at value next
  pub inside : next < length line

-- From the place, the digits up to the place `next` are read, and the numeral goes on: with a `_`, or with another digit after 19.
pub record GoesOn (line : List ℕ) (at value next : ℕ) : Type 0 where
  pub progress : Progress line at value next
  pub on : numeral_ends (drop next line) ≡ false
  pub with_underscore : next < at + 19 → at_underscore (drop next line) ≡ true

-- Likewise, and one of the two is so.
pub record Stopped (line : List ℕ) (at value next : ℕ) : Type 0 where
  pub progress : Progress line at value next
  pub with_underscore : next < at + 19 → numeral_ends (drop next line) ≡ false → at_underscore (drop next line) ≡ true

-- Likewise, and the numeral is known to end there, or not yet.
pub record DigitsUpTo (line : List ℕ) (at value next : ℕ) (known : Bool) : Type 0 where
  pub ended : known ≡ true → EndedInside line at value next
  pub stopped : known ≡ false → Stopped line at value next

-- Of what is read up to a place of the line, `value` is the number: it has at most `count` digits, and `count` is at most 19.
pub record Counted (line : List ℕ) (value count at : ℕ) : Type 0 where
  pub small : value < 10 ^ count
  pub most : count ≤ 19
  pub inside : at ≤ length line

-- The number of the group that the bytes begin with, or that they begin with none.
unfoldable pub group_number : List ℕ → Option ℕ
group_number [] = None
group_number (u ∷ []) = None
group_number (u ∷ a ∷ []) = None
group_number (u ∷ a ∷ b ∷ []) = None
group_number (u ∷ a ∷ b ∷ c ∷ s) = choose (is_group u a b c) (λ _. Some (value_from 0 (a ∷ b ∷ c ∷ []))) (λ _. None)
