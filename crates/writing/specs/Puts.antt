-- What writes one after the other do: bytes, numerals and pairs; and the least output.
use Rattle.std.specs.Prelude.{List, ◌++◌, ℕ, ◌+◌, ◌≤◌, ℤ, length}
use Rattle.text.specs.Words.{bytes}
use Rattle.text.specs.Output.{Put}
use Rattle.numeral.specs.Digits.{signed_digits}

-- 'lent output under 256 bytes' is refused: every line that is written, and its LF, has room in this many.
abbrev pub least_output : ℕ
least_output = 256

-- Where there is room for all of the bytes, they are put. Where there is none, the parts may stop in the middle, and nothing is promised.
pub record Puts (before : List ℕ) (at : ℕ) (s after : List ℕ) (next : ℕ) : Type 0 where
  pub put : at + length s ≤ length before → Put before at s after next

-- '(LOWER UPPER)', '(CENTRE ERROR)'
unfoldable pub pair : ℤ → ℤ → List ℕ
pair first second = bytes "(" ++ signed_digits first ++ bytes " " ++ signed_digits second ++ bytes ")"
