-- A line is a list of bytes, and a word of a form stands at a place of it: document 01, 'Line forms'.
use Rattle.std.specs.Prelude.{◌≡◌, Bool, true, false, ◌&&◌, List, [], ◌∷◌, ◌++◌, ℕ, ◌+◌, eqb, length, drop, Option, Some, None}
use Prim.Native.Char.{code}
use Prim.Native.String.{String}
use Prim.Native.String as Text
use Rattle.bits.specs.Choice.{choose}

-- The bytes of a text: the code of each of its characters.
abbrev pub bytes : String → List ℕ
bytes Text.[] = []
bytes (Text.◌∷◌ c s) = code c ∷ bytes s

-- The line begins with the word.
unfoldable pub starts_with : List ℕ → List ℕ → Bool
starts_with [] line = true
starts_with (b ∷ word) [] = false
starts_with (b ∷ word) (c ∷ line) = eqb b c && starts_with word line

-- Bytes of a kind stand in the line from the place `at` up to the place `next`.
pub record Stands (Kind : List ℕ → Type 0) (line : List ℕ) (at next : ℕ) : Type 0 where
  pub bytes : List ℕ
  pub kind : Kind bytes
  pub here : drop at line ≡ bytes ++ drop next line
  pub after : next ≡ at + length bytes

-- Where the word stands at the place, the place after it.
unfoldable pub word_at : List ℕ → ℕ → List ℕ → Option ℕ
word_at line at word = choose (starts_with word (drop at line)) (λ _. Some (at + length word)) (λ _. None)
