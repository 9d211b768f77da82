-- Lines in a list of bytes: document 01, 'A whole run'.
use Rattle.std.specs.Prelude.{◌≡◌, List, [], ◌∷◌, ◌++◌, ℕ, suc, ◌+◌, ◌≤◌, eqb, length, take, drop}
use Rattle.bits.specs.Choice.{choose}

-- 'LF (byte 10)'
abbrev pub lf : ℕ
lf = 10

-- how many LFs there are among the bytes
unfoldable pub breaks : List ℕ → ℕ
breaks [] = 0
breaks (b ∷ bs) = choose (eqb b lf) (λ _. suc (breaks bs)) (λ _. breaks bs)

-- how many bytes stand before the first LF; all of them if there is none
unfoldable pub line_length : List ℕ → ℕ
line_length [] = 0
line_length (b ∷ bs) = choose (eqb b lf) (λ _. 0) (λ _. suc (line_length bs))

-- The first LF from one place on is the first from another on, which lies within the bytes.
pub record SameEnd (bytes : List ℕ) (from to : ℕ) : Type 0 where
  pub within : to ≤ length bytes
  pub same : from + line_length (drop from bytes) ≡ to + line_length (drop to bytes)

-- A byte before the first of some lines is a byte of that line.
abbrev pub begun : ℕ → List (List ℕ) → List (List ℕ)
begun b [] = (b ∷ []) ∷ []
begun b (l ∷ ls) = (b ∷ l) ∷ ls

-- 'splits at LF (a last line without LF counts if not empty)'
unfoldable pub lines_of : List ℕ → List (List ℕ)
lines_of [] = []
lines_of (b ∷ bs) = choose (eqb b lf) (λ _. [] ∷ lines_of bs) (λ _. begun b (lines_of bs))

-- Lines one after the other, each with its LF.
unfoldable pub joined : List (List ℕ) → List ℕ
joined [] = []
joined (l ∷ ls) = l ++ lf ∷ joined ls

-- No line has an LF in it.
abbrev pub Unbroken : List (List ℕ) → Type 0
Unbroken [] = Unit {0}
Unbroken (l ∷ ls) = (breaks l ≡ 0) × Unbroken ls

-- What is held of a line that is not whole yet: at most so many of its first bytes. It stands in a buffer from a place up to another.
abbrev pub held_of : List ℕ → ℕ → ℕ → ℕ → List ℕ
held_of buffer from end most = take most (drop from (take end buffer))

-- The bytes stand at the front of the buffer, and every byte behind them is as it was.
pub record Held (before held after : List ℕ) (n : ℕ) : Type 0 where
  pub buffer : after ≡ held ++ drop (length held) before
  pub count : n ≡ length held
