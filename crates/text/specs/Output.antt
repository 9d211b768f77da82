-- What a write of some bytes at a place of a lent output does. 'Output beyond the line written is never touched.'
use Rattle.std.specs.Prelude.{◌≡◌, List, ◌++◌, ℕ, ◌+◌, leb, length, take, drop}
use Rattle.bits.specs.Choice.{choose}

-- The output with the bytes s at the place, every other byte as it was; all of it as it was, if they do not fit there.
unfoldable pub output_with : List ℕ → ℕ → List ℕ → List ℕ
output_with out at s = choose (leb (at + length s) (length out)) (λ _. take at out ++ s ++ drop (at + length s) out) (λ _. out)

-- The place after them; the same place, if they do not fit.
unfoldable pub place_after : List ℕ → ℕ → List ℕ → ℕ
place_after out at s = choose (leb (at + length s) (length out)) (λ _. at + length s) (λ _. at)

-- `next` and `after` are the place and the output after the bytes s were put at the place `at` of the output `before`.
pub record Put (before : List ℕ) (at : ℕ) (s after : List ℕ) (next : ℕ) : Type 0 where
  pub output : after ≡ output_with before at s
  pub place : next ≡ place_after before at s
