-- Marked lines among bytes.
use Rattle.std.specs.Prelude.{Bool, false, List, [], ◌∷◌, ℕ, suc, eqb}
use Rattle.bits.specs.Choice.{choose}
use Rattle.lines.specs.Lines.{lf}

-- '#'
abbrev pub mark : ℕ
mark = 35

-- the bytes begin with a marked line
unfoldable pub marked : List ℕ → Bool
marked [] = false
marked (b ∷ bs) = eqb b mark

-- how many bytes the first line has, with its LF if it has one
unfoldable pub line_size : List ℕ → ℕ
line_size [] = 0
line_size (b ∷ bs) = choose (eqb b lf) (λ _. 1) (λ _. suc (line_size bs))

-- how many of them are a mark
abbrev pub mark_size : List ℕ → ℕ
mark_size s = choose (marked s) (λ _. line_size s) (λ _. 0)

-- how many bytes the first line has, marked or not, with the lines behind it that are not marked
unfoldable pub run_size : List ℕ → ℕ
run_size [] = 0
run_size (b ∷ bs) = choose (eqb b lf) (λ _. suc (choose (marked bs) (λ _. 0) (λ _. run_size bs))) (λ _. suc (run_size bs))
