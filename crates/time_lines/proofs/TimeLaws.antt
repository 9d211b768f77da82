-- What is put of the time line one after the other is the line with its LF.
use mathlib.Core.Path.{◌≡◌}
use mathlib.Core.List.{List, ◌++◌, append_assoc}
use Prim.Native.Nat.{ℕ}
use Rattle.text.specs.Words.{bytes}
use Rattle.numeral.specs.Digits.{digits}
use Rattle.answers.specs.Writing.{line_end}

pub time_parts : (w p q : List ℕ) (m n : ℕ) → w ++ p ++ bytes " " ++ q ++ (bytes " " ++ digits m ++ bytes " " ++ digits n ++ bytes ")\n")
    ≡ w ++ p ++ bytes " " ++ q ++ bytes " " ++ digits m ++ bytes " " ++ digits n ++ bytes ")" ++ line_end
time_parts w p q m n = simp append_assoc
