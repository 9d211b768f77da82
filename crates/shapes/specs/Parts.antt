-- What the part readers answer.
use Rattle.std.specs.Prelude.{List, ℕ, Option, Some, None}
use Rattle.text.specs.Words.{bytes, word_at}
use Rattle.dates.specs.DateReading.{after_word, after_part}
use Rattle.shapes.specs.Shapes.{Values, end_at, at_end, last_number}

-- ' (PART PART))' and no byte after it, by what reads a part from a place.
unfoldable pub last_pair : {A : Type 0} → (List ℕ → ℕ → Option (A × ℕ)) → List ℕ → ℕ → Option (A × A)
last_pair part_at line at =
    after_word (word_at line at (bytes " (")) (λ at.
    after_part (part_at line at) (λ first at.
    after_word (word_at line at (bytes " ")) (λ at.
    after_part (part_at line at) (λ second at.
    after_word (word_at line at (bytes "))")) (λ at. at_end (end_at line at) (first, second))))))

-- The values of two parts that end a line, and of a last number.
abbrev pub pair_read : {A B : Type 0} → (A → B) → Option (A × A) → Option (B × (B × Unit {0}))
pair_read value (Some (first, second)) = Some (value first, (value second, tt))
pair_read value None = None

abbrev pub number_read : Option ℕ → Option (Values last_number)
number_read (Some n) = Some (n, tt)
number_read None = None
