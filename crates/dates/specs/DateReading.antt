-- What the readers of dates answer, for any bytes and any place. `proofs/DateLaws.antt` proves that a date is answered exactly where a spelling
-- of it stands: `date_read` and `read_date`.
use Rattle.std.specs.Prelude.{◌&&◌, List, [], ◌∷◌, ℕ, ◌+◌, ◌-◌, ◌*◌, drop, Option, Some, None}
use Rattle.bits.specs.Choice.{choose}
use Rattle.text.specs.Words.{bytes, word_at}
use Rattle.numeral.specs.Reading.{is_digit}
use Rattle.calendar.specs.Conversion.{date}
use Rattle.calendar.specs.declared.Date.{Date}

-- The number of the two digits that the bytes begin with, and the place after them; or that they do not begin with two digits.
abbrev pub two_of : List ℕ → ℕ → Option (ℕ × ℕ)
two_of (a ∷ b ∷ s) at = choose (is_digit a && is_digit b) (λ _. Some ((a - 48) * 10 + (b - 48), at + 2)) (λ _. None)
two_of (a ∷ []) at = None
two_of [] at = None

unfoldable pub two_at : List ℕ → ℕ → Option (ℕ × ℕ)
two_at line at = two_of (drop at line) at

-- Going on after a part, with its number or numbers, or after a separator; where it does not stand, there is no answer.
abbrev pub after_part : {P A : Type 0} → Option (P × ℕ) → (P → ℕ → Option A) → Option A
after_part (Some (part, next)) k = k part next
after_part None k = None

abbrev pub after_word : {A : Type 0} → Option ℕ → (ℕ → Option A) → Option A
after_word (Some next) k = k next
after_word None k = None

-- Three fields of two digits, with the separator between them.
unfoldable pub three_at : List ℕ → ℕ → List ℕ → Option ((ℕ × ℕ × ℕ) × ℕ)
three_at line at separator =
    after_part (two_at line at) (λ first at.
    after_word (word_at line at separator) (λ at.
    after_part (two_at line at) (λ second at.
    after_word (word_at line at separator) (λ at.
    after_part (two_at line at) (λ third at. Some ((first, second, third), at))))))

-- Four digits of the year are two and two, so that a date is two digits and twice three fields.
unfoldable pub date_at : List ℕ → ℕ → Option (Date × ℕ)
date_at line at =
    after_part (two_at line at) (λ hundreds at.
    after_part (three_at line at (bytes "-")) (λ day at.
    after_word (word_at line at (bytes "T")) (λ at.
    after_part (three_at line at (bytes ":")) (λ time at.
    Some (date (hundreds * 100 + day.0) day.1 day.2 time.0 time.1 time.2, at)))))
