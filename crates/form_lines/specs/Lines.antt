-- Lines by their layout, as private functions promise them. They serve the proofs: what each form's line is, `plain_spelling` says.
use Rattle.std.specs.Prelude.{List, ◌++◌, ℕ}
use Rattle.text.specs.Words.{bytes}
use Rattle.numeral.specs.Digits.{digits}
use Rattle.moment.specs.declared.Interval.{Interval}
use Rattle.writing.specs.Puts.{pair}

-- the second number, the edges and the last bracket
unfoldable pub edged_end : ℕ → Interval → List ℕ
edged_end n edges = digits n ++ bytes " " ++ pair edges.lower edges.upper ++ bytes ")"

-- two numbers with a text between them, and edges
unfoldable pub edged_line : List ℕ → ℕ → List ℕ → ℕ → Interval → List ℕ
edged_line word m between n edges = word ++ digits m ++ between ++ edged_end n edges

-- a number and a pair of flight times
unfoldable pub timed_end : ℕ → ℕ → ℕ → List ℕ
timed_end n first second = digits n ++ bytes " (" ++ digits first ++ bytes " " ++ digits second ++ bytes "))"

unfoldable pub timed_line : List ℕ → ℕ → ℕ → ℕ → List ℕ
timed_line word n first second = word ++ timed_end n first second

-- one number
unfoldable pub numbered_line : List ℕ → ℕ → List ℕ
numbered_line word n = word ++ digits n ++ bytes ")"
