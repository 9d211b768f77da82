-- What the reader answers, for a line of any bytes and any length: a total function on lists. `specs/Grammar.antt` states that it accepts
-- exactly the grammar of `command`'s `specs/Forms.antt`.
use Rattle.std.specs.Prelude.{List, [], ◌∷◌, ℕ, leb, length, Option, Some, None, Err}
use Rattle.text.specs.Words.{bytes, word_at}
use Rattle.command.specs.Forms.{Form}
use Rattle.command.specs.Limits.{Reading}
use Rattle.refusal.specs.declared.Refusal.TheVariants.{NoShape}
use Rattle.shapes.specs.Shapes.{Shape, start_shape, reply_shape, numbered_shape, bare_shape, window_shape, flight_shape, formed, read_as}
-- passed on for those who compute with `reading_of`
unfoldable pub use Rattle.shapes.specs.Shapes.{rule_at, end_at, read_parts, shaped_from}
use Rattle.shapes.specs.declared.FormWord.{FormWord}
use Rattle.shapes.specs.declared.Numbered.TheVariants.{Pass, Request, Drop}
use Rattle.shapes.specs.declared.Bare.TheVariants.{Read, Waiting}
use Rattle.bits.specs.Choice.{choose}

-- The shapes, in the order in which they are tried: the commonest first, then those that come less often.
abbrev pub last_shapes : List Shape
last_shapes = window_shape ∷ flight_shape ∷ start_shape ∷ []

abbrev pub rare_shapes : List Shape
rare_shapes = bare_shape Read ∷ numbered_shape Drop ∷ bare_shape Waiting ∷ last_shapes

abbrev pub shapes : List Shape
shapes = reply_shape ∷ numbered_shape Pass ∷ numbered_shape Request ∷ rare_shapes

-- The form of the first shape whose text the line begins with, if the rest of the line is of that shape.
abbrev pub by_word : Option ℕ → (ℕ → Option Form) → Option Form → Option Form
by_word (Some at) k otherwise = k at
by_word None k otherwise = otherwise

unfoldable pub parse_as : List Shape → List ℕ → Option Form
parse_as [] line = None
parse_as (s ∷ ss) line =
    by_word (word_at line 0 (bytes s.word)) (λ at. formed s.form (read_parts s.kinds line at)) (parse_as ss line)

unfoldable pub parse : List ℕ → Option Form
parse line = parse_as shapes line

-- A form's word with the place after it, if its text was found, or what comes otherwise.
abbrev pub taken_word : Option ℕ → FormWord → Option (FormWord × ℕ) → Option (FormWord × ℕ)
taken_word (Some next) w otherwise = Some (w, next)
taken_word None w otherwise = otherwise

-- The word of the first shape whose text stands at the place, with the place after it.
unfoldable pub word_of : List Shape → List ℕ → ℕ → Option (FormWord × ℕ)
word_of [] line at = None
word_of (s ∷ ss) line at = taken_word (word_at line at (bytes s.word)) s.named (word_of ss line at)

unfoldable pub word_from : List ℕ → ℕ → Option (FormWord × ℕ)
word_from line at = word_of shapes line at

-- 'A line is at most 120 bytes, without its LF', and order 4: 'the line limit becomes 160'.
abbrev pub longest_line : ℕ
longest_line = 160

-- 'or over' that limit
unfoldable pub reading_of : List ℕ → Reading
reading_of line = choose (leb (length line) longest_line) (λ _. read_as (parse line)) (λ _. Err NoShape)
