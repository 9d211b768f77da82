-- The shapes of command lines: for each form its word, and what follows the word, read part by part. `reader`'s `specs/Grammar.antt` states
-- that the lines of these shapes are those of the grammar of `command`'s `specs/Forms.antt`.
use Rattle.std.specs.Prelude.{Bool, true, false, List, [], ◌∷◌, ℕ, leb, ℤ, length, Option, Some, None, Err}
use Prim.Native.String.{String}
use Rattle.text.specs.Words.{bytes, word_at}
use Rattle.numeral.specs.Reading.{number_at, signed_at}
use Rattle.calendar.specs.declared.Date.{Date}
use Rattle.dates.specs.DateReading.{date_at, after_word, after_part}
use Rattle.moment.specs.Intervals.{interval}
use Rattle.refusal.specs.declared.Refusal.TheVariants.{NoShape}
use Rattle.command.specs.Edges.{edge_value}
use Rattle.command.specs.Forms as F
use Rattle.command.specs.Forms.{Form}
use Rattle.command.specs.Limits.{Reading, limited}
use Rattle.rules.specs.declared.Rule.{Rule}
use Rattle.rules.specs.declared.Rule.TheVariants.{Im, Mm}
use Rattle.shapes.specs.declared.Edged.{Edged}
use Rattle.shapes.specs.declared.Edged.TheVariants.{Start, Reply}
use Rattle.shapes.specs.declared.Numbered.{Numbered}
use Rattle.shapes.specs.declared.Numbered.TheVariants.{Pass, Request, Drop}
use Rattle.shapes.specs.declared.Bare.{Bare}
use Rattle.shapes.specs.declared.Bare.TheVariants.{Read, Waiting}
use Rattle.shapes.specs.declared.FormWord.{FormWord}
use Rattle.shapes.specs.declared.FormWord.TheVariants as W

-- What is read one after the other: a text, the rule's word, a numeral, a signed numeral, a date.
pub data Kind : Type 0 where
  text : String → Kind
  rule number edge date : Kind

-- The values that are read.
abbrev pub Values : List Kind → Type 0
Values [] = Unit {0}
Values (text t ∷ ks) = Values ks
Values (rule ∷ ks) = Rule × Values ks
Values (number ∷ ks) = ℕ × Values ks
Values (edge ∷ ks) = ℤ × Values ks
Values (date ∷ ks) = Date × Values ks

-- The rule whose word stands at the place, with the place after it.
abbrev pub rule_from : Option ℕ → Option ℕ → Option (Rule × ℕ)
rule_from (Some next) w = Some (Im, next)
rule_from None (Some next) = Some (Mm, next)
rule_from None None = None

unfoldable pub rule_at : List ℕ → ℕ → Option (Rule × ℕ)
rule_at line at = rule_from (word_at line at (bytes (F.rule_text Im))) (word_at line at (bytes (F.rule_text Mm)))

-- Whether the line ends at the place.
unfoldable pub end_at : List ℕ → ℕ → Bool
end_at line at = leb (length line) at

-- A value before those that follow it.
abbrev pub before : {A B : Type 0} → A → Option B → Option (A × B)
before a None = None
before a (Some b) = Some (a, b)

-- A value where the line ends, or none.
abbrev pub at_end : {A : Type 0} → Bool → A → Option A
at_end true a = Some a
at_end false a = None

-- Parts of these kinds from the place to the line's last byte, 'and no byte after its last bracket'.
unfoldable pub read_parts : (ks : List Kind) → List ℕ → ℕ → Option (Values ks)
read_parts [] line at = at_end (end_at line at) tt
read_parts (text t ∷ ks) line at = after_word (word_at line at (bytes t)) (λ next. read_parts ks line next)
read_parts (rule ∷ ks) line at = after_part (rule_at line at) (λ r next. before r (read_parts ks line next))
read_parts (number ∷ ks) line at = after_part (number_at line at) (λ n next. before n (read_parts ks line next))
read_parts (edge ∷ ks) line at = after_part (signed_at line at) (λ z next. before (edge_value z) (read_parts ks line next))
read_parts (date ∷ ks) line at = after_part (date_at line at) (λ d next. before d (read_parts ks line next))

-- A shape of the grammar: its form's word, the text that it begins with, what follows, and the form that it is of.
pub record Shape : Type 0 where
  pub named : FormWord
  pub word : String
  pub kinds : List Kind
  pub form : Values kinds → Form

-- '(LOWER UPPER)', '(DATE DATE)' and '(OUT BACK)' at the end of a line, and a last numeral. OUT and BACK are no edges: 'a '-' elsewhere breaks the
-- shape'.
abbrev pub last_edges : List Kind
last_edges = text " (" ∷ edge ∷ text " " ∷ edge ∷ text "))" ∷ []

abbrev pub last_dates : List Kind
last_dates = text " (" ∷ date ∷ text " " ∷ date ∷ text "))" ∷ []

abbrev pub last_times : List Kind
last_times = text " (" ∷ number ∷ text " " ∷ number ∷ text "))" ∷ []

abbrev pub last_number : List Kind
last_number = number ∷ text ")" ∷ []

-- the kinds of `start` and of `reply` after their words
abbrev pub start_kinds : List Kind
start_kinds = number ∷ rule ∷ number ∷ last_edges

abbrev pub reply_kinds : List Kind
reply_kinds = number ∷ text " " ∷ number ∷ last_edges

abbrev pub start_shape : Shape
start_shape =
    record {
      named = W.Edged Start;
      word = "(start ";
      kinds = start_kinds;
      form = λ v. F.start v.0 v.1.0 v.1.1.0 (interval v.1.1.1.0 v.1.1.1.1.0);
    }

abbrev pub reply_shape : Shape
reply_shape =
    record { named = W.Edged Reply; word = "(reply "; kinds = reply_kinds; form = λ v. F.reply v.0 v.1.0 (interval v.1.1.0 v.1.1.1.0) }

abbrev pub edged_shape : Edged → Shape
edged_shape Start = start_shape
edged_shape Reply = reply_shape

-- the forms of one number
abbrev pub numbered_text : Numbered → String
numbered_text Pass = "(pass "
numbered_text Request = "(request "
numbered_text Drop = "(drop "

abbrev pub numbered_form : Numbered → ℕ → Form
numbered_form Pass n = F.pass n
numbered_form Request n = F.request n
numbered_form Drop n = F.drop n

abbrev pub numbered_shape : Numbered → Shape
numbered_shape w = record { named = W.Numbered w; word = numbered_text w; kinds = last_number; form = λ v. numbered_form w v.0 }

-- the forms that are a word alone
abbrev pub bare_text : Bare → String
bare_text Read = "(read)"
bare_text Waiting = "(waiting)"

abbrev pub bare_form : Bare → Form
bare_form Read = F.read
bare_form Waiting = F.waiting

abbrev pub bare_shape : Bare → Shape
bare_shape w = record { named = W.Bare w; word = bare_text w; kinds = []; form = λ v. bare_form w }

abbrev pub window_shape : Shape
window_shape =
    record { named = W.Window; word = "(window "; kinds = number ∷ last_dates; form = λ v. F.window v.0 v.1.0 v.1.1.0 }

abbrev pub flight_shape : Shape
flight_shape =
    record { named = W.Flight; word = "(flight "; kinds = number ∷ last_times; form = λ v. F.flight v.0 v.1.0 v.1.1.0 }

-- The form of what was read, if it was.
abbrev pub formed : {A : Type 0} → (A → Form) → Option A → Option Form
formed f None = None
formed f (Some v) = Some (f v)

-- 'line is no command shape' is refusal 1, and comes before refusal 2.
abbrev pub read_as : Option Form → Reading
read_as None = Err NoShape
read_as (Some f) = limited f

-- What a line is that begins with the shape's text, and goes on at the place.
unfoldable pub shaped_from : Shape → List ℕ → ℕ → Reading
shaped_from s line at = read_as (formed s.form (read_parts s.kinds line at))

-- What a line is that begins with the word, and goes on at the place.
unfoldable pub rest_of : FormWord → List ℕ → ℕ → Reading
rest_of (W.Edged w) line at = shaped_from (edged_shape w) line at
rest_of (W.Numbered w) line at = shaped_from (numbered_shape w) line at
rest_of (W.Bare w) line at = shaped_from (bare_shape w) line at
rest_of W.Window line at = shaped_from window_shape line at
rest_of W.Flight line at = shaped_from flight_shape line at
rest_of W.Unknown line at = Err NoShape
