-- The grammar of command lines, as spellings of forms: document 01, 'Line forms', and document 02, orders 3 and 7.
use Rattle.std.specs.Prelude.{◌≡◌, List, [], ◌∷◌, ◌++◌, ℕ, ℤ}
use Prim.Native.String.{String}
use Rattle.text.specs.Words.{bytes}
use Rattle.numeral.specs.Numerals.{Numeral, SignedNumeral}
use Rattle.calendar.specs.declared.Date.{Date}
use Rattle.dates.specs.DateText.{DateSpelling}
use Rattle.moment.specs.declared.Interval.{Interval}
use Rattle.rules.specs.declared.Rule.{Rule}
use Rattle.rules.specs.declared.Rule.TheVariants.{Im, Mm}

-- A form: its word, and the numbers and dates of its parts. Of a pair of edges the first is the lower, or TRAILING, and the second the upper, or
-- LEADING; of a window's dates the first is its start, and the second its end. A flight has the peer, its OUT and its BACK.
pub data Form : Type 0 where
  start : (board : ℕ) (rule : Rule) (claim : ℕ) (edges : Interval) → Form
  pass : (ticks : ℕ) → Form
  request : (peer : ℕ) → Form
  reply : (peer tag : ℕ) (edges : Interval) → Form
  drop : (peer : ℕ) → Form
  read : Form
  waiting : Form
  window : (slot : ℕ) (begins ends : Date) → Form
  flight : (peer out back : ℕ) → Form

-- What a line is put together of: bytes as they stand, the rule's word, numerals, and dates. 'Only edges may be negative.'
pub data Part : Type 0 where
  text : String → Part
  rule : Rule → Part
  number : ℕ → Part
  edge : ℤ → Part
  date : Date → Part

-- 'RULE is `im` or `mm`', with the space before it and the one after it.
abbrev pub rule_text : Rule → String
rule_text Im = " im "
rule_text Mm = " mm "

-- The bytes are a spelling of the part.
abbrev pub IsPart : Part → List ℕ → Type 0
IsPart (text t) s = s ≡ bytes t
IsPart (rule r) s = s ≡ bytes (rule_text r)
IsPart (number n) s = Numeral n s
IsPart (edge z) s = SignedNumeral z s
IsPart (date d) s = DateSpelling d s

-- The line is a spelling of the parts, one after the other, and nothing else.
abbrev pub Spells : List Part → List ℕ → Type 0
Spells [] line = line ≡ []
Spells (p ∷ ps) line = (s : List ℕ) × (rest : List ℕ) × IsPart p s × (line ≡ s ++ rest) × Spells ps rest

-- 'A form is a word and its parts in round brackets, with one space between parts and none elsewhere.' The shapes, in the papers' order.
abbrev pub parts : Form → List Part
parts (start board r claim edges) =
    text "(start "
    ∷ number board
    ∷ rule r
    ∷ number claim
    ∷ text " ("
    ∷ edge edges.lower
    ∷ text " "
    ∷ edge edges.upper
    ∷ text "))"
    ∷ []
parts (pass ticks) = text "(pass " ∷ number ticks ∷ text ")" ∷ []
parts (request peer) = text "(request " ∷ number peer ∷ text ")" ∷ []
parts (reply peer tag edges) =
    text "(reply "
    ∷ number peer
    ∷ text " "
    ∷ number tag
    ∷ text " ("
    ∷ edge edges.lower
    ∷ text " "
    ∷ edge edges.upper
    ∷ text "))"
    ∷ []
parts (drop peer) = text "(drop " ∷ number peer ∷ text ")" ∷ []
parts read = text "(read)" ∷ []
parts waiting = text "(waiting)" ∷ []
parts (window slot begins ends) =
    text "(window "
    ∷ number slot
    ∷ text " ("
    ∷ date begins
    ∷ text " "
    ∷ date ends
    ∷ text "))"
    ∷ []
parts (flight peer out back) =
    text "(flight "
    ∷ number peer
    ∷ text " ("
    ∷ number out
    ∷ text " "
    ∷ number back
    ∷ text "))"
    ∷ []

-- The line is a spelling of the form: the line has that shape.
abbrev pub IsSpelling : Form → List ℕ → Type 0
IsSpelling f line = Spells (parts f) line
