-- The plain spelling of a form, in which a command is written back: document 02, order 1.
use Rattle.std.specs.Prelude.{List, [], ◌∷◌, ◌++◌, ℕ}
use Rattle.text.specs.Words.{bytes}
use Rattle.numeral.specs.Digits.{digits, signed_digits}
use Rattle.dates.specs.DateText.{date_text}
use Rattle.command.specs.Forms.{Form, Part, text, rule, number, edge, date, rule_text, parts}

-- The plain spelling of a part: a text and a rule as they stand, a number by its digits, an edge by its digits with '-' before them if it is
-- negative, a date by its fields at full width.
abbrev pub plain_part : Part → List ℕ
plain_part (text t) = bytes t
plain_part (rule r) = bytes (rule_text r)
plain_part (number n) = digits n
plain_part (edge z) = signed_digits z
plain_part (date d) = date_text d

-- Parts one after the other, and nothing else.
unfoldable pub plain_parts : List Part → List ℕ
plain_parts [] = []
plain_parts (p ∷ ps) = plain_part p ++ plain_parts ps

-- The plain spelling of a form is that of the parts which the grammar gives it. Of a form that no cause of its own refuses it is a spelling in
-- the sense of the grammar (`plain_spells` of proofs/SpellingLaws.antt), and every spelling of a form, without its `_`, is the plain one
-- (`spelling_plain`).
unfoldable pub plain_spelling : Form → List ℕ
plain_spelling f = plain_parts (parts f)
