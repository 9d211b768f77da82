-- The grammar theorem's statement: what the reader answers, against the grammar of `command`'s `specs/Forms.antt`, which has no parser in it.
use Rattle.std.specs.Prelude.{◌≡◌, true, false, List, ◌↔◌, ℕ, ◌≤◌, length, Ok}
use Rattle.refusal.specs.Refusal.{number_of}
use Rattle.command.specs.Forms.{Form, IsSpelling}
use Rattle.command.specs.Limits.{keeps, form_of}
use Rattle.reader.specs.Reading.{longest_line, reading_of}
use Rattle.command.specs.declared.Command.{Command}

-- The line is a spelling of the form, and at most 160 bytes long.
pub record Shaped (f : Form) (line : List ℕ) : Type 0 where
  pub spelling : IsSpelling f line
  pub short : length line ≤ longest_line

-- What the reader answers to the line.
pub record ReadsTheGrammar (line : List ℕ) : Type 0 where
  -- a command exactly when the line is the spelling of that command's form, and keeps every limit
  pub command : (c : Command) → (reading_of line ≡ Ok c) ↔ (Shaped (form_of c) line × (keeps (form_of c) ≡ true))
  -- 2 exactly when it is such a spelling and breaks a limit
  pub outside : (number_of (reading_of line) ≡ 2) ↔ ((f : Form) × Shaped f line × (keeps f ≡ false))
  -- 1 exactly when it is the spelling of no form, or is too long
  pub shapeless : (number_of (reading_of line) ≡ 1) ↔ ((f : Form) → Shaped f line → ⊥)
  -- no spelling of a form is too long: the limit refuses none
  pub none_too_long : (f : Form) → IsSpelling f line → Shaped f line
  -- two forms with one spelling are one form
  pub one : (f g : Form) → IsSpelling f line → IsSpelling g line → f ≡ g
