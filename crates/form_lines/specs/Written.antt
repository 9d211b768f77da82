-- What a call that writes a line returns and leaves in the lent buffer, for every form, its numbers within their limits or not, and every buffer:
-- document 02, order 1.
use Rattle.std.specs.Prelude.{true, List, [], ◌∷◌, ◌++◌, ℕ, Result, Ok, Err, eqb, ltb, length, drop}
use Rattle.bits.specs.Choice.{choose}
use Rattle.refusal.specs.declared.Refusal.{Refusal}
use Rattle.refusal.specs.Refusal.{number_of}
use Rattle.rules.specs.Rules.{rule_number}
use Rattle.rules.specs.declared.Rule.{Rule}
use Rattle.rules.specs.declared.Rule.TheVariants.{Im, Mm}
use Rattle.writing.specs.Puts.{least_output}
use Rattle.command.specs.Forms.{Form}
use Rattle.command.specs.Spelling.{plain_spelling}
use Rattle.command.specs.Causes.{Cause, cause, first, form_causes}

-- The number and the length that a call returns, and the buffer after it.
pub record WriteResult : Type 0 where
  pub number : ℕ
  pub length : ℕ
  pub buffer : List ℕ

abbrev pub write_result : ℕ → ℕ → List ℕ → WriteResult
write_result n l out = record { number = n; length = l; buffer = out }

-- A line that is written has a length, and no number; a refusal has its number, and length 0.
abbrev pub length_of : Result ℕ Refusal → ℕ
length_of (Ok l) = l
length_of (Err r) = 0

abbrev pub write_result_of : Result ℕ Refusal → List ℕ → WriteResult
write_result_of written out = write_result (number_of written) (length_of written) out

-- 'Refusals 2 and 10 apply to it, 10 first', 10 being 'lent output under 256 bytes'; 'Commands added later join in, with the refusals that
-- they have before 3': those causes come after 10.
unfoldable pub write_refusal : List Cause → List ℕ → ℕ
write_refusal causes out = first (cause 10 (ltb (length out) least_output) ∷ causes)

-- The line stands at the front of the buffer, 'its length is returned', and every byte behind it is as it was. A refusal 'returns length 0 and
-- leaves the buffer as it was'.
unfoldable pub writes : List Cause → List ℕ → List ℕ → WriteResult
writes causes line out =
    choose
    (eqb (write_refusal causes out) 0)
    (λ _. write_result 0 (length line) (line ++ drop (length line) out))
    (λ _. write_result (write_refusal causes out) 0 out)

-- The line of a form is its plain spelling.
unfoldable pub written_form : Form → List ℕ → WriteResult
written_form f out = writes (form_causes f) (plain_spelling f) out

-- No line: refused with n, which is not 0, or with 10 before it.
unfoldable pub refused : ℕ → List ℕ → WriteResult
refused n out = writes (cause n true ∷ []) [] out

-- A form whose rule is given as a number. A number that no rule has is outside its range: 2.
unfoldable pub written_by_rule : ℕ → (Rule → Form) → List ℕ → WriteResult
written_by_rule n form out =
    choose
    (eqb n (rule_number Im))
    (λ _. written_form (form Im) out)
    (λ _. choose (eqb n (rule_number Mm)) (λ _. written_form (form Mm) out) (λ _. refused 2 out))
