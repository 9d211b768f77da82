-- Document 02, orders 1 and 4: the reader's answer (`reading_of`, in the contract of `read_command`) and what the writer returns and leaves (`written`, in
-- the contract of `write_command`), held against each other.
use Rattle.std.specs.Prelude.{◌≡◌, false, List, ◌++◌, ◌↔◌, ℕ, ◌≤◌, length, take, drop, Ok}
use Rattle.numeral.specs.Groups.{ungrouped, carries_underscore}
use Rattle.writing.specs.Puts.{least_output}
use Rattle.command.specs.Forms.{Form}
use Rattle.command.specs.Limits.{form_of, command_of}
use Rattle.command.specs.Spelling.{plain_spelling}
use Rattle.command.specs.Causes.{first, date_causes, own_causes}
use Rattle.command.specs.declared.Command.{Command}
use Rattle.lines.specs.Lines.{breaks}
use Rattle.reader.specs.Reading.{reading_of}
use Rattle.form_lines.specs.Written.{write_result, written_form}
use Rattle.writer.specs.Written.{written}

-- The command is not refused in this buffer.
abbrev pub NotRefused : Command → List ℕ → Type 0
NotRefused c out = (written c out).number ≡ 0

-- The line that was written: as many bytes at the front of the buffer as the length says.
abbrev pub line_in : Command → List ℕ → List ℕ
line_in c out = take (written c out).length (written c out).buffer

pub record RoundTrip : Type 0 where
  -- Order 4: 'a line read and written gives the plain spelling'. Every line that is read as a command, whether a keeper refuses it or not, is written
  -- without its `_` at the front of every buffer in which the command is not refused, and that is the plain spelling of its form.
  pub line_plain : (line : List ℕ) (c : Command) (out : List ℕ) → reading_of line ≡ Ok c → NotRefused c out
      → (written c out ≡ write_result 0 (length (ungrouped line)) (ungrouped line ++ drop (length (ungrouped line)) out)) × (ungrouped line ≡ plain_spelling (form_of c))
  -- 'Each accepted line, read and written, gives the same bytes', if it carries no `_`
  pub line_back : (line : List ℕ) (c : Command) (out : List ℕ) → reading_of line ≡ Ok c → NotRefused c out → carries_underscore line ≡ false
      → written c out ≡ write_result 0 (length line) (line ++ drop (length line) out)
  -- A buffer with room is such a buffer for every line that is accepted: what is read as a command is within its limits, so that of 'the refusals
  -- that they have before 3' only those of its dates are left, 11 and 12. No command but a window has any.
  pub line_accepted : (line : List ℕ) (c : Command) (out : List ℕ) → reading_of line ≡ Ok c → least_output ≤ length out
      → first (date_causes (form_of c)) ≡ 0 → NotRefused c out
  -- 'Each command that it doesn't refuse, written and read, gives the same command.'
  pub command_back : (c : Command) (out : List ℕ) → NotRefused c out → reading_of (line_in c out) ≡ Ok c
  -- 'Two such commands have equal lines exactly when they are equal.'
  pub same_line : (c d : Command) (out out' : List ℕ) → NotRefused c out → NotRefused d out' → (line_in c out ≡ line_in d out') ↔ (c ≡ d)
  -- 'The writer of order 1 never writes `_`'
  pub no_underscore : (c : Command) (out : List ℕ) → NotRefused c out → carries_underscore (line_in c out) ≡ false
  -- 'The line has no LF'
  pub no_lf : (c : Command) (out : List ℕ) → NotRefused c out → breaks (line_in c out) ≡ 0
  -- not refused exactly if there is room and no cause of the command's own holds
  pub accepts : (c : Command) (out : List ℕ) → NotRefused c out ↔ ((least_output ≤ length out) × (first (own_causes c) ≡ 0))
  -- A call of the library takes the numbers of a form: what it writes (`written_form`) is what is written of the command with these numbers, so that
  -- every sentence here is one about the library's lines too.
  pub form_line : (f : Form) (out : List ℕ) → written_form f out ≡ written (command_of f) out
