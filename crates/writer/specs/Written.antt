-- A command written back, for every command and every lent buffer: document 02, order 1.
use Rattle.std.specs.Prelude.{List, ℕ, Ok, Err}
use Rattle.refusal.specs.Refusal.{number}
use Rattle.command.specs.Limits.{form_of, Reading}
use Rattle.command.specs.declared.Command.{Command}
use Rattle.form_lines.specs.Written.{WriteResult, written_form, refused}

-- 'a writer that turns a command into its line in a lent buffer': the line of its form
unfoldable pub written : Command → List ℕ → WriteResult
written c out = written_form (form_of c) out

-- What a line is read as, written back. After 10, a line with no command shape, or over 160 bytes, is refused with 1, one with a number
-- outside its limits or a first edge above the second with 2.
unfoldable pub written_reading : Reading → List ℕ → WriteResult
written_reading (Ok c) out = written c out
written_reading (Err r) out = refused (number r) out
