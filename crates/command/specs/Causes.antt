-- Causes of a refusal: document 01, 'Causes of a refusal', and document 02, order 3. 'The first cause that holds is given.'
use Rattle.std.specs.Prelude.{Bool, not, ◌&&◌, List, [], ◌∷◌, ℕ}
use Rattle.bits.specs.Choice.{choose}
use Rattle.std.specs.Int.Signed.{lt_z}
use Rattle.calendar.specs.Calendar.{exists}
use Rattle.calendar.specs.Conversion.{moment_of}
use Rattle.command.specs.Forms as F
use Rattle.command.specs.Forms.{Form}
use Rattle.command.specs.Limits.{keeps, form_of}
use Rattle.command.specs.declared.Command.{Command}

-- A cause: its number, and whether it holds.
pub record Cause : Type 0 where
  pub number : ℕ
  pub holds : Bool

abbrev pub cause : ℕ → Bool → Cause
cause n t = record { number = n; holds = t }

-- The number of the first cause that holds, 0 if none does.
unfoldable pub first : List Cause → ℕ
first [] = 0
first (c ∷ cs) = choose c.holds (λ _. c.number) (λ _. first cs)

-- The greatest number of a refusal: 10 in document 01's table, 11 and 12 by document 02, order 3.
abbrev pub most_number : ℕ
most_number = 12

-- '11 for a date that doesn't exist or is outside those years, .. 12 for a window whose end isn't later than its start, 11 first, both after 2 and
-- before 3'
abbrev pub date_causes : Form → List Cause
date_causes (F.start board rule claim edges) = []
date_causes (F.pass ticks) = []
date_causes (F.request peer) = []
date_causes (F.reply peer tag edges) = []
date_causes (F.drop peer) = []
date_causes F.read = []
date_causes F.waiting = []
date_causes (F.window slot begins ends) =
    cause 11 (not (exists begins && exists ends)) ∷ cause 12 (not (lt_z (moment_of begins) (moment_of ends))) ∷ []
date_causes (F.flight peer out back) = []

-- The causes that a form has before 3, which look at no keeper: 'a numeral outside its range, or a first edge above the second' is 2.
abbrev pub form_causes : Form → List Cause
form_causes f = cause 2 (not (keeps f)) ∷ date_causes f

-- A command's own causes are those of its form.
unfoldable pub own_causes : Command → List Cause
own_causes c = form_causes (form_of c)
