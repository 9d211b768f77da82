-- The limits of the numbers in a form, and the command that a form within them is: document 01, 'Line forms' and 'Moments and ticks',
-- and document 02, orders 3 and 7.
use Rattle.std.specs.Prelude.{Bool, true, ◌&&◌, ℕ, leb, Result, Ok, Err}
use Rattle.bits.specs.Choice.{choose}
use Rattle.moment.specs.Intervals.{edges_within}
use Rattle.flights.specs.Flights.{flight_within}
use Rattle.command.specs.Forms as F
use Rattle.command.specs.Forms.{Form}
use Rattle.command.specs.declared.Command.{Command}
use Rattle.command.specs.declared.Command.TheVariants as C
use Rattle.refusal.specs.declared.Refusal.{Refusal}
use Rattle.refusal.specs.declared.Refusal.TheVariants.{OutsideLimits}

-- 'its board number 0..15', 'a peer, 0..15'
unfoldable pub board_within : ℕ → Bool
board_within board = leb board 15

-- 'A claim is 0 through 50000.'
unfoldable pub claim_within : ℕ → Bool
claim_within claim = leb claim 50000

-- '`(pass TICKS)`, 0 through 86400000'
unfoldable pub ticks_within : ℕ → Bool
ticks_within ticks = leb ticks 86400000

-- 'TAG 1 through 16777215'
unfoldable pub tag_within : ℕ → Bool
tag_within tag = leb 1 tag && leb tag 16777215

-- 'names a slot 0..15'
unfoldable pub slot_within : ℕ → Bool
slot_within slot = leb slot 15

-- The form keeps every limit of its numerals and edges. A date has none: whether it exists is another cause.
abbrev pub keeps : Form → Bool
keeps (F.start board rule claim edges) = board_within board && claim_within claim && edges_within edges
keeps (F.pass ticks) = ticks_within ticks
keeps (F.request peer) = board_within peer
keeps (F.reply peer tag edges) = board_within peer && tag_within tag && edges_within edges
keeps (F.drop peer) = board_within peer
keeps F.read = true
keeps F.waiting = true
keeps (F.window slot begins ends) = slot_within slot
-- 'here the pair need not be in order' (order 7)
keeps (F.flight peer out back) = board_within peer && flight_within out && flight_within back

-- The command of a form, and the form of a command: the same word, the same numbers and the same dates.
abbrev pub command_of : Form → Command
command_of (F.start board rule claim edges) = C.Start board rule claim edges
command_of (F.pass ticks) = C.Pass ticks
command_of (F.request peer) = C.Request peer
command_of (F.reply peer tag edges) = C.Reply peer tag edges
command_of (F.drop peer) = C.Drop peer
command_of F.read = C.Read
command_of F.waiting = C.Waiting
command_of (F.window slot begins ends) = C.Window slot begins ends
command_of (F.flight peer out back) = C.Flight peer out back

abbrev pub form_of : Command → Form
form_of (C.Start board rule claim edges) = F.start board rule claim edges
form_of (C.Pass ticks) = F.pass ticks
form_of (C.Request peer) = F.request peer
form_of (C.Reply peer tag edges) = F.reply peer tag edges
form_of (C.Drop peer) = F.drop peer
form_of C.Read = F.read
form_of C.Waiting = F.waiting
form_of (C.Window slot start end) = F.window slot start end
form_of (C.Flight peer out back) = F.flight peer out back

-- What a line is: a command, or the cause for which the reader refuses it.
abbrev pub Reading : Type 0
Reading = Result Command Refusal

-- 'a numeral outside its range, or a first edge above the second' is refusal 2.
abbrev pub unless_broken : Bool → Result (Unit {0}) Refusal
unless_broken kept = choose kept (λ _. Ok tt) (λ _. Err OutsideLimits)

unfoldable pub limited : Form → Reading
limited f = choose (keeps f) (λ _. Ok (command_of f)) (λ _. Err OutsideLimits)
