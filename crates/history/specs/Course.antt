-- Courses: document 01, 'A course', with the brackets of document 02, orders 5 and 7: 'A course must now lie in the shifted bracket, and an empty one
-- admits no course'. The set of the moments at which some course stands is a predicate on moments.
use Rattle.std.specs.Prelude.{◌≡◌, List, [], ◌∷◌, ℕ, ◌*◌, ◌≤◌, ℤ, pos, ◌+ℤ◌}
use Rattle.moment.specs.Moment.{shortest, longest}
use Rattle.moment.specs.Intervals.{Holds}
use Rattle.moment.specs.declared.Interval.{Interval}
use Rattle.rules.specs.declared.Finding.{Finding}
use Rattle.rules.specs.declared.Finding.TheVariants.{Conflict, Taken, Kept}
use Rattle.command.specs.declared.Command.{Command}
use Rattle.command.specs.declared.Command.TheVariants as C
use Rattle.keeper.specs.State.{State}
use Rattle.keeper.specs.Refusals.{reply_bracket, reply_verdict}
use Rattle.history.specs.Log.{Input, Log, Accepting, accepts, refuses, accepting, logged}

-- What a line is to a course: its start, a pass that takes between two spans, a reply's bracket that it must lie in, or nothing.
pub data Event : Type 0 where
  began : Interval → Event
  passed : (least most : ℕ) → Event
  met : Interval → Event
  stayed : Event

-- 'At a reply that the log counts as taken or conflict it stays and must lie in that reply's bracket'; at a kept one it just stays.
abbrev pub replied_event : Finding → Interval → Event
replied_event Conflict b = met b
replied_event Taken b = met b
replied_event Kept b = stayed

abbrev pub command_event : State → Command → Event
command_event s (C.Start board rule claim edges) = began edges
command_event s (C.Pass ticks) = passed (ticks * shortest s.claim) (ticks * longest s.claim)
command_event s (C.Request peer) = stayed
command_event s (C.Reply peer tag reply) = replied_event (reply_verdict s peer reply).finding (reply_bracket s peer reply)
command_event s (C.Drop peer) = stayed
command_event s C.Read = stayed
command_event s C.Waiting = stayed
command_event s (C.Window slot start end) = stayed
command_event s (C.Flight peer out back) = stayed

abbrev pub event_by : State → Accepting → Event
event_by s (accepts c) = command_event s c
event_by s refuses = stayed

unfoldable pub event_of : State → Input → Event
event_of s i = event_by s (accepting s i)

-- The moments at which some course stands after an event, from those at which one stood before it.
abbrev pub advanced : Event → (ℤ → Type 0) → ℤ → Type 0
advanced (began edges) before m = Holds edges m
advanced (passed least most) before m = (x : ℤ) × (d : ℕ) × before x × (least ≤ d) × (d ≤ most) × (m ≡ x +ℤ pos d)
advanced (met b) before m = before m × Holds b m
advanced stayed before m = before m

-- After a list of lines, the oldest first. Before the accepted start there is no course.
abbrev pub no_course : ℤ → Type 0
no_course m = ⊥

abbrev pub courses_after : Log → (ℤ → Type 0) → List Input → ℤ → Type 0
courses_after l before [] = before
courses_after l before (i ∷ is) = courses_after (logged l i) (advanced (event_of l.state i) before) is
