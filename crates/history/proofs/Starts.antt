-- A list of lines has at most one accepted start, and each course has one moment for each line from it on.
use mathlib.Core.Path.{◌≡◌, refl, ap}
use mathlib.Core.Bool.{true, false}
use mathlib.Core.List.{List, [], ◌∷◌}
use Prim.Native.Nat.{suc}
use borrow.Author.Tests.{eqb-true}
use lib.Dec.{ltb, eqb}
use lib.IntN.{ℤ}
use lib.ListN.{length}
use Rattle.bits.proofs.Tests.{by_test, clash}
use Rattle.moment.specs.declared.Interval.{Interval}
use Rattle.rules.specs.declared.Finding.{Finding}
use Rattle.rules.specs.declared.Finding.TheVariants.{Conflict, Taken, Kept}
use Rattle.command.specs.Causes.{own_causes}
use Rattle.command.specs.declared.Command.{Command}
use Rattle.command.specs.declared.Command.TheVariants as C
use Rattle.std.specs.Prelude.{Ok, Err}
use Rattle.command.specs.Limits.{Reading}
use Rattle.reader.specs.Reading.{reading_of}
use Rattle.keeper.specs.State.{State}
use Rattle.keeper.specs.Refusals.{keeper_causes, causes, refusal, reply_bracket, reply_verdict}
use Rattle.keeper.proofs.Causes.{accepted_none}
use Rattle.writing.specs.Puts.{least_output}
use Rattle.history.specs.Log.{Input, Log, Accepting, accepts, refuses, accepted_command, accepting, log_started, state_with, log_passed, log_asked, log_ended, log_flight, log_counted, log_replied, log_accepted, log_by, logged, log_after}
use Rattle.history.specs.Course.{Event, began, passed, met, stayed, replied_event, command_event, event_by, event_of}
use Rattle.history.specs.Moments.{Begins, within_edges, Onward, at_end, next, Course, before_start, at_start, OneStart, OneForEachLine}

-- a line that is accepted has no cause of a refusal
abbrev Sound : State → Accepting → Type 0
Sound s (accepts c) = refusal s c ≡ 0
Sound s refuses = Unit {0}

sound_reading : (s : State) (r : Reading) → Sound s (accepted_command s r)
sound_reading s (Ok c) = by_test (eqb (refusal s c) 0) (λ t. rw t (eqb-true _ _ t)) (λ t. rw t tt)
sound_reading s (Err r) = tt

sound : (s : State) (i : Input) → Sound s (accepting s i)
unfolding accepting
sound s i = by_test (ltb i.room least_output) (λ t. rw t tt) (λ t. rw t (sound_reading s (reading_of i.line)))

-- ---- a course begins only where the log starts

abbrev IsStart : Event → Type 0
IsStart (began edges) = Unit {0}
IsStart (passed least most) = ⊥
IsStart (met bracket) = ⊥
IsStart stayed = ⊥

at_start_only : {e : Event} {m : ℤ} → Begins e m → IsStart e
at_start_only (within_edges h) = tt

replied_no_start : (finding : Finding) (bracket : Interval) → IsStart (replied_event finding bracket) → ⊥
replied_no_start Conflict bracket n = n
replied_no_start Taken bracket n = n
replied_no_start Kept bracket n = n

-- the log has not started before the line, and has after it
abbrev Starts : Log → Accepting → Type 0
Starts l a = (l.state.started ≡ false) × ((log_by l a).state.started ≡ true)

command_starts : (l : Log) (c : Command) → refusal l.state c ≡ 0 → IsStart (command_event l.state c) → Starts l (accepts c)
unfolding causes own_causes keeper_causes log_accepted log_started
command_starts l (C.Start board rule claim edges) e n = ((accepted_none l.state (C.Start board rule claim edges) e).1.0, refl)
command_starts l (C.Pass ticks) e n = absurd n
command_starts l (C.Request peer) e n = absurd n
command_starts l (C.Reply peer tag reply) e n =
    absurd (replied_no_start (reply_verdict l.state peer reply).finding (reply_bracket l.state peer reply) n)
command_starts l (C.Drop peer) e n = absurd n
command_starts l C.Read e n = absurd n
command_starts l C.Waiting e n = absurd n
command_starts l (C.Window slot start end) e n = absurd n
command_starts l (C.Flight peer out back) e n = absurd n

line_starts : (l : Log) (i : Input) {m : ℤ} → Begins (event_of l.state i) m → (l.state.started ≡ false) × ((logged l i).state.started ≡ true)
unfolding event_of logged
line_starts l i b = go (accepting l.state i) (sound l.state i) (at_start_only b)
  where
    go : (a : Accepting) → Sound l.state a → IsStart (event_by l.state a) → Starts l a
    go (accepts c) e n = command_starts l c e n
    go refuses e n = absurd n

-- ---- and a log that has started stays so

counted_started : (finding : Finding) (l : Log) (s : State) → s.started ≡ true → (log_counted finding l s).state.started ≡ true
counted_started Conflict l s on = on
counted_started Taken l s on = on
counted_started Kept l s on = on

command_started : (l : Log) (c : Command) → l.state.started ≡ true → (log_accepted l c).state.started ≡ true
unfolding log_accepted log_started state_with log_passed log_asked log_ended log_flight log_replied
command_started l (C.Start board rule claim edges) on = refl
command_started l (C.Pass ticks) on = on
command_started l (C.Request peer) on = on
command_started l (C.Reply peer tag reply) on = counted_started (reply_verdict l.state peer reply).finding l _ on
command_started l (C.Drop peer) on = on
command_started l C.Read on = on
command_started l C.Waiting on = on
command_started l (C.Window slot start end) on = on
command_started l (C.Flight peer out back) on = on

line_started : (l : Log) (i : Input) → l.state.started ≡ true → (logged l i).state.started ≡ true
unfolding logged
line_started l i on = go (accepting l.state i)
  where
    go : (a : Accepting) → (log_by l a).state.started ≡ true
    go (accepts c) = command_started l c on
    go refuses = on

lines_started : (l : Log) (is : List Input) → l.state.started ≡ true → (log_after l is).state.started ≡ true
unfolding log_after
lines_started l [] on = on
lines_started l (i ∷ is) on = lines_started (logged l i) is (line_started l i on)

-- ---- so there is one start

not_again : (l : Log) (i : Input) {m : ℤ} → l.state.started ≡ true → Begins (event_of l.state i) m → ⊥
not_again l i on b = clash on (line_starts l i b).0

pub one_start : OneStart
unfolding log_after
one_start l [] between i j x y b c = not_again (log_after (logged l i) between) j (lines_started (logged l i) between (line_starts l i b).1) c
one_start l (e ∷ earlier) between i j x y b c = one_start (logged l e) earlier between i j x y b c

-- no course begins along the lines after the start
none_later : {l : Log} {is : List Input} {ms : List ℤ} → l.state.started ≡ true → Course l is ms → ⊥
none_later on (before_start {l} {i} rest) = none_later (line_started l i on) rest
none_later on (at_start {l} {i} begins rest) = not_again l i on begins

onward_length : {l : Log} {x : ℤ} {is : List Input} {ms : List ℤ} → Onward l x is ms → length ms ≡ length is
onward_length at_end = refl
onward_length (next step rest) = ap suc (onward_length rest)

from_start : {l : Log} {i : Input} {is : List Input} {x : ℤ} {ms : List ℤ} → Begins (event_of l.state i) x → Course l (i ∷ is) ms
    → length ms ≡ length (i ∷ is)
from_start b (before_start {l} {i} rest) = absurd (none_later (line_starts l i b).1 rest)
from_start b (at_start begins rest) = ap suc (onward_length rest)

pub one_for_each_line : OneForEachLine
unfolding log_after
one_for_each_line l [] later i x ms b c = from_start b c
one_for_each_line l (e ∷ earlier) later i x ms b (before_start rest) = one_for_each_line (logged l e) earlier later i x ms b rest
one_for_each_line l (e ∷ earlier) later i x ms b (at_start begins rest) =
    absurd (not_again (log_after (logged l e) earlier) i (lines_started (logged l e) earlier (line_starts l e begins).1) b)
