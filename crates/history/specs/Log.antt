-- The log: document 01, 'The log', and document 02, order 7. It 'is worked from that list alone and reads nothing from the keeper'.
use Rattle.std.specs.Prelude.{Bool, true, false, List, [], ◌∷◌, ℕ, ◌+◌, ltb, eqb, pos, Ok, Err}
use Rattle.bits.specs.Choice.{choose}
use Rattle.bits.specs.Below.{updated}
use Rattle.moment.specs.declared.Interval.{Interval}
use Rattle.moment.specs.Intervals.{interval}
use Rattle.rules.specs.Rules.{widened}
use Rattle.rules.specs.declared.Rule.{Rule}
use Rattle.rules.specs.declared.Rule.TheVariants.{Im}
use Rattle.rules.specs.declared.Finding.{Finding}
use Rattle.rules.specs.declared.Finding.TheVariants.{Conflict, Taken, Kept}
use Rattle.rules.specs.declared.Verdict.{Verdict}
use Rattle.command.specs.declared.Command.{Command}
use Rattle.command.specs.declared.Command.TheVariants as C
use Rattle.command.specs.Limits.{Reading}
use Rattle.reader.specs.Reading.{reading_of}
use Rattle.keeper.specs.State.{State}
use Rattle.keeper.specs.Refusals.{refusal, reply_verdict}
use Rattle.writing.specs.Puts.{least_output}

-- 'A line in the list may have any bytes and comes with the length of its lent output.'
pub record Input : Type 0 where
  pub line : List ℕ
  pub room : ℕ

-- What a keeper holds, and the counts of taken, kept and dropped.
pub record Log : Type 0 where
  pub state : State
  pub taken : ℕ
  pub kept : ℕ
  pub dropped : ℕ

-- 'It begins with what a fresh keeper holds, and with 0 for its counts of taken, kept and dropped.'
unfoldable pub log_start : Log
log_start =
    record {
      state =
          record {
            started = false;
            board = 0;
            rule = Im;
            claim = 0;
            edges = interval (pos 0) (pos 0);
            ticks = 0;
            requests = 0;
            conflicts = 0;
            waits = λ p. false;
            tag = λ p. 0;
            sent_at = λ p. 0;
            out = λ p. 0;
            back = λ p. 0;
          };
      taken = 0;
      kept = 0;
      dropped = 0;
    }

-- 'start: board, rule, claim and edges are set, and the log has started'
unfoldable pub log_started : State → ℕ → Rule → ℕ → Interval → State
log_started s board rule claim edges =
    record {
      started = true;
      board = board;
      rule = rule;
      claim = claim;
      edges = edges;
      ticks = s.ticks;
      requests = s.requests;
      conflicts = s.conflicts;
      waits = s.waits;
      tag = s.tag;
      sent_at = s.sent_at;
      out = s.out;
      back = s.back;
    }

-- The state with what passes, requests, replies and drops change: edges, ticks, requests, conflicts, which peers wait, their tags, and their
-- tick counts.
unfoldable pub state_with : State → Interval → ℕ → ℕ → ℕ → (ℕ → Bool) → (ℕ → ℕ) → (ℕ → ℕ) → State
state_with s edges ticks requests conflicts waits tag sent_at =
    record {
      started = s.started;
      board = s.board;
      rule = s.rule;
      claim = s.claim;
      edges = edges;
      ticks = ticks;
      requests = requests;
      conflicts = conflicts;
      waits = waits;
      tag = tag;
      sent_at = sent_at;
      out = s.out;
      back = s.back;
    }

-- 'pass of n: the lower edge gains n shortest ticks, the upper n longest, the ticks n'
unfoldable pub log_passed : State → ℕ → State
log_passed s n =
    state_with s (widened s.claim n s.edges) (s.ticks + n) s.requests s.conflicts s.waits s.tag s.sent_at

-- 'request: requests sent gains 1; the peer waits, with that number as its tag and the log's ticks as its tick count'
unfoldable pub log_asked : State → ℕ → State
log_asked s peer =
    state_with s s.edges s.ticks (s.requests + 1) s.conflicts (updated s.waits peer true)
    (updated s.tag peer (s.requests + 1))
    (updated s.sent_at peer s.ticks)

-- 'The peer then has nothing waiting and holds 0 for both', with the edges and the conflict count that a reply or a drop leaves
unfoldable pub log_ended : State → ℕ → Interval → ℕ → State
log_ended s peer edges conflicts =
    state_with s edges s.ticks s.requests conflicts (updated s.waits peer false) (updated s.tag peer 0)
    (updated s.sent_at peer 0)

-- flight: 'sets them', and nothing else moves
unfoldable pub log_flight : State → ℕ → ℕ → ℕ → State
log_flight s peer out back =
    record {
      started = s.started;
      board = s.board;
      rule = s.rule;
      claim = s.claim;
      edges = s.edges;
      ticks = s.ticks;
      requests = s.requests;
      conflicts = s.conflicts;
      waits = s.waits;
      tag = s.tag;
      sent_at = s.sent_at;
      out = updated s.out peer out;
      back = updated s.back peer back;
    }

-- the log with another state, and the same counts
abbrev pub with_state : Log → State → Log
with_state l s = record { state = s; taken = l.taken; kept = l.kept; dropped = l.dropped }

-- 'reply: .. taken or kept gains 1 by its word': a conflict is in neither count
abbrev pub log_counted : Finding → Log → State → Log
log_counted Taken l s = record { state = s; taken = l.taken + 1; kept = l.kept; dropped = l.dropped }
log_counted Kept l s = record { state = s; taken = l.taken; kept = l.kept + 1; dropped = l.dropped }
log_counted Conflict l s = with_state l s

-- 'the conflict count gains 1' at a conflict, and at no other reply
abbrev pub log_conflicts : ℕ → Finding → ℕ
log_conflicts conflicts Conflict = conflicts + 1
log_conflicts conflicts Taken = conflicts
log_conflicts conflicts Kept = conflicts

-- 'the edges become what Reply gives for the log's rule'
unfoldable pub log_replied : Log → ℕ → Verdict → Log
log_replied l peer v =
    log_counted v.finding l (log_ended l.state peer v.edges (log_conflicts l.state.conflicts v.finding))

-- An accepted command.
unfoldable pub log_accepted : Log → Command → Log
log_accepted l (C.Start board rule claim edges) = with_state l (log_started l.state board rule claim edges)
log_accepted l (C.Pass ticks) = with_state l (log_passed l.state ticks)
log_accepted l (C.Request peer) = with_state l (log_asked l.state peer)
log_accepted l (C.Reply peer tag reply) = log_replied l peer (reply_verdict l.state peer reply)
log_accepted l (C.Drop peer) =
    record {
      state = log_ended l.state peer l.state.edges l.state.conflicts;
      taken = l.taken;
      kept = l.kept;
      dropped = l.dropped + 1;
    }
log_accepted l C.Read = l
log_accepted l C.Waiting = l
-- of a window too nothing moves: document 02, order 3
log_accepted l (C.Window slot start end) = l
-- 'A command added later is logged by its own rules': order 7
log_accepted l (C.Flight peer out back) = with_state l (log_flight l.state peer out back)

-- A line is accepted where no cause of a refusal holds: the output is large enough, the line is a command, and the causes that ask about the
-- keeper do not hold 'on the log's own values'.
pub data Accepting : Type 0 where
  accepts : Command → Accepting
  refuses : Accepting

abbrev pub accepted_command : State → Reading → Accepting
accepted_command s (Ok c) = choose (eqb (refusal s c) 0) (λ _. accepts c) (λ _. refuses)
accepted_command s (Err r) = refuses

unfoldable pub accepting : State → Input → Accepting
accepting s i = choose (ltb i.room least_output) (λ _. refuses) (λ _. accepted_command s (reading_of i.line))

-- 'If one holds, nothing in the log moves.'
abbrev pub log_by : Log → Accepting → Log
log_by l (accepts c) = log_accepted l c
log_by l refuses = l

unfoldable pub logged : Log → Input → Log
logged l i = log_by l (accepting l.state i)

-- The log after a list of lines, the oldest first.
unfoldable pub log_after : Log → List Input → Log
log_after l [] = l
log_after l (i ∷ is) = log_after (logged l i) is
