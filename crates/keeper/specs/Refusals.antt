-- Causes of a refusal, in document 01's order. 'The first cause that holds is given, tried in the order .. 2, 3, 4; then for request 6, 9; for
-- reply 7, 8, the conflict test, 5; for drop 7; for pass 5', and for flight 6, 'after 4' (document 02, order 7). (10 and 1 come before, where the
-- line is looked at; 2 is a command's own, and so are 11 and 12 of a window, 'both after 2 and before 3'.)
use Rattle.std.specs.Prelude.{not, ◌&&◌, List, [], ◌∷◌, ◌++◌, ℕ, ◌+◌, ◌-◌, leb, ltb, eqb}
use Rattle.moment.specs.declared.Interval.{Interval}
use Rattle.moment.specs.Intervals.{both_in_range}
use Rattle.rules.specs.Rules.{widened, longest_wait, bracket, outward}
use Rattle.rules.specs.Verdict.{judged, leaves}
use Rattle.rules.specs.declared.Verdict.{Verdict}
use Rattle.command.specs.Causes.{Cause, cause, first, own_causes}
use Rattle.command.specs.declared.Command.{Command}
use Rattle.command.specs.declared.Command.TheVariants as C
use Rattle.keeper.specs.State.{State, most_ticks, most_requests}

-- 'Let w be the ticks since the request was sent.'
abbrev pub waited : State → ℕ → ℕ
waited s peer = s.ticks - s.sent_at peer

-- The bracket of a reply, by the flight times of its peer, and what the reply comes to.
unfoldable pub reply_bracket : State → ℕ → Interval → Interval
reply_bracket s peer reply = bracket s.claim (waited s peer) (s.out peer) (s.back peer) reply

unfoldable pub reply_verdict : State → ℕ → Interval → Verdict
reply_verdict s peer reply =
    judged s.rule (reply_bracket s peer reply) (outward s.claim (waited s peer)) reply s.edges

-- 3 and 4, of every command that names a peer
abbrev pub peer_causes : State → ℕ → List Cause
peer_causes s peer = cause 3 (not s.started) ∷ cause 4 (eqb peer s.board) ∷ []

-- of a reply, those before its verdict
abbrev pub wait_causes : State → ℕ → ℕ → List Cause
wait_causes s peer tag =
    peer_causes s peer ++ cause 7 (not (s.waits peer && eqb tag (s.tag peer))) ∷ cause 8 (ltb longest_wait (waited s peer)) ∷ []

-- The causes that look at the keeper.
unfoldable pub keeper_causes : State → Command → List Cause
keeper_causes s (C.Start board rule claim edges) = cause 3 s.started ∷ []
keeper_causes s (C.Pass ticks) =
    cause 3 (not s.started)
    ∷ cause 5 (not (both_in_range (widened s.claim ticks s.edges) && leb (s.ticks + ticks) most_ticks))
    ∷ []
keeper_causes s (C.Request peer) = peer_causes s peer ++ cause 6 (s.waits peer) ∷ cause 9 (leb most_requests s.requests) ∷ []
keeper_causes s (C.Reply peer tag edges) = wait_causes s peer tag ++ cause 5 (leaves (reply_verdict s peer edges)) ∷ []
keeper_causes s (C.Drop peer) = peer_causes s peer ++ cause 7 (not (s.waits peer)) ∷ []
keeper_causes s C.Read = cause 3 (not s.started) ∷ []
keeper_causes s C.Waiting = cause 3 (not s.started) ∷ []
keeper_causes s (C.Window slot start end) = cause 3 (not s.started) ∷ []
-- 'It is refused with 6 while that peer has a request waiting, after 4.'
keeper_causes s (C.Flight peer out back) = peer_causes s peer ++ cause 6 (s.waits peer) ∷ []

-- All causes of a command, after 10 and 1.
unfoldable pub causes : State → Command → List Cause
causes s c = own_causes c ++ keeper_causes s c

-- The number of a command's refusal, 0 if it is accepted.
unfoldable pub refusal : State → Command → ℕ
refusal s c = first (causes s c)
