-- What each command does to a keeper, and what it answers: document 01, 'The calls', and document 02, orders 3, 5 and 7.
use Rattle.std.specs.Prelude.{true, List, ℕ, ◌+◌, ◌-◌, ◌^◌, eqb, set}
use Rattle.bits.specs.Choice.{choose}
use Rattle.bits.specs.Bits.{bit_of}
use Rattle.bits.specs.Below.{count_below}
use Rattle.moment.specs.declared.Interval.{Interval}
use Rattle.rules.specs.Rules.{widened, told, centre, error_of}
use Rattle.rules.specs.Verdict.{conflicts_after}
use Rattle.rules.specs.Windows.{window_state}
use Rattle.rules.specs.declared.Rule.{Rule}
use Rattle.rules.specs.declared.Verdict.{Verdict}
use Rattle.command.specs.Windows.{span_of}
use Rattle.command.specs.declared.Command.{Command}
use Rattle.command.specs.declared.Command.TheVariants as C
use Rattle.keeper.specs.State.{state_of, fresh}
use Rattle.keeper.specs.Refusals.{refusal, reply_verdict}
use Rattle.keeper.specs.declared.Keeper.{Keeper}
use Rattle.keeper.specs.declared.Outcome.{Outcome}
use Rattle.keeper.specs.declared.Answer.{Answer}
use Rattle.keeper.specs.declared.Answer.TheVariants as A

abbrev pub outcome_of : Answer → Keeper → Outcome
outcome_of a k = record { answer = a; keeper = k }

-- 'Start sets board, rule, claim and edges (lower at most upper); all else becomes as in a fresh keeper.'
unfoldable pub begun : ℕ → Rule → ℕ → Interval → Keeper
unfolding fresh
begun board rule claim edges =
    record {
      started = true;
      board = board;
      rule = rule;
      claim = claim;
      edges = edges;
      ticks = fresh.ticks;
      requests = fresh.requests;
      conflicts = fresh.conflicts;
      waiting = fresh.waiting;
      tags = fresh.tags;
      sent_at = fresh.sent_at;
      out = fresh.out;
      back = fresh.back;
    }

-- The keeper with what passes, requests, replies and drops change: edges, ticks, requests, conflicts, the mask of the waiting peers, their tags, and
-- their tick counts. All else is as it was, the flight times too.
unfoldable pub changed : Keeper → Interval → ℕ → ℕ → ℕ → ℕ → List ℕ → List ℕ → Keeper
changed k edges ticks requests conflicts waiting tags sent =
    record {
      started = k.started;
      board = k.board;
      rule = k.rule;
      claim = k.claim;
      edges = edges;
      ticks = ticks;
      requests = requests;
      conflicts = conflicts;
      waiting = waiting;
      tags = tags;
      sent_at = sent;
      out = k.out;
      back = k.back;
    }

-- Pass: other edges and another tick count.
unfoldable pub passed_to : Keeper → Interval → ℕ → Keeper
unfolding changed
passed_to k edges ticks = changed k edges ticks k.requests k.conflicts k.waiting k.tags k.sent_at

-- 'Request gives the next tag, the number of requests sent so far counting this one.'
unfoldable pub asked : Keeper → ℕ → Keeper
unfolding changed
asked k peer =
    changed k k.edges k.ticks (k.requests + 1) k.conflicts (k.waiting + 2 ^ peer)
    (set k.tags peer (k.requests + 1))
    (set k.sent_at peer k.ticks)

-- 'Taken, kept and conflict all end the request': the peer has nothing waiting and holds 0 for both.
unfoldable pub ended : Keeper → ℕ → Interval → ℕ → Keeper
unfolding changed
ended k peer edges conflicts =
    changed k edges k.ticks k.requests conflicts (k.waiting - 2 ^ peer) (set k.tags peer 0) (set k.sent_at peer 0)

-- 'sets them': the keeper with another out time and another back time of the peer, and all else as it was.
unfoldable pub with_flight : Keeper → ℕ → ℕ → ℕ → Keeper
with_flight k peer out back =
    record {
      started = k.started;
      board = k.board;
      rule = k.rule;
      claim = k.claim;
      edges = k.edges;
      ticks = k.ticks;
      requests = k.requests;
      conflicts = k.conflicts;
      waiting = k.waiting;
      tags = k.tags;
      sent_at = k.sent_at;
      out = set k.out peer out;
      back = set k.back peer back;
    }

-- A reply, by its verdict: the edges become the verdict's, a conflict counts, and the request is over.
unfoldable pub replied : Keeper → ℕ → Verdict → Outcome
replied k peer v = outcome_of (A.Replied peer v) (ended k peer v.edges (conflicts_after k.conflicts v.finding))

-- What an accepted command does.
unfoldable pub accepted : Keeper → Command → Outcome
accepted k (C.Start board rule claim edges) = outcome_of (A.Started board) (begun board rule claim edges)
accepted k (C.Pass ticks) =
    let edges = widened k.claim ticks k.edges in
    outcome_of (A.At (k.ticks + ticks) edges) (passed_to k edges (k.ticks + ticks))
accepted k (C.Request peer) = outcome_of (A.Sent peer (k.requests + 1)) (asked k peer)
accepted k (C.Reply peer tag reply) = replied k peer (reply_verdict (state_of k) peer reply)
accepted k (C.Drop peer) = outcome_of (A.Dropped peer) (ended k peer k.edges k.conflicts)
-- 'the read line tells UPPER plus one longest tick, with CENTRE and ERROR worked from the told edges' (order 5)
accepted k C.Read =
    let edges = told k.claim k.edges in
    outcome_of (A.Time edges (centre edges) (error_of edges) k.conflicts (count_below 16 (bit_of k.waiting))) k
accepted k C.Waiting = outcome_of A.Waiting k
-- '`(open SLOT)` if every moment from the keeper's lower through its upper edge is inside, `(shut SLOT)` if none is, and otherwise `(unsure SLOT)`',
-- and 'Windows use told edges' (order 5)
accepted k (C.Window slot start end) = outcome_of (A.Heater slot (window_state (span_of start end) (told k.claim k.edges))) k
-- '`(flight PEER (OUT BACK))` sets them and writes `(flight PEER)`' (order 7)
accepted k (C.Flight peer out back) = outcome_of (A.Flight peer) (with_flight k peer out back)

-- What a command does: 'The keeper stays as it was in every row' of the refusals.
unfoldable pub apply : Keeper → Command → Outcome
apply k c =
    let n = refusal (state_of k) c in
    choose (eqb n 0) (λ _. accepted k c) (λ _. outcome_of (A.Refused n) k)

-- The paper's number of each answer.
abbrev pub number_of : Answer → ℕ
number_of (A.Started board) = 0
number_of (A.At ticks edges) = 0
number_of (A.Sent peer tag) = 0
number_of (A.Replied peer verdict) = 0
number_of (A.Dropped peer) = 0
number_of (A.Time edges c e conflicts waiting) = 0
number_of A.Waiting = 0
number_of (A.Heater slot window) = 0
number_of (A.Flight peer) = 0
number_of (A.Refused n) = n
