-- An accepted command keeps the invariant.
use mathlib.Core.Path.{◌≡◌, refl}
use mathlib.Core.Bool.{true, ◌&&◌}
use Prim.Native.Nat.{ℕ, ◌+◌, ◌<◌}
use native.Mathlib.Omega.{arith}
use borrow.Author.Tests.{leb-true, leb-false, eqb-false, not-false}
use lib.Dec.{leb}
use lib.IntN.{ℤ}
use Rattle.bits.proofs.Tests.{both}
use Rattle.moment.specs.declared.Interval.{Interval}
use Rattle.moment.specs.Intervals.{both_in_range, edges_within}
use Rattle.rules.specs.Rules.{widened, bracket, outward}
use Rattle.rules.specs.declared.Rule.{Rule}
use Rattle.rules.proofs.Sets.{adopted_holds}
use Rattle.rules.proofs.VerdictLaws.{outward_from, judged_sound, judged_within}
use Rattle.command.specs.Limits.{board_within, tag_within}
use Rattle.command.specs.Causes.{own_causes}
use Rattle.command.specs.declared.Command.{Command}
use Rattle.command.specs.declared.Command.TheVariants as C
use Rattle.keeper.specs.State.{state_of, counts_as_started, most_ticks}
use Rattle.keeper.specs.Refusals.{waited, reply_bracket, reply_verdict, keeper_causes, causes, refusal}
use Rattle.keeper.specs.Apply.{accepted}
use Rattle.keeper.specs.declared.Keeper.{Keeper}
use Rattle.keeper.proofs.Causes.{accepted_none}
use Rattle.keeper.proofs.Accepted.{flight_limits}
use Rattle.keeper.proofs.StartedLaws.{started_read}
use Rattle.history.specs.Log.{log_accepted}
use Rattle.history.proofs.Invariant.{log_of, KeeperInvariant, Invariant, After}
use Rattle.history.proofs.Steps.{start_invariant, pass_invariant, request_invariant, flight_invariant, ended_invariant, still_follows}
use Rattle.history.proofs.Replies.{reply_invariant}

small : (peer : ℕ) → board_within peer ≡ true → peer < 16
unfolding board_within
small peer e = let h = leb-true peer 15 e in omega arith

-- ---- each command

module _ (k : Keeper) (taken kept dropped : ℕ) (stands : ℤ → Type 0) (held : KeeperInvariant k taken kept dropped stands) where
  start_accepted : (board : ℕ) (rule : Rule) (claim : ℕ) (edges : Interval) → let c = C.Start board rule claim edges in
      refusal (state_of k) c ≡ 0 → After k taken kept dropped stands c
  unfolding refusal causes own_causes keeper_causes state_of log_accepted accepted
  start_accepted board rule claim edges e =
      let c = accepted_none (state_of k) (C.Start board rule claim edges) e in
      start_invariant k taken kept dropped stands held c.1.0 board rule claim edges (not-false _ c.0)

  pass_accepted : (ticks : ℕ) → refusal (state_of k) (C.Pass ticks) ≡ 0 → After k taken kept dropped stands (C.Pass ticks)
  unfolding refusal causes own_causes keeper_causes state_of log_accepted accepted
  pass_accepted ticks e =
      let c = accepted_none (state_of k) (C.Pass ticks) e in
      let range = both (both_in_range (widened k.claim ticks k.edges)) (leb (k.ticks + ticks) most_ticks) (not-false _ c.1.1.0) in
      pass_invariant k taken kept dropped stands held (not-false _ c.1.0) ticks range.0 (leb-true _ _ range.1)

  request_accepted : (peer : ℕ) → refusal (state_of k) (C.Request peer) ≡ 0 → After k taken kept dropped stands (C.Request peer)
  unfolding refusal causes own_causes keeper_causes state_of log_accepted accepted
  request_accepted peer e =
      let c = accepted_none (state_of k) (C.Request peer) e in
      request_invariant k taken kept dropped stands held (not-false _ c.1.0) peer (small peer (not-false _ c.0))
      (eqb-false peer k.board c.1.1.0)
      c.1.1.1.0
      (leb-false _ _ c.1.1.1.1.0)

  reply_accepted : (peer tag : ℕ) (reply : Interval) → let c = C.Reply peer tag reply in
      refusal (state_of k) c ≡ 0 → After k taken kept dropped stands c
  unfolding refusal causes own_causes keeper_causes reply_verdict reply_bracket state_of log_accepted accepted
  reply_accepted peer tag reply e =
      let c = accepted_none (state_of k) (C.Reply peer tag reply) e in
      let before : counts_as_started k ≡ true = not-false _ c.1.0 in
      let limits = both (board_within peer && tag_within tag) (edges_within reply) (not-false _ c.0) in
      let w = waited (state_of k) peer in
      let out = (state_of k).out peer in
      let back = (state_of k).back peer in
      let b = bracket k.claim w out back reply in
      reply_invariant k taken kept dropped stands held peer b _
      (record {
        before = before;
        small = small peer (both (board_within peer) (tag_within tag) limits.0).0;
        waits = (both _ _ (not-false _ c.1.1.1.0)).0;
        within =
            judged_within b (outward k.claim w) reply k.edges (outward_from k.claim w) limits.1 (started_read k before).edges k.rule
            c.1.1.1.1.1.0;
        sound = judged_sound b (outward k.claim w) reply k.edges (adopted_holds k.claim w out back reply) k.rule;
      })

  drop_accepted : (peer : ℕ) → refusal (state_of k) (C.Drop peer) ≡ 0 → After k taken kept dropped stands (C.Drop peer)
  unfolding refusal causes own_causes keeper_causes state_of log_accepted accepted
  drop_accepted peer e =
      let c = accepted_none (state_of k) (C.Drop peer) e in
      let before = not-false _ c.1.0 in
      ended_invariant k taken kept dropped stands held before peer (small peer (not-false _ c.0)) (not-false _ c.1.1.1.0) k.edges k.conflicts taken kept (dropped + 1)
      (started_read k before).edges
      (omega arith)
      (omega arith)
      stands
      (still_follows k peer stands before held.follows)

  flight_accepted : (peer out back : ℕ) → refusal (state_of k) (C.Flight peer out back) ≡ 0 → After k taken kept dropped stands (C.Flight peer out back)
  unfolding refusal causes own_causes keeper_causes state_of log_accepted accepted
  flight_accepted peer out back e =
      let c = accepted_none (state_of k) (C.Flight peer out back) e in
      let (p, o, b) = flight_limits peer out back (not-false _ c.0) in
      flight_invariant k taken kept dropped stands held (not-false _ c.1.0) peer out back (small peer p) o b

  -- a command that only asks, or a line that is refused
  pub unchanged : Invariant (log_of k taken kept dropped) k stands
  unchanged = record { taken = taken; kept = kept; dropped = dropped; same = refl; holds = held }

  pub command_invariant : (c : Command) → refusal (state_of k) c ≡ 0 → After k taken kept dropped stands c
  unfolding log_accepted accepted
  command_invariant (C.Start board rule claim edges) e = start_accepted board rule claim edges e
  command_invariant (C.Pass ticks) e = pass_accepted ticks e
  command_invariant (C.Request peer) e = request_accepted peer e
  command_invariant (C.Reply peer tag reply) e = reply_accepted peer tag reply e
  command_invariant (C.Drop peer) e = drop_accepted peer e
  command_invariant C.Read e = unchanged
  command_invariant C.Waiting e = unchanged
  command_invariant (C.Window slot start end) e = unchanged
  command_invariant (C.Flight peer out back) e = flight_accepted peer out back e
