-- What the answer of a command says of the keeper handed back: after every accepted command it counts as started, and all but what the answer
-- names is as it was.
use mathlib.Core.Path.{◌≡◌, refl, sym, ◌∙◌}
use mathlib.Core.Bool.{Bool, true, false, ◌&&◌}
use Prim.Native.Nat.{ℕ, ◌+◌, ◌≤◌}
use native.Mathlib.Omega.{arith}
use borrow.Author.Tests.{leb-true, leb-false, eqb-true, eqb-false, not-false}
use lib.Dec.{leb, eqb}
use Rattle.bits.specs.Choice.{choose}
use Rattle.bits.proofs.Tests.{both, by_test}
use Rattle.moment.specs.declared.Interval.{Interval}
use Rattle.moment.specs.Intervals.{both_in_range, edges_within}
use Rattle.rules.specs.Rules.{widened, outward}
use Rattle.rules.specs.Verdict.{conflicts_after}
use Rattle.rules.specs.declared.Rule.{Rule}
use Rattle.rules.specs.declared.Finding.{Finding}
use Rattle.rules.specs.declared.Finding.TheVariants.{Conflict, Taken, Kept}
use Rattle.rules.proofs.Limits.{widened_within}
use Rattle.rules.proofs.VerdictLaws.{outward_from, judged_within}
use Rattle.flights.specs.Flights.{flight_within}
use Rattle.command.specs.Limits.{board_within, tag_within, keeps, form_of}
use Rattle.command.specs.Causes.{own_causes}
use Rattle.command.specs.declared.Command.{Command}
use Rattle.command.specs.declared.Command.TheVariants as C
use Rattle.command.proofs.LimitLaws.{board_bound}
use Rattle.keeper.specs.State.{state_of, counts_as_started, most_ticks}
use Rattle.keeper.specs.Refusals.{waited, reply_bracket, reply_verdict, keeper_causes, causes, refusal}
use Rattle.keeper.specs.Apply.{outcome_of, begun, changed, passed_to, asked, ended, with_flight, replied, accepted, apply, number_of}
use Rattle.keeper.specs.declared.Keeper.{Keeper}
use Rattle.keeper.specs.declared.Outcome.{Outcome}
use Rattle.keeper.specs.declared.Answer.{Answer}
use Rattle.keeper.specs.declared.Answer.TheVariants as A
use Rattle.keeper.proofs.Causes.{accepted_none}
use Rattle.keeper.proofs.CallLaws.{apply_refused, apply_accepted}
use Rattle.keeper.proofs.Returned.{apply_number}
use Rattle.keeper.proofs.StartedLaws.{Sized, started_read, begun_sized, passed_sized, asked_sized, ended_sized, flight_sized, begun_kept, passed_kept, asked_kept, ended_kept, flight_kept}

-- the count after a reply gains at most 1
count_most : (n : ℕ) (finding : Finding) → conflicts_after n finding ≤ n + 1
count_most n Conflict = omega arith
count_most n Taken = omega arith
count_most n Kept = omega arith

-- ---- a keeper counts as started after every command that it accepted

-- the limits of a flight, each by itself
pub flight_limits : (peer out back : ℕ) → keeps (form_of (C.Flight peer out back)) ≡ true
    → (board_within peer ≡ true) × (flight_within out ≡ true) × (flight_within back ≡ true)
flight_limits peer out back e =
    let (front, b) = both (board_within peer && flight_within out) (flight_within back) e in
    let (p, o) = both (board_within peer) (flight_within out) front in
    (p, o, b)

module _ (k : Keeper) (sized : Sized k) where
  start_starts : (board : ℕ) (rule : Rule) (claim : ℕ) (edges : Interval) → let c = C.Start board rule claim edges in
      refusal (state_of k) c ≡ 0 → counts_as_started (accepted k c).keeper ≡ true
  unfolding accepted causes own_causes keeper_causes state_of
  start_starts board rule claim edges e =
      begun_kept board rule claim edges (not-false _ (accepted_none (state_of k) (C.Start board rule claim edges) e).0)

  pass_starts : (ticks : ℕ) → refusal (state_of k) (C.Pass ticks) ≡ 0 → counts_as_started (accepted k (C.Pass ticks)).keeper ≡ true
  unfolding accepted causes own_causes keeper_causes state_of
  pass_starts ticks e =
      let c = accepted_none (state_of k) (C.Pass ticks) e in
      let before : counts_as_started k ≡ true = not-false _ c.1.0 in
      let s = started_read k before in
      let (range, most) = both (both_in_range (widened k.claim ticks k.edges)) (leb (k.ticks + ticks) most_ticks) (not-false _ c.1.1.0) in
      passed_kept k _ _ before (widened_within k.claim ticks k.edges s.claim s.edges range) (omega arith) (leb-true _ _ most)

  request_starts : (peer : ℕ) → refusal (state_of k) (C.Request peer) ≡ 0 → counts_as_started (accepted k (C.Request peer)).keeper ≡ true
  unfolding accepted causes own_causes keeper_causes state_of
  request_starts peer e =
      let c = accepted_none (state_of k) (C.Request peer) e in
      let small = board_bound peer (not-false _ c.0) in
      asked_kept k peer sized (not-false _ c.1.0) (omega arith) (eqb-false peer k.board c.1.1.0) c.1.1.1.0 (leb-false _ _ c.1.1.1.1.0)

  reply_starts : (peer tag : ℕ) (reply : Interval) → let c = C.Reply peer tag reply in
      refusal (state_of k) c ≡ 0 → counts_as_started (accepted k c).keeper ≡ true
  unfolding accepted replied causes own_causes keeper_causes reply_verdict reply_bracket state_of
  reply_starts peer tag reply e =
      let c = accepted_none (state_of k) (C.Reply peer tag reply) e in
      let before : counts_as_started k ≡ true = not-false _ c.1.0 in
      let limits = both (board_within peer && tag_within tag) (edges_within reply) (not-false _ c.0) in
      let small = board_bound peer (both (board_within peer) (tag_within tag) limits.0).0 in
      let w = waited (state_of k) peer in
      ended_kept k peer _ _ sized before (omega arith) (both _ _ (not-false _ c.1.1.1.0)).0
      (judged_within _ (outward k.claim w) reply k.edges (outward_from k.claim w) limits.1 (started_read k before).edges k.rule
      c.1.1.1.1.1.0)
      (count_most k.conflicts (reply_verdict (state_of k) peer reply).finding)

  drop_starts : (peer : ℕ) → refusal (state_of k) (C.Drop peer) ≡ 0 → counts_as_started (accepted k (C.Drop peer)).keeper ≡ true
  unfolding accepted causes own_causes keeper_causes state_of
  drop_starts peer e =
      let c = accepted_none (state_of k) (C.Drop peer) e in
      let before : counts_as_started k ≡ true = not-false _ c.1.0 in
      let small = board_bound peer (not-false _ c.0) in
      ended_kept k peer k.edges k.conflicts sized before (omega arith) (not-false _ c.1.1.1.0) (started_read k before).edges (omega arith)

  flight_starts : (peer out back : ℕ) → refusal (state_of k) (C.Flight peer out back) ≡ 0 → counts_as_started (accepted k (C.Flight peer out back)).keeper ≡ true
  unfolding accepted causes own_causes keeper_causes state_of
  flight_starts peer out back e =
      let c = accepted_none (state_of k) (C.Flight peer out back) e in
      let (p, o, b) = flight_limits peer out back (not-false _ c.0) in
      let small = board_bound peer p in
      flight_kept k peer out back sized (not-false _ c.1.0) (omega arith) o b

  command_starts : (c : Command) → refusal (state_of k) c ≡ 0 → counts_as_started (accepted k c).keeper ≡ true
  unfolding accepted causes own_causes keeper_causes state_of
  command_starts (C.Start board rule claim edges) e = start_starts board rule claim edges e
  command_starts (C.Pass ticks) e = pass_starts ticks e
  command_starts (C.Request peer) e = request_starts peer e
  command_starts (C.Reply peer tag reply) e = reply_starts peer tag reply e
  command_starts (C.Drop peer) e = drop_starts peer e
  command_starts C.Read e = not-false _ (accepted_none (state_of k) C.Read e).1.0
  command_starts C.Waiting e = not-false _ (accepted_none (state_of k) C.Waiting e).1.0
  command_starts (C.Window slot start end) e = not-false _ (accepted_none (state_of k) (C.Window slot start end) e).1.1.1.0
  command_starts (C.Flight peer out back) e = flight_starts peer out back e

  pub accepted_starts : (c : Command) → number_of (apply k c).answer ≡ 0 → counts_as_started (apply k c).keeper ≡ true
  accepted_starts c e =
      let none = sym (apply_number k c) ∙ e in
      rw (apply_accepted k c none) (command_starts c none)

  -- its arrays and its mask keep their sizes
  command_sized : (c : Command) → refusal (state_of k) c ≡ 0 → Sized (accepted k c).keeper
  unfolding accepted replied causes own_causes keeper_causes state_of
  command_sized (C.Start board rule claim edges) e = begun_sized board rule claim edges
  command_sized (C.Pass ticks) e = passed_sized sized _ _
  command_sized (C.Request peer) e =
      let c = accepted_none (state_of k) (C.Request peer) e in
      let small = board_bound peer (not-false _ c.0) in
      asked_sized sized peer (omega arith) c.1.1.1.0
  command_sized (C.Reply peer tag reply) e = ended_sized sized peer _ _
  command_sized (C.Drop peer) e = ended_sized sized peer _ _
  command_sized C.Read e = sized
  command_sized C.Waiting e = sized
  command_sized (C.Window slot start end) e = sized
  command_sized (C.Flight peer out back) e = flight_sized sized peer out back

  pub apply_sized : (c : Command) → Sized (apply k c).keeper
  apply_sized c =
      by_test (eqb (refusal (state_of k) c) 0)
      (λ t.
      let none : refusal (state_of k) c ≡ 0 = eqb-true _ _ t in
      rw (apply_accepted k c none) (command_sized c none))
      (λ t. rw (apply_refused k c (refusal (state_of k) c) t refl) sized)

-- ---- what changed, by the answer

-- Of an accepted command other than a start, the keeper counted as started before.
pub record Moved (k l next : Keeper) : Type 0 where
  pub started : counts_as_started k ≡ true
  pub next_is : l ≡ next

abbrev pub Changed : Answer → Keeper → Keeper → Type 0
Changed (A.Started board) k l = l ≡ begun l.board l.rule l.claim l.edges
Changed (A.At ticks edges) k l = Moved k l (passed_to k edges ticks)
Changed (A.Sent peer tag) k l = (peer ≤ 15) × Moved k l (asked k peer)
Changed (A.Replied peer v) k l = (peer ≤ 15) × Moved k l (ended k peer v.edges (conflicts_after k.conflicts v.finding))
Changed (A.Dropped peer) k l = (peer ≤ 15) × Moved k l (ended k peer k.edges k.conflicts)
Changed (A.Time edges centre error conflicts waiting) k l = Moved k l k
Changed A.Waiting k l = Moved k l k
Changed (A.Heater slot window) k l = Moved k l k
Changed (A.Flight peer) k l = (peer ≤ 15) × (out : ℕ) × (back : ℕ) × Moved k l (with_flight k peer out back)
Changed (A.Refused n) k l = (n ≡ 0 → ⊥) × (l ≡ k)

module _ (k : Keeper) where
  command_changes : (c : Command) → refusal (state_of k) c ≡ 0 → Changed (accepted k c).answer k (accepted k c).keeper
  unfolding accepted replied begun causes own_causes keeper_causes state_of
  command_changes (C.Start board rule claim edges) e = refl
  command_changes (C.Pass ticks) e = record { started = not-false _ (accepted_none (state_of k) (C.Pass ticks) e).1.0; next_is = refl }
  command_changes (C.Request peer) e =
      let c = accepted_none (state_of k) (C.Request peer) e in
      (board_bound peer (not-false _ c.0), record { started = not-false _ c.1.0; next_is = refl })
  command_changes (C.Reply peer tag reply) e =
      let c = accepted_none (state_of k) (C.Reply peer tag reply) e in
      let limits = both (board_within peer && tag_within tag) (edges_within reply) (not-false _ c.0) in
      (board_bound peer (both (board_within peer) (tag_within tag) limits.0).0, record { started = not-false _ c.1.0; next_is = refl })
  command_changes (C.Drop peer) e =
      let c = accepted_none (state_of k) (C.Drop peer) e in
      (board_bound peer (not-false _ c.0), record { started = not-false _ c.1.0; next_is = refl })
  command_changes C.Read e = record { started = not-false _ (accepted_none (state_of k) C.Read e).1.0; next_is = refl }
  command_changes C.Waiting e = record { started = not-false _ (accepted_none (state_of k) C.Waiting e).1.0; next_is = refl }
  command_changes (C.Window slot start end) e =
      record { started = not-false _ (accepted_none (state_of k) (C.Window slot start end) e).1.1.1.0; next_is = refl }
  command_changes (C.Flight peer out back) e =
      let c = accepted_none (state_of k) (C.Flight peer out back) e in
      (board_bound peer (flight_limits peer out back (not-false _ c.0)).0, out, back, record { started = not-false _ c.1.0; next_is = refl })

  abbrev after : Command → Bool → Outcome
  after c t = choose t (λ _. accepted k c) (λ _. outcome_of (A.Refused (refusal (state_of k) c)) k)

  pub changed_by : (c : Command) → Changed (apply k c).answer k (apply k c).keeper
  unfolding apply
  changed_by c = go (eqb (refusal (state_of k) c) 0) refl
    where
      go : (t : Bool) → eqb (refusal (state_of k) c) 0 ≡ t → Changed (after c t).answer k (after c t).keeper
      go true e = command_changes c (eqb-true _ _ e)
      go false e = (eqb-false _ _ e, refl)

  -- an accepted pass moves edges and ticks alone
  pub pass_changes : (n : ℕ) → number_of (apply k (C.Pass n)).answer ≡ 0
      → let l = (apply k (C.Pass n)).keeper in Moved k l (passed_to k l.edges l.ticks)
  unfolding accepted passed_to changed causes own_causes keeper_causes state_of
  pass_changes n e =
      let none = sym (apply_number k (C.Pass n)) ∙ e in
      rw (apply_accepted k (C.Pass n) none) (record { started = not-false _ (accepted_none (state_of k) (C.Pass n) none).1.0; next_is = refl })
