-- An accepted reply keeps the invariant, by the finding of its verdict: as a conflict, taken, and kept.
use mathlib.Core.Path.{◌≡◌, refl}
use mathlib.Core.Bool.{true}
use Prim.Native.Nat.{ℕ, ◌+◌, ◌<◌}
use native.Mathlib.Omega.{arith}
use lib.IntN.{ℤ}
use Rattle.bits.specs.Bits.{bit_of}
use Rattle.moment.specs.Intervals.{edges_within}
use Rattle.moment.specs.declared.Interval.{Interval}
use Rattle.rules.specs.Verdict.{conflicts_after}
use Rattle.rules.specs.declared.Finding.{Finding}
use Rattle.rules.specs.declared.Finding.TheVariants.{Conflict, Taken, Kept}
use Rattle.rules.specs.declared.Verdict.{Verdict}
use Rattle.rules.proofs.VerdictLaws.{Sound}
use Rattle.keeper.specs.State.{counts_as_started, state_of}
use Rattle.keeper.specs.Apply.{changed, ended, replied}
use Rattle.keeper.specs.declared.Keeper.{Keeper}
use Rattle.history.specs.Log.{log_ended, log_conflicts, log_counted, log_replied}
use Rattle.history.specs.Course.{advanced, replied_event}
use Rattle.history.proofs.Invariant.{log_of, Follows, KeeperInvariant, Invariant}
use Rattle.history.proofs.Steps.{ended_invariant}

-- A reply with the bracket and the verdict: its request waits, and the verdict is sound and leaves edges within their limits.
pub record Judged (k : Keeper) (peer : ℕ) (b : Interval) (v : Verdict) : Type 0 where
  pub before : counts_as_started k ≡ true
  pub small : peer < 16
  pub waits : bit_of k.waiting peer ≡ true
  pub within : edges_within v.edges ≡ true
  pub sound : Sound k.rule b k.edges v

module _ (k : Keeper) (taken kept dropped : ℕ) (stands : ℤ → Type 0) (held : KeeperInvariant k taken kept dropped stands) (peer : ℕ) (b : Interval) (v : Verdict) (j : Judged k peer b v) where
  f : Follows k stands
  f = held.follows

  -- with a finding of the verdict's, and its counts
  Replied : Finding → Type 0
  Replied finding =
      Invariant (log_counted finding (log_of k taken kept dropped) (log_ended (state_of k) peer v.edges (log_conflicts k.conflicts finding))) (ended k peer v.edges (conflicts_after k.conflicts finding)) (advanced (replied_event finding b) stands)

  -- no course was in the bracket, so none stands
  conflict_invariant : v.finding ≡ Conflict → Replied Conflict
  unfolding ended changed Replied
  conflict_invariant e =
      let stays = j.sound.conflict_stays e in
      ended_invariant k taken kept dropped stands held j.before peer j.small j.waits v.edges (k.conflicts + 1) taken kept dropped
      j.within
      (omega arith)
      (omega arith)
      (advanced (replied_event Conflict b) stands)
      (record {
        within = λ m s. absurd (j.sound.apart e m s.1 (f.within m s.0));
        no_conflict = λ m s. absurd (j.sound.apart e m s.1 (f.within m s.0));
        reached = λ r s q m h. absurd (omega arith);
      })

  -- the new edges hold what lies in the bracket and in the old ones, and under im nothing else; so it is with the courses
  taken_invariant : v.finding ≡ Taken → Replied Taken
  unfolding ended changed Replied
  taken_invariant e =
      ended_invariant k taken kept dropped stands held j.before peer j.small j.waits v.edges k.conflicts (taken + 1) kept dropped
      j.within
      (omega arith)
      (omega arith)
      (advanced (replied_event Taken b) stands)
      (record {
        within = λ m s. j.sound.within e m s.1 (f.within m s.0);
        no_conflict = λ m s. f.no_conflict m s.0;
        reached = λ r s q m h.
            let both = j.sound.reached e r m h in
            (f.reached r j.before q m both.1, both.0);
      })

  -- the edges stay, and so do the courses
  kept_invariant : v.finding ≡ Kept → Replied Kept
  unfolding ended changed Replied
  kept_invariant e =
      let stays = j.sound.kept_stays e in
      ended_invariant k taken kept dropped stands held j.before peer j.small j.waits v.edges k.conflicts taken (kept + 1) dropped
      j.within
      (omega arith)
      (omega arith)
      stands
      (record {
        within = λ m s. rw stays (f.within m s);
        no_conflict = f.no_conflict;
        reached = λ r. absurd (j.sound.kept_rule e r);
      })

  by_finding : (finding : Finding) → v.finding ≡ finding → Replied finding
  by_finding Conflict e = conflict_invariant e
  by_finding Taken e = taken_invariant e
  by_finding Kept e = kept_invariant e

  pub reply_invariant : Invariant (log_replied (log_of k taken kept dropped) peer v) (replied k peer v).keeper (advanced (replied_event v.finding b) stands)
  unfolding log_replied replied Replied state_of
  reply_invariant = by_finding v.finding refl
