-- Each command changes the log's state as it changes the keeper's values.
use mathlib.Core.Path.{◌≡◌, refl, sym, ◌∙◌}
use mathlib.Core.Bool.{Bool, true, false}
use mathlib.Core.List.{List}
use Prim.Native.Nat.{ℕ, zero, suc, ◌+◌, ◌<◌}
use native.Mathlib.Omega.{arith}
use borrow.Author.Tests.{eqb-true, eqb-false}
use lib.Dec.{eqb}
use lib.ListN.{length, get_or, set, replicate}
use lib.Seq.{get_or-set_same, get_or-set_other}
use Rattle.bits.specs.Choice.{choose}
use Rattle.bits.specs.Bits.{bit_of}
use Rattle.bits.specs.Below.{updated}
use Rattle.bits.proofs.BitLaws.{bit_beyond, bit_set, bit_cleared}
use Rattle.moment.specs.declared.Interval.{Interval}
use Rattle.rules.specs.Rules.{widened}
use Rattle.rules.specs.declared.Rule.{Rule}
use Rattle.keeper.specs.State.{counts_as_started, state_of, fresh}
use Rattle.keeper.specs.Apply.{begun, changed, passed_to, asked, ended, with_flight}
use Rattle.keeper.specs.declared.Keeper.{Keeper}
use Rattle.keeper.proofs.StartedLaws.{Sized, fresh_not_started}
use Rattle.history.specs.Log.{log_start, log_started, state_with, log_passed, log_asked, log_ended, log_flight}

-- a value stored at a place of a list, read at every place
set_updated : (l : List ℕ) (p v : ℕ) → p < length l → (q : ℕ) → updated (λ r. get_or l r 0) p v q ≡ get_or (set l p v) q 0
unfolding updated
set_updated l p v h q = go (eqb q p) refl
  where
    go : (t : Bool) → eqb q p ≡ t → choose t (λ _. v) (λ _. get_or l q 0) ≡ get_or (set l p v) q 0
    go true e = sym (rw (eqb-true q p e) (get_or-set_same l p v 0 h))
    go false e = sym (get_or-set_other l p q v 0 (eqb-false q p e))

-- every place of a list of zeros, and those beyond it, holds 0
zeros : (n q : ℕ) → ◌≡◌ {A = ℕ} 0 (get_or (replicate n 0) q 0)
zeros zero q = refl
zeros (suc n) zero = refl
zeros (suc n) (suc q) = zeros n q

-- what the log begins with
pub fresh_state : log_start.state ≡ state_of fresh
unfolding log_start state_of fresh
fresh_state =
    λ i.
    record {
      started = sym fresh_not_started i;
      board = 0;
      rule = fresh.rule;
      claim = 0;
      edges = fresh.edges;
      ticks = 0;
      requests = 0;
      conflicts = 0;
      waits = λ q. sym (bit_beyond 0 0 q (omega arith) (omega arith)) i;
      tag = λ q. zeros 16 q i;
      sent_at = λ q. zeros 16 q i;
      out = λ q. zeros 16 q i;
      back = λ q. zeros 16 q i;
    }

-- Start: the log leaves its own values where the keeper takes a fresh one's, which are the same.
pub begun_state : (board : ℕ) (rule : Rule) (claim : ℕ) (edges : Interval)
    → counts_as_started (begun board rule claim edges) ≡ true
    → log_started (state_of fresh) board rule claim edges ≡ state_of (begun board rule claim edges)
unfolding log_started state_of fresh begun
begun_state board rule claim edges after =
    λ i.
    record {
      started = sym after i;
      board = board;
      rule = rule;
      claim = claim;
      edges = edges;
      ticks = fresh.ticks;
      requests = fresh.requests;
      conflicts = fresh.conflicts;
      waits = bit_of fresh.waiting;
      tag = λ q. get_or fresh.tags q 0;
      sent_at = λ q. get_or fresh.sent_at q 0;
      out = λ q. get_or fresh.out q 0;
      back = λ q. get_or fresh.back q 0;
    }

-- The other commands come after a start.
module _ (k : Keeper) (before : counts_as_started k ≡ true) where
  -- what is changed in the keeper is changed in the state: the peers by what is read of them
  changed_state : (edges : Interval) (ticks requests conflicts waiting : ℕ) (tags sent : List ℕ)
      → (waits : ℕ → Bool) (tag sent_at : ℕ → ℕ)
      → ((q : ℕ) → waits q ≡ bit_of waiting q)
      → ((q : ℕ) → tag q ≡ get_or tags q 0)
      → ((q : ℕ) → sent_at q ≡ get_or sent q 0)
      → counts_as_started (changed k edges ticks requests conflicts waiting tags sent) ≡ true
      → state_with (state_of k) edges ticks requests conflicts waits tag sent_at ≡ state_of (changed k edges ticks requests conflicts waiting tags sent)
  unfolding state_with state_of changed
  changed_state edges ticks requests conflicts waiting tags sent waits tag sent_at w t s after =
      λ i.
      record {
        started = (before ∙ sym after) i;
        board = k.board;
        rule = k.rule;
        claim = k.claim;
        edges = edges;
        ticks = ticks;
        requests = requests;
        conflicts = conflicts;
        waits = λ q. w q i;
        tag = λ q. t q i;
        sent_at = λ q. s q i;
        out = λ q. get_or k.out q 0;
        back = λ q. get_or k.back q 0;
      }

  pub passed_state : (n : ℕ) → let after = passed_to k (widened k.claim n k.edges) (k.ticks + n) in
      counts_as_started after ≡ true → log_passed (state_of k) n ≡ state_of after
  unfolding log_passed passed_to state_of
  passed_state n after = changed_state _ _ _ _ _ _ _ _ _ _ (λ q. refl) (λ q. refl) (λ q. refl) after

  pub asked_state : (p : ℕ) → Sized k → p < 16 → bit_of k.waiting p ≡ false
      → counts_as_started (asked k p) ≡ true → log_asked (state_of k) p ≡ state_of (asked k p)
  unfolding log_asked asked state_of
  asked_state p sized small bit after =
      changed_state _ _ _ _ _ _ _ _ _ _ (λ q. sym (bit_set k.waiting p bit q))
      (set_updated k.tags p (k.requests + 1) (omega arith))
      (set_updated k.sent_at p k.ticks (omega arith))
      after

  pub ended_state : (p : ℕ) (edges : Interval) (conflicts : ℕ) → Sized k → p < 16 → bit_of k.waiting p ≡ true
      → counts_as_started (ended k p edges conflicts) ≡ true
      → log_ended (state_of k) p edges conflicts ≡ state_of (ended k p edges conflicts)
  unfolding log_ended ended state_of
  ended_state p edges conflicts sized small bit after =
      changed_state _ _ _ _ _ _ _ _ _ _ (λ q. sym (bit_cleared k.waiting p bit q))
      (set_updated k.tags p 0 (omega arith))
      (set_updated k.sent_at p 0 (omega arith))
      after

  -- the flight times of one peer, and nothing else
  pub flight_state : (p out back : ℕ) → Sized k → p < 16 → counts_as_started (with_flight k p out back) ≡ true
      → log_flight (state_of k) p out back ≡ state_of (with_flight k p out back)
  unfolding log_flight with_flight state_of
  flight_state p out back sized small after =
      λ i.
      record {
        started = (before ∙ sym after) i;
        board = k.board;
        rule = k.rule;
        claim = k.claim;
        edges = k.edges;
        ticks = k.ticks;
        requests = k.requests;
        conflicts = k.conflicts;
        waits = bit_of k.waiting;
        tag = λ q. get_or k.tags q 0;
        sent_at = λ q. get_or k.sent_at q 0;
        out = λ q. set_updated k.out p out (omega (arith, small, sized.out)) q i;
        back = λ q. set_updated k.back p back (omega (arith, small, sized.back)) q i;
      }
