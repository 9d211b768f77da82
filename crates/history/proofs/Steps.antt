-- Start, pass, request, the end of a request and a flight keep the invariant.
use mathlib.Core.Path.{◌≡◌, refl, ◌∙◌, ap, subst, fun_ext}
use mathlib.Core.Bool.{true, false}
use Prim.Native.Nat.{ℕ, ◌+◌, ◌-◌, ◌*◌, ◌^◌, ◌≤◌, ◌<◌}
use native.Mathlib.Omega.{arith}
use lib.IntN.{ℤ}
use Rattle.bits.specs.Bits.{bit_of}
use Rattle.bits.specs.Below.{one, count_below}
use Rattle.bits.proofs.Tests.{clash}
use Rattle.bits.proofs.Below.{count_updated}
use Rattle.bits.proofs.BitLaws.{bit_set, bit_cleared}
use Rattle.moment.specs.Moment.{shortest, longest}
use Rattle.moment.specs.Intervals.{Holds, both_in_range, edges_within}
use Rattle.moment.specs.declared.Interval.{Interval}
use Rattle.moment.proofs.Within.{within_read}
use Rattle.rules.specs.Rules.{widened}
use Rattle.rules.specs.declared.Rule.{Rule}
use Rattle.rules.proofs.Limits.{widened_within}
use Rattle.rules.proofs.Sets.{passed_within, passed_reached}
use Rattle.flights.specs.Flights.{flight_within}
use Rattle.command.specs.Limits.{keeps, form_of}
use Rattle.command.specs.declared.Command.TheVariants as C
use Rattle.keeper.specs.State.{counts_as_started, state_of, fresh, most_ticks, most_requests}
use Rattle.keeper.specs.Apply.{begun, changed, passed_to, asked, ended, with_flight}
use Rattle.keeper.specs.declared.Keeper.{Keeper}
use Rattle.keeper.proofs.StartedLaws.{Started, started_read, begun_sized, passed_sized, asked_sized, ended_sized, flight_sized, begun_kept, passed_kept, asked_kept, ended_kept, flight_kept}
use Rattle.history.specs.Log.{log_started, log_passed, log_asked, log_ended, log_flight, with_state}
use Rattle.history.specs.Course.{advanced, passed}
use Rattle.history.proofs.States.{begun_state, passed_state, asked_state, ended_state, flight_state}
use Rattle.history.proofs.Invariant.{log_of, Follows, KeeperInvariant, Invariant}

-- A request that is sent is one more that waits, and one that ends is one less.
count_set : (w p : ℕ) → p < 16 → bit_of w p ≡ false → count_below 16 (bit_of (w + 2 ^ p)) ≡ count_below 16 (bit_of w) + 1
count_set w p h e =
    let same = ap (count_below 16) (fun_ext (bit_set w p e)) in
    let gained = count_updated 16 (bit_of w) p true h in
    let none = ap one e in omega arith

count_cleared : (w p : ℕ) → p < 16 → bit_of w p ≡ true → count_below 16 (bit_of (w - 2 ^ p)) + 1 ≡ count_below 16 (bit_of w)
count_cleared w p h e =
    let same = ap (count_below 16) (fun_ext (bit_cleared w p e)) in
    let lost = count_updated 16 (bit_of w) p false h in
    let some = ap one e in omega arith

module _ (k : Keeper) (taken kept dropped : ℕ) (stands : ℤ → Type 0) (held : KeeperInvariant k taken kept dropped stands) where
  -- a fresh keeper is started: at each moment of the edges a course begins
  pub start_invariant : counts_as_started k ≡ false
      → (board : ℕ) (rule : Rule) (claim : ℕ) (edges : Interval)
      → keeps (form_of (C.Start board rule claim edges)) ≡ true
      → Invariant (with_state (log_of k taken kept dropped) (log_started (state_of k) board rule claim edges)) (begun board rule claim edges) (Holds edges)
  unfolding begun fresh
  start_invariant out board rule claim edges limits =
      let after = begun_kept board rule claim edges limits in
      let same : k ≡ fresh = held.unstarted out in
      record {
        taken = taken;
        kept = kept;
        dropped = dropped;
        same =
            ap (with_state (log_of k taken kept dropped))
            (ap (λ (x : Keeper). log_started (state_of x) board rule claim edges) same ∙ begun_state board rule claim edges after);
        holds =
            record {
              sized = begun_sized board rule claim edges;
              unstarted = λ e. absurd (clash after e);
              sum =
                  subst
                  (λ (x : Keeper). x.requests ≡ taken + kept + x.conflicts + dropped + count_below 16 (bit_of x.waiting))
                  same
                  held.sum;
              follows = record { within = λ m h. h; no_conflict = λ m h. refl; reached = λ r s c m h. h };
            };
      }

  -- ticks pass: the edges widen as far as courses may go
  pub pass_invariant : counts_as_started k ≡ true
      → (n : ℕ)
      → both_in_range (widened k.claim n k.edges) ≡ true
      → k.ticks + n ≤ most_ticks
      → Invariant (with_state (log_of k taken kept dropped) (log_passed (state_of k) n)) (passed_to k (widened k.claim n k.edges) (k.ticks + n)) (advanced (passed (n * shortest k.claim) (n * longest k.claim)) stands)
  unfolding passed_to changed
  pass_invariant before n range most =
      let c : Started k = started_read k before in
      let edges = widened k.claim n k.edges in
      let within = widened_within k.claim n k.edges c.claim c.edges range in
      let after = passed_kept k edges (k.ticks + n) before within (omega arith) most in
      record {
        taken = taken;
        kept = kept;
        dropped = dropped;
        same = ap (with_state (log_of k taken kept dropped)) (passed_state k before n after);
        holds =
            record {
              sized = passed_sized held.sized edges (k.ticks + n);
              unstarted = λ e. absurd (clash after e);
              sum = held.sum;
              follows =
                  record {
                    within = λ m s. passed_within k.claim n k.edges s.0 m s.1 (held.follows.within s.0 s.2) s.3 s.4 s.5;
                    no_conflict = λ m s. held.follows.no_conflict s.0 s.2;
                    reached =
                        λ im s q m h.
                        let r = passed_reached k.claim n k.edges m (within_read k.edges c.edges).order h in
                        (r.moment, r.gained, held.follows.reached im before q r.moment r.within, r.least_gained, r.most_gained, r.sum);
                  };
            };
      }

  -- a request is sent: no course moves
  pub request_invariant : counts_as_started k ≡ true
      → (p : ℕ)
      → p < 16
      → (p ≡ k.board → ⊥)
      → bit_of k.waiting p ≡ false
      → k.requests < most_requests
      → Invariant (with_state (log_of k taken kept dropped) (log_asked (state_of k) p)) (asked k p) stands
  unfolding asked changed
  request_invariant before p small other free room =
      let after = asked_kept k p held.sized before small other free room in
      record {
        taken = taken;
        kept = kept;
        dropped = dropped;
        same = ap (with_state (log_of k taken kept dropped)) (asked_state k before p held.sized small free after);
        holds =
            record {
              sized = asked_sized held.sized p small free;
              unstarted = λ e. absurd (clash after e);
              sum = let old = held.sum in omega (arith, count_set k.waiting p small free);
              follows =
                  record {
                    within = held.follows.within;
                    no_conflict = held.follows.no_conflict;
                    reached = λ r s. held.follows.reached r before;
                  };
            };
      }

  -- flight times are set: no course moves
  pub flight_invariant : counts_as_started k ≡ true
      → (p out back : ℕ)
      → p < 16
      → flight_within out ≡ true
      → flight_within back ≡ true
      → Invariant (with_state (log_of k taken kept dropped) (log_flight (state_of k) p out back)) (with_flight k p out back) stands
  unfolding with_flight
  flight_invariant before p out back small o b =
      let after = flight_kept k p out back held.sized before small o b in
      record {
        taken = taken;
        kept = kept;
        dropped = dropped;
        same = ap (with_state (log_of k taken kept dropped)) (flight_state k before p out back held.sized small after);
        holds =
            record {
              sized = flight_sized held.sized p out back;
              unstarted = λ e. absurd (clash after e);
              sum = held.sum;
              follows =
                  record {
                    within = held.follows.within;
                    no_conflict = held.follows.no_conflict;
                    reached = λ r s. held.follows.reached r before;
                  };
            };
      }

  -- A request ends, by a reply or by a drop, in one more taken, kept, conflict or dropped; what it does to the edges and to courses is the
  -- caller's.
  pub ended_invariant : counts_as_started k ≡ true
      → (p : ℕ)
      → p < 16
      → bit_of k.waiting p ≡ true
      → (edges : Interval) (conflicts taken' kept' dropped' : ℕ)
      → edges_within edges ≡ true
      → conflicts ≤ k.conflicts + 1
      → taken' + kept' + conflicts + dropped' ≡ taken + kept + k.conflicts + dropped + 1
      → (stands' : ℤ → Type 0)
      → Follows (ended k p edges conflicts) stands'
      → Invariant (record { state = log_ended (state_of k) p edges conflicts; taken = taken'; kept = kept'; dropped = dropped' }) (ended k p edges conflicts) stands'
  unfolding ended changed
  ended_invariant before p small waits edges conflicts taken' kept' dropped' within most count stands' follows =
      let after = ended_kept k p edges conflicts held.sized before small waits within most in
      record {
        taken = taken';
        kept = kept';
        dropped = dropped';
        same =
            ap (with_state (log_of k taken' kept' dropped')) (ended_state k before p edges conflicts held.sized small waits after);
        holds =
            record {
              sized = ended_sized held.sized p edges conflicts;
              unstarted = λ e. absurd (clash after e);
              sum = let old = held.sum in omega (arith, count_cleared k.waiting p small waits);
              follows = follows;
            };
      }

-- a request that ends with the edges and the conflict count as they were moves no course
pub still_follows : (k : Keeper) (p : ℕ) (stands : ℤ → Type 0) → counts_as_started k ≡ true → Follows k stands
    → Follows (ended k p k.edges k.conflicts) stands
unfolding ended changed
still_follows k p stands before f = record { within = f.within; no_conflict = f.no_conflict; reached = λ r s. f.reached r before }
