-- Demand 3 holds of every list of lines.
use mathlib.Core.Path.{◌≡◌, refl, sym, ◌∙◌, ap, subst}
use mathlib.Core.Bool.{true, false}
use mathlib.Core.List.{List, [], ◌∷◌, ◌++◌}
use mathlib.Core.Logic.{◌↔◌}
use Prim.Native.Nat.{ℕ, zero, suc, ◌+◌}
use native.Mathlib.Omega.{arith}
use lib.IntN.{ℤ}
use Rattle.moment.specs.Intervals.{Holds}
use Rattle.moment.proofs.Integers.{ints}
use Rattle.moment.proofs.Within.{within_read}
use Rattle.rules.specs.declared.Rule.TheVariants.{Im}
use Rattle.keeper.specs.State.{counts_as_started, state_of, fresh}
use Rattle.keeper.specs.declared.Keeper.{Keeper}
use Rattle.bits.proofs.Tests.{by_test, clash}
use Rattle.history.specs.Log.{Input, Log, log_start, log_after}
use Rattle.history.specs.Course.{no_course, courses_after}
use Rattle.history.specs.Demand3.{keeper_through, IsTheLog, Demand3}
use Rattle.line.specs.Call.{keeper_after}
use Rattle.keeper.proofs.StartedLaws.{Sized, started_read, fresh_sized, fresh_not_started}
use Rattle.history.proofs.States.{fresh_state}
use Rattle.history.proofs.Invariant.{Invariant}
use Rattle.history.proofs.Lines.{lines_invariant}
use Rattle.bits.specs.Bits.{bit_of}
use Rattle.bits.specs.Below.{count_below}
use Rattle.bits.proofs.BitLaws.{bit_beyond}

-- nothing waits in a fresh keeper
none_waits : (n : ℕ) → count_below n (bit_of 0) ≡ 0
unfolding count_below
none_waits zero = refl
none_waits (suc n) = rw (none_waits n, bit_beyond 0 0 n (omega arith) (omega arith))

-- The log begins with what a fresh keeper holds, and there is no course.
start_invariant : Invariant log_start fresh no_course
unfolding log_start fresh
start_invariant =
    record {
      taken = 0;
      kept = 0;
      dropped = 0;
      same = λ i. record { state = fresh_state i; taken = 0; kept = 0; dropped = 0 };
      holds =
          record {
            sized = fresh_sized;
            unstarted = λ e. refl;
            sum = omega (arith, none_waits 16);
            follows =
                record { within = λ m s. absurd s; no_conflict = λ m s. absurd s; reached = λ r s. absurd (clash s fresh_not_started) };
          };
    }

module _ (l : Log) (k : Keeper) (stands : ℤ → Type 0) (h : Invariant l k stands) where
  -- A keeper is started exactly if it counts as started.
  truly_started : k.started ≡ counts_as_started k
  unfolding fresh
  truly_started =
      by_test (counts_as_started k)
      (λ t. (started_read k t).started ∙ sym t)
      (λ t. ap (λ (x : Keeper). x.started) (h.holds.unstarted t) ∙ sym t)

  is_log : IsTheLog k l
  unfolding state_of
  is_log =
      subst
      (λ (x : Log). IsTheLog k x)
      (sym h.same)
      (record {
        started = truly_started;
        counts = refl;
        board = refl;
        rule = refl;
        claim = refl;
        edges = refl;
        ticks = refl;
        requests = refl;
        conflicts = refl;
        waits = λ p s. refl;
        tag = λ p s. refl;
        sent_at = λ p s. refl;
        out = λ p s. refl;
        back = λ p s. refl;
      })

  sums_up : l.state.requests ≡ l.taken + l.kept + l.state.conflicts + l.dropped + count_below 16 l.state.waits
  unfolding state_of
  sums_up =
      subst
      (λ (x : Log). x.state.requests ≡ x.taken + x.kept + x.state.conflicts + x.dropped + count_below 16 x.state.waits)
      (sym h.same)
      h.holds.sum

  -- If the sets are equal, some course stands at the lower edge, so there was no conflict.
  equal_under_im : k.started ≡ true → k.rule ≡ Im → ((m : ℤ) → Holds k.edges m ↔ stands m) ↔ (k.conflicts ≡ 0)
  equal_under_im on im =
      let before : counts_as_started k ≡ true = sym truly_started ∙ on in
      let order = (within_read k.edges (started_read k before).edges).order in
      let f = h.holds.follows in
      let at_lower : Holds k.edges k.edges.lower = omega ints in
      (λ equal. f.no_conflict k.edges.lower ((equal k.edges.lower).0 at_lower), λ none m. (f.reached im before none m, f.within m))

pub demand_3 : (inputs : List Input) → Demand3 inputs
demand_3 inputs =
    let l = log_after log_start inputs in
    let k = keeper_through fresh inputs in
    let stands = courses_after log_start no_course inputs in
    let h = lines_invariant log_start fresh no_course start_invariant inputs in
    record {
      is_the_log = is_log l k stands h;
      sum = sums_up l k stands h;
      im = equal_under_im l k stands h;
      mm = λ on rule. h.holds.follows.within;
    }

-- What a list of lines leaves: the sizes of the machine's fields, and a fresh keeper as long as none counts as started.
pub through_kept : (inputs : List Input) → let k = keeper_through fresh inputs in Sized k × (counts_as_started k ≡ false → k ≡ fresh)
through_kept inputs =
    let h = (lines_invariant log_start fresh no_course start_invariant inputs).holds in
    (h.sized, h.unstarted)

pub through_more : (k : Keeper) (inputs : List Input) (i : Input)
    → keeper_through k (inputs ++ i ∷ []) ≡ keeper_after (keeper_through k inputs) i.line i.room
unfolding keeper_through
through_more k [] i = refl
through_more k (j ∷ inputs) i = through_more (keeper_after k j.line j.room) inputs i
