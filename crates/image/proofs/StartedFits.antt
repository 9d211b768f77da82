-- A keeper that counts as started fits its image, and so does a fresh one: what a run of lines makes is read back from its image.
use mathlib.Core.Path.{◌≡◌, refl, sym, subst}
use mathlib.Core.Bool.{false}
use mathlib.Core.List.{List, [], ◌∷◌}
use Prim.Native.Nat.{ℕ, zero, suc, ◌<◌, ◌^◌}
use native.Mathlib.Omega.{arith}
use lib.ListN.{length, get_or, replicate}
use Rattle.keeper.specs.State.{counts_as_started, fresh}
use Rattle.keeper.specs.declared.Keeper.{Keeper}
use Rattle.bits.proofs.Tests.{by_test}
use Rattle.moment.proofs.Within.{within_read, lower_fits, upper_fits}
use Rattle.flights.proofs.FlightLaws.{flights_at}
use Rattle.keeper.proofs.StartedLaws.{Started, Sized, started_read}
use Rattle.image.specs.Layout.{image_of, keeper_in, AllBelow, Fitting}
use Rattle.image.proofs.RoundTrip.{image_read_back}
use Rattle.bits.specs.Bits.{bit_of}

-- A bound on the number at each place is a bound on all. (Of the bytes of a lent buffer, a proof has the first at hand.)
pub all_below : (bound : ℕ) (ns : List ℕ) → ((p : ℕ) → p < length ns → get_or ns p 0 < bound) → AllBelow bound ns
all_below bound [] h = tt
all_below bound (n ∷ ns) h = (h 0 (omega arith), all_below bound ns (λ p l. h (suc p) (omega arith)))

module _ (k : Keeper) (c : Started k) (s : Sized k) where
  tag_below : (p : ℕ) → p < length k.tags → get_or k.tags p 0 < 256 ^ 4
  tag_below p l =
      let peer = c.peers p (omega (arith, l, s.tags)) in
      by_test (bit_of k.waiting p) (λ t. omega (arith, (peer.waits t).most, c.requests)) (λ t. omega (arith, (peer.rests t).tag))

  count_below : (p : ℕ) → p < length k.sent_at → get_or k.sent_at p 0 < 256 ^ 8
  count_below p l =
      let peer = c.peers p (omega (arith, l, s.sent)) in
      by_test (bit_of k.waiting p) (λ t. omega (arith, (peer.waits t).sent, c.ticks)) (λ t. omega (arith, (peer.rests t).sent))

  out_below : (p : ℕ) → p < length k.out → get_or k.out p 0 < 256 ^ 4
  out_below p l = omega (arith, (flights_at k.out k.back c.flights p (omega (arith, l, s.out))).0)

  back_below : (p : ℕ) → p < length k.back → get_or k.back p 0 < 256 ^ 4
  back_below p l = omega (arith, (flights_at k.out k.back c.flights p (omega (arith, l, s.back))).1)

  started_fitting : Fitting k
  started_fitting =
      let edges = within_read k.edges c.edges in
      record {
        board = omega (arith, c.board);
        claim = omega (arith, c.claim);
        lower = lower_fits k.edges edges;
        upper = upper_fits k.edges edges;
        ticks = omega (arith, c.ticks);
        requests = omega (arith, c.requests);
        conflicts = omega (arith, c.count, c.requests);
        waiting = omega (arith, s.mask);
        tags = (s.tags, all_below (256 ^ 4) k.tags tag_below);
        sent_at = (s.sent, all_below (256 ^ 8) k.sent_at count_below);
        out = (s.out, all_below (256 ^ 4) k.out out_below);
        back = (s.back, all_below (256 ^ 4) k.back back_below);
      }

zeros_below : (bound n : ℕ) → 0 < bound → AllBelow bound (replicate n 0)
zeros_below bound zero h = tt
zeros_below bound (suc n) h = (h, zeros_below bound n h)

fresh_fitting : Fitting fresh
unfolding fresh
fresh_fitting =
    record {
      board = omega arith;
      claim = omega arith;
      lower = record { sfits = omega arith };
      upper = record { sfits = omega arith };
      ticks = omega arith;
      requests = omega arith;
      conflicts = omega arith;
      waiting = omega arith;
      tags = (refl, zeros_below (256 ^ 4) 16 (omega arith));
      sent_at = (refl, zeros_below (256 ^ 8) 16 (omega arith));
      out = (refl, zeros_below (256 ^ 4) 16 (omega arith));
      back = (refl, zeros_below (256 ^ 4) 16 (omega arith));
    }

-- A keeper that a run makes, one that counts as started or a fresh one, is read back from its image.
pub kept_read_back : (k : Keeper) → Sized k → (counts_as_started k ≡ false → k ≡ fresh) → keeper_in (image_of k) ≡ k
kept_read_back k s unstarted =
    by_test (counts_as_started k)
    (λ t. image_read_back k (started_fitting k (started_read k t) s))
    (λ t. image_read_back k (subst Fitting (sym (unstarted t)) fresh_fitting))
