-- Laws of flight times that are within their limit.
use mathlib.Core.Path.{◌≡◌, refl, ap, ◌∙◌}
use mathlib.Core.Bool.{Bool, true, false, ◌&&◌}
use mathlib.Core.List.{List}
use Prim.Native.Nat.{ℕ, ◌<◌, ◌≤◌}
use native.Mathlib.Omega.{arith}
use borrow.Author.Tests.{leb-true, eqb-true, eqb-false}
use lib.Dec.{eqb}
use lib.ListN.{length, get_or, set, replicate}
use lib.Seq.{get_or-set_same, get_or-set_other}
use Rattle.std.specs.List.{list_all, zip}
use Rattle.std.proofs.lemmas.Slice.Zip.{length-zip, get_or-zip}
use Rattle.bits.specs.Below.{all_below}
use Rattle.bits.proofs.Below.{all_at, all_made}
use Rattle.bits.proofs.Listed.{all_listed}
use Rattle.bits.proofs.Tests.{both, join}
use Rattle.flights.specs.Flights.{most_flight, flight_within, flight_kept, flights_kept}

pub flight_bound : (time : ℕ) → flight_within time ≡ true → time ≤ most_flight
unfolding flight_within
flight_bound time e = leb-true time most_flight e

-- one peer's times, of those that are kept
pub flights_at : (out back : List ℕ) → flights_kept out back ≡ true → (p : ℕ) → p < 16
    → (get_or out p 0 ≤ most_flight) × (get_or back p 0 ≤ most_flight)
unfolding flights_kept
flights_at out back e p small =
    let (o, b) = both (flight_within (get_or out p 0)) (flight_within (get_or back p 0)) (all_at 16 (flight_kept out back) e p small) in
    (flight_bound _ o, flight_bound _ b)

-- 'both 0 at the start'
pub flights_none : flights_kept (replicate 16 0) (replicate 16 0) ≡ true
unfolding flights_kept all_below flight_within
flights_none = refl

-- a time within its limit put in the place of a peer's
set_within : (l : List ℕ) (p time q : ℕ) → p < length l → flight_within time ≡ true → flight_within (get_or l q 0) ≡ true → flight_within (get_or (set l p time) q 0) ≡ true
set_within l p time q h t e = go (eqb q p) refl
  where
    go : (s : Bool) → eqb q p ≡ s → flight_within (get_or (set l p time) q 0) ≡ true
    go true d = rw (eqb-true q p d, get_or-set_same l p time 0 h) t
    go false d = rw (get_or-set_other l p q time 0 (eqb-false q p d)) e

pub flights_set : (out back : List ℕ) (p o b : ℕ) → p < length out → p < length back → flight_within o ≡ true → flight_within b ≡ true
    → flights_kept out back ≡ true → flights_kept (set out p o) (set back p b) ≡ true
unfolding flights_kept
flights_set out back p o b lo lb wo wb e =
    all_made 16 (flight_kept (set out p o) (set back p b))
    (λ q small.
    let (x, y) = both (flight_within (get_or out q 0)) (flight_within (get_or back q 0)) (all_at 16 (flight_kept out back) e q small) in
    join (set_within out p o q lo wo x) (set_within back p b q lb wb y))

-- the times of a peer as a pair, and of every peer as a list of pairs
abbrev pub pair_kept : ℕ × ℕ → Bool
pair_kept p = flight_within p.0 && flight_within p.1

pub flights_listed : (out back : List ℕ) → length out ≡ 16 → length back ≡ 16 → list_all pair_kept (zip out back) ≡ flights_kept out back
unfolding flights_kept
flights_listed out back o b =
    all_listed pair_kept (zip out back) (0, 0) (flight_kept out back) 16 (length-zip out back ∙ omega (arith, o, b))
    (λ p h. ap pair_kept (get_or-zip out back p (0, 0) (omega (arith, o, h)) (omega (arith, b, h))))
