-- The laws of the layout: what an image that can be read has, and the length of a keeper's image.
use mathlib.Core.Path.{◌≡◌, refl, ◌∙◌}
use mathlib.Core.Bool.{true}
use mathlib.Core.List.{List, ◌++◌}
use Prim.Native.Nat.{ℕ, ◌≤◌}
use native.Mathlib.Omega.{arith}
use borrow.Author.Tests.{eqb-true, leb-true}
use lib.Dec.{eqb, leb}
use lib.ListN.{length, get_or, length-append}
use Rattle.bits.proofs.Tests.{both}
use Rattle.keeper.specs.declared.Keeper.{Keeper}
use Rattle.image.specs.Bytes.{lowest_first, each_lowest_first}
use Rattle.image.specs.Layout.{image_length, version, readable, own_bytes, peer_bytes, flight_bytes, image_of}
use Rattle.image.proofs.StoreLaws.{length_each}

-- what an image that can be read has: the length, the version, and bytes for started and rule
pub readable_parts : (l : List ℕ) → readable l ≡ true → (length l ≡ image_length) × (get_or l 0 0 ≡ version) × (get_or l 1 0 ≤ 1) × (get_or l 3 0 ≤ 1)
unfolding readable
readable_parts l e =
    let (three, rule) = both _ (leb (get_or l 3 0) 1) e in
    let (two, started) = both _ (leb (get_or l 1 0) 1) three in
    let (long, first) = both _ (eqb (get_or l 0 0) version) two in
    (eqb-true _ _ long, eqb-true _ _ first, leb-true _ _ started, leb-true _ _ rule)

pub readable_length : (l : List ℕ) → readable l ≡ true → length l ≡ image_length
readable_length l e = (readable_parts l e).0

-- an image has its length
pub own_length : (k : Keeper) → length (own_bytes k) ≡ 40
unfolding lowest_first
own_length k = refl

pub peers_length : (k : Keeper) → length k.tags ≡ 16 → length k.sent_at ≡ 16 → length (peer_bytes k) ≡ 192
peers_length k t s =
    length-append (each_lowest_first 4 k.tags) (each_lowest_first 8 k.sent_at) ∙ omega (arith, length_each 4 k.tags, length_each 8 k.sent_at, t, s)

pub flights_length : (k : Keeper) → length k.out ≡ 16 → length k.back ≡ 16 → length (flight_bytes k) ≡ 128
flights_length k o b = length-append (each_lowest_first 4 k.out) (each_lowest_first 4 k.back) ∙ omega (arith, length_each 4 k.out, length_each 4 k.back, o, b)

pub image_length_lem : (k : Keeper) → length k.tags ≡ 16 → length k.sent_at ≡ 16 → length k.out ≡ 16 → length k.back ≡ 16
    → length (image_of k) ≡ image_length
unfolding image_of
image_length_lem k t s o b =
    length-append (own_bytes k ++ peer_bytes k) (flight_bytes k)
    ∙ omega (arith, length-append (own_bytes k) (peer_bytes k), own_length k, peers_length k t s, flights_length k o b)
