-- What a command changes, put into the image of a keeper, makes the image of the changed keeper (`passed_image_lem`, `asked_image_lem`, `ended_image_lem`,
-- `flight_image_lem`).
use mathlib.Core.Path.{◌≡◌, refl, sym, ap, ◌∙◌}
use mathlib.Core.Bool.{true}
use mathlib.Core.List.{List, [], ◌∷◌, ◌++◌, append-nil}
use Prim.Native.Nat.{ℕ, zero, suc, ◌+◌, ◌*◌, ◌<◌, ◌≤◌}
use native.Mathlib.Nat.{mul-le-mul_left, mul-suc}
use native.Mathlib.Omega.{arith}
use borrow.Author.Tests.{eq-eqb, le-leb, eqb-true, leb-true}
use lib.Dec.{leb}
use lib.ListN.{length, get_or, set, length-set, length-append}
use lib.Seq.{set-append_left, get_or-set_same}
use Rattle.bits.proofs.Tests.{both}
use Rattle.moment.specs.declared.Interval.{Interval}
use Rattle.keeper.specs.Apply.{changed, passed_to, asked, ended, with_flight}
use Rattle.keeper.specs.declared.Keeper.{Keeper}
use Rattle.image.specs.Bytes.{lowest_first, each_lowest_first, stored}
use Rattle.image.specs.Layout.{image_length, image_of, own_bytes, peer_bytes, flight_bytes}
use Rattle.image.proofs.StoreLaws.{length_lowest, length_each, stored_whole}
use Rattle.image.proofs.LayoutLaws.{own_length, peers_length, image_length_lem}
use Rattle.changes.specs.Changes.{has_peer, peer_stored, passed_image, asked_image, ended_image, flight_image}

-- ---- bytes put into the second of two runs, and into the first

set_past : (s l : List ℕ) (at b : ℕ) → set (s ++ l) (length s + at) b ≡ s ++ set l at b
set_past [] l at b = ap (λ (n : ℕ). set l n b) (let none : 0 + at ≡ at = omega arith in none)
set_past (a ∷ s) l at b =
    let next : suc (length s) + at ≡ suc (length s + at) = omega arith in
    ap (λ (n : ℕ). set (a ∷ (s ++ l)) n b) next ∙ ap (λ (r : List ℕ). a ∷ r) (set_past s l at b)

stored_past : (s l : List ℕ) (at : ℕ) (t : List ℕ) → stored (s ++ l) (length s + at) t ≡ s ++ stored l at t
unfolding stored
stored_past s l at [] = refl
stored_past s l at (b ∷ t) =
    let next : length s + at + 1 ≡ length s + (at + 1) = omega arith in
    rw (set_past s l at b, next) (stored_past s (set l at b) (at + 1) t)

stored_before : (s l : List ℕ) (at : ℕ) (t : List ℕ) → at + length t ≤ length s → stored (s ++ l) at t ≡ stored s at t ++ l
unfolding stored
stored_before s l at [] h = refl
stored_before s l at (b ∷ t) h =
    rw (set-append_left s l at b (omega arith)) (stored_before (set s at b) l (at + 1) t (omega (arith, length-set s at b)))

-- ---- one of the numbers that stand one after the other

each_set : (w : ℕ) (ns : List ℕ) (p n : ℕ) → p < length ns → stored (each_lowest_first w ns) (w * p) (lowest_first w n) ≡ each_lowest_first w (set ns p n)
unfolding each_lowest_first
each_set w [] p n h = absurd (omega arith)
each_set w (m ∷ ns) zero n h =
    let here : w * 0 ≡ 0 = omega arith in
    let as_long : length (lowest_first w m) ≡ length (lowest_first w n) = length_lowest w m ∙ sym (length_lowest w n) in
    rw here
    (stored_before (lowest_first w m) (each_lowest_first w ns) 0 (lowest_first w n) (omega (arith, as_long))
    ∙ ap (λ (s : List ℕ). s ++ each_lowest_first w ns) (stored_whole (lowest_first w m) (lowest_first w n) as_long))
each_set w (m ∷ ns) (suc p) n h =
    let past : w * suc p ≡ length (lowest_first w m) + w * p = omega (arith, length_lowest w m) in
    rw past
    (stored_past (lowest_first w m) (each_lowest_first w ns) (w * p) (lowest_first w n)
    ∙ ap (λ (s : List ℕ). lowest_first w m ++ s) (each_set w ns p n (omega arith)))

-- a number that has a place among sixteen is put within them
room : (w p : ℕ) → p ≤ 15 → w * p + w ≤ w * 16
room w p h = let past : w * suc p ≤ w * 16 = mul-le-mul_left w (omega arith) in omega (arith, past, mul-suc w p)

-- Two numbers at one place of two runs of sixteen, which follow the bytes `front`.
pair_put : (front rest : List ℕ) (w v : ℕ) (ns ms : List ℕ) (p n m at by : ℕ) → at ≡ length front + w * p → by ≡ length front + (w * 16 + v * p)
    → length ns ≡ 16 → length ms ≡ 16 → p ≤ 15
    → stored (stored (front ++ (each_lowest_first w ns ++ each_lowest_first v ms ++ rest)) at (lowest_first w n)) by (lowest_first v m)
    ≡ front ++ (each_lowest_first w (set ns p n) ++ each_lowest_first v (set ms p m) ++ rest)
pair_put front rest w v ns ms p n m at by first second sixteen many h =
    let x = each_lowest_first w ns in
    let x' = each_lowest_first w (set ns p n) in
    let y = each_lowest_first v ms in
    let long : length x ≡ w * 16 = length_each w ns ∙ ap (λ (i : ℕ). w * i) sixteen in
    let long' : length x' ≡ w * 16 = length_each w (set ns p n) ∙ ap (λ (i : ℕ). w * i) (length-set ns p n ∙ sixteen) in
    let other : length y ≡ v * 16 = length_each v ms ∙ ap (λ (i : ℕ). v * i) many in
    let past : by ≡ length front + (length x' + v * p) = omega (arith, second, long') in
    rw (
      first,
      stored_past front (x ++ y ++ rest) (w * p) (lowest_first w n),
      stored_before (x ++ y) rest (w * p) (lowest_first w n) (omega (arith, length-append x y, long, length_lowest w n, room w p h)),
      stored_before x y (w * p) (lowest_first w n) (omega (arith, long, length_lowest w n, room w p h)),
      each_set w ns p n (omega (arith, sixteen)),
      past,
      stored_past front (x' ++ y ++ rest) (length x' + v * p) (lowest_first v m),
      stored_before (x' ++ y) rest (length x' + v * p) (lowest_first v m) (omega (arith, length-append x' y, other, length_lowest v m, room v p h)),
      stored_past x' y (v * p) (lowest_first v m),
      each_set v ms p m (omega (arith, many)),
    )

-- ---- the four changes, of every keeper with places for sixteen peers

module _
    (k : Keeper)
    (tags : length k.tags ≡ 16)
    (sent : length k.sent_at ≡ 16)
    (outs : length k.out ≡ 16)
    (backs : length k.back ≡ 16)
  where
    pub passed_image_lem : (edges : Interval) (ticks : ℕ) → passed_image (image_of k) edges ticks ≡ image_of (passed_to k edges ticks)
    unfolding passed_image image_of passed_to changed stored lowest_first
    passed_image_lem edges ticks = rw (eq-eqb _ _ (image_length_lem k tags sent outs backs))

    peer_there : (peer : ℕ) → peer ≤ 15 → has_peer (image_of k) peer ≡ true
    unfolding has_peer
    peer_there peer h = rw (eq-eqb _ _ (image_length_lem k tags sent outs backs), le-leb _ _ h)

    pub asked_image_lem : (peer : ℕ) → peer ≤ 15
        → asked_image (image_of k) (asked k peer).waiting (asked k peer).requests peer k.ticks ≡ image_of (asked k peer)
    unfolding asked_image peer_stored image_of asked changed stored lowest_first
    asked_image_lem peer h =
        rw (peer_there peer h)
        (pair_put (own_bytes (asked k peer)) (flight_bytes k) 4 8 k.tags k.sent_at peer (k.requests + 1) k.ticks (40 + 4 * peer) (104 + 8 * peer)
        refl (omega arith) tags sent h)

    pub ended_image_lem : (peer : ℕ) (edges : Interval) (conflicts : ℕ) → peer ≤ 15
        → ended_image (image_of k) (ended k peer edges conflicts).waiting edges conflicts peer ≡ image_of (ended k peer edges conflicts)
    unfolding ended_image peer_stored image_of ended changed stored lowest_first
    ended_image_lem peer edges conflicts h =
        rw (peer_there peer h)
        (pair_put (own_bytes (ended k peer edges conflicts)) (flight_bytes k) 4 8 k.tags k.sent_at peer 0 0 (40 + 4 * peer) (104 + 8 * peer)
        refl (omega arith) tags sent h)

    -- the times at the end of the image, behind all that was there before them
    pub flight_image_lem : (peer out back : ℕ) → peer ≤ 15
        → flight_image (image_of k) peer (set k.out peer out) (set k.back peer back) ≡ image_of (with_flight k peer out back)
    unfolding flight_image image_of with_flight
    flight_image_lem peer out back h =
        let front = own_bytes k ++ peer_bytes k in
        let long : length front ≡ 232 = length-append (own_bytes k) (peer_bytes k) ∙ omega (arith, own_length k, peers_length k tags sent) in
        let put : ℕ → ℕ → List ℕ = λ o b. stored (stored (front ++ flight_bytes k) (232 + 4 * peer) (lowest_first 4 o)) (296 + 4 * peer) (lowest_first 4 b) in
        rw (peer_there peer h)
        (ap (λ (o : ℕ). put o (get_or (set k.back peer back) peer 0)) (get_or-set_same k.out peer out 0 (omega (arith, outs)))
        ∙ ap (put out) (get_or-set_same k.back peer back 0 (omega (arith, backs)))
        ∙ ap (λ (t : List ℕ). stored (stored (front ++ t) (232 + 4 * peer) (lowest_first 4 out)) (296 + 4 * peer) (lowest_first 4 back)) (sym (append-nil (flight_bytes k)))
        ∙ pair_put front [] 4 4 k.out k.back peer out back (232 + 4 * peer) (296 + 4 * peer) (omega (arith, long)) (omega (arith, long)) outs backs h
        ∙ ap (λ (t : List ℕ). front ++ t) (append-nil (each_lowest_first 4 (set k.out peer out) ++ each_lowest_first 4 (set k.back peer back))))

-- ---- what the test of the code says

pub peer_read : (image : List ℕ) (peer : ℕ) → has_peer image peer ≡ true → (length image ≡ image_length) × (peer ≤ 15)
unfolding has_peer
peer_read image peer e =
    let (long, below) = both _ (leb peer 15) e in
    (eqb-true _ _ long, leb-true _ _ below)
