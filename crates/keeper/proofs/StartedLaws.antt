-- The clauses of 'counts as started', and that what each command does keeps them.
use mathlib.Core.Path.{◌≡◌, refl, sym, ap, ◌∙◌}
use mathlib.Core.Bool.{Bool, true, false, not, ◌&&◌, ◌||◌}
use Prim.Native.Nat.{ℕ, ◌+◌, ◌^◌, ◌<◌, ◌≤◌}
use native.Mathlib.Omega.{arith}
use borrow.Author.Tests.{leb-true, le-leb, eqb-true, eqb-false, not-true}
use lib.Dec.{leb, eqb}
use lib.ListN.{length, get_or, set, length-set, get_or-replicate}
use lib.Seq.{get_or-set_same, get_or-set_other}
use Rattle.bits.specs.Bits.{bit_of}
use Rattle.bits.specs.Below.{all_below, count_below, one, updated}
use Rattle.bits.proofs.Tests.{both, join, clash}
use Rattle.bits.proofs.Below.{updated_same, updated_other, count_same, count_updated, all_at, all_made}
use Rattle.bits.proofs.BitLaws.{bit_set, bit_cleared, bit_room, bit_beyond}
use Rattle.peers.specs.Peers.{peer_kept, tags_differ, peers_kept}
use Rattle.peers.proofs.PeerLaws.{apart_read, apart_made}
use Rattle.flights.specs.Flights.{flight_within, flights_kept}
use Rattle.flights.proofs.FlightLaws.{flights_none, flights_set}
use Rattle.moment.specs.declared.Interval.{Interval}
use Rattle.moment.specs.Intervals.{edges_within}
use Rattle.rules.specs.declared.Rule.{Rule}
use Rattle.command.specs.Limits.{board_within, claim_within, keeps, form_of}
use Rattle.command.specs.declared.Command.TheVariants as C
use Rattle.keeper.specs.State.{most_ticks, most_requests, numbers_kept, counts_as_started, fresh}
use Rattle.keeper.specs.Apply.{begun, changed, passed_to, asked, ended, with_flight}
use Rattle.keeper.specs.declared.Keeper.{Keeper}

-- ---- the clauses of 'counts as started'

-- 'the waiting peers' tags .. are 1 through the requests sent and belong to tick counts not above the ticks'
pub record Outstanding (k : Keeper) (p : ℕ) : Type 0 where
  pub least : 1 ≤ get_or k.tags p 0
  pub most : get_or k.tags p 0 ≤ k.requests
  pub sent : get_or k.sent_at p 0 ≤ k.ticks

-- 'and the other peers hold 0 for both'
pub record Idle (k : Keeper) (p : ℕ) : Type 0 where
  pub tag : get_or k.tags p 0 ≡ 0
  pub sent : get_or k.sent_at p 0 ≡ 0

pub record Peer (k : Keeper) (p : ℕ) : Type 0 where
  pub waits : bit_of k.waiting p ≡ true → Outstanding k p
  pub rests : bit_of k.waiting p ≡ false → Idle k p

pub record Started (k : Keeper) : Type 0 where
  pub started : k.started ≡ true
  pub board : k.board ≤ 15
  pub claim : k.claim ≤ 50000
  pub edges : edges_within k.edges ≡ true
  pub ticks : k.ticks ≤ most_ticks
  pub requests : k.requests ≤ most_requests
  pub count : k.conflicts + count_below 16 (bit_of k.waiting) ≤ k.requests
  pub itself : bit_of k.waiting k.board ≡ false
  pub peers : (p : ℕ) → p < 16 → Peer k p
  pub apart : (p q : ℕ) → p < 16 → q < p → bit_of k.waiting p ≡ true → bit_of k.waiting q ≡ true → get_or k.tags p 0 ≡ get_or k.tags q 0 → ⊥
  pub flights : flights_kept k.out k.back ≡ true

either : (b x y : Bool) → (b && x) || (not b && y) ≡ true → (b ≡ true → x ≡ true) × (b ≡ false → y ≡ true)
either true x y e = (λ h. go x e, λ h. absurd (clash refl h))
  where
    go : (x : Bool) → x || false ≡ true → x ≡ true
    go true e = refl
    go false e = e
either false x y e = (λ h. absurd (clash h refl), λ h. e)

-- one peer's test, and two peers'
abbrev kept : Keeper → ℕ → Bool
kept k = peer_kept k.waiting k.requests k.ticks k.tags k.sent_at

abbrev differ : Keeper → ℕ → ℕ → Bool
differ k = tags_differ k.waiting k.tags

peer_read : (k : Keeper) (p : ℕ) → kept k p ≡ true → Peer k p
peer_read k p e =
    let tag = get_or k.tags p 0 in
    let sent = get_or k.sent_at p 0 in
    let (on, off) = either (bit_of k.waiting p) (leb 1 tag && leb tag k.requests && leb sent k.ticks) (eqb tag 0 && eqb sent 0) e in
    record {
      waits = λ h.
          let (front, last) = both (leb 1 tag && leb tag k.requests) (leb sent k.ticks) (on h) in
          let (low, high) = both (leb 1 tag) (leb tag k.requests) front in
          record { least = leb-true _ _ low; most = leb-true _ _ high; sent = leb-true _ _ last };
      rests = λ h. let (zero-tag, zero-sent) = both (eqb tag 0) (eqb sent 0) (off h) in record { tag = eqb-true _ _ zero-tag; sent = eqb-true _ _ zero-sent };
    }

peer_made : (k : Keeper) (p : ℕ) → Peer k p → kept k p ≡ true
peer_made k p h = go (bit_of k.waiting p) refl
  where
    go : (t : Bool) → bit_of k.waiting p ≡ t → kept k p ≡ true
    go true e =
        let o = h.waits e in
        rw (e, le-leb 1 (get_or k.tags p 0) o.least, le-leb (get_or k.tags p 0) k.requests o.most, le-leb (get_or k.sent_at p 0) k.ticks o.sent)
    go false e =
        let o = h.rests e in
        rw (e, o.tag, o.sent)

pub started_read : (k : Keeper) → counts_as_started k ≡ true → Started k
unfolding counts_as_started numbers_kept peers_kept board_within claim_within
started_read k e =
    let (h0, e) = both _ _ e in
    let (numbers, e) = both _ _ e in
    let (h1, numbers) = both _ _ numbers in
    let (h2, numbers) = both _ _ numbers in
    let (h3, numbers) = both _ _ numbers in
    let (h4, h5) = both _ _ numbers in
    let (h6, e) = both _ _ e in
    let (h7, e) = both _ _ e in
    let (e, h10) = both _ _ e in
    let (h8, h9) = both _ _ e in
    record {
      started = h0;
      board = leb-true _ _ h1;
      claim = leb-true _ _ h2;
      edges = h3;
      ticks = leb-true _ _ h4;
      requests = leb-true _ _ h5;
      count = leb-true _ _ h6;
      itself = not-true _ h7;
      peers = λ p l. peer_read k p (all_at 16 (kept k) h8 p l);
      apart = λ p q l m. apart_read k.waiting k.tags p q (all_at p (differ k p) (all_at 16 (λ p. all_below p (differ k p)) h9 p l) q m);
      flights = h10;
    }

pub started_made : {k : Keeper} → Started k → counts_as_started k ≡ true
unfolding counts_as_started numbers_kept peers_kept board_within claim_within
started_made {k} c =
    join c.started
    (join
    (join (le-leb _ _ c.board)
    (join (le-leb _ _ c.claim)
    (join c.edges
    (join (le-leb _ _ c.ticks) (le-leb _ _ c.requests)))))
    (join (le-leb _ _ c.count)
    (join (ap not c.itself)
    (join
    (join (all_made 16 (kept k) (λ p l. peer_made k p (c.peers p l)))
    (all_made 16 (λ p. all_below p (differ k p)) (λ p l. all_made p (differ k p) (λ q m. apart_made k.waiting k.tags p q (c.apart p q l m)))))
    c.flights))))

-- a waiting peer's tick count is not above the ticks
pub sent_by : (k : Keeper) (p : ℕ) → Started k → p ≤ 15 → bit_of k.waiting p ≡ true → get_or k.sent_at p 0 ≤ k.ticks
sent_by k p h l e = ((h.peers p (omega arith)).waits e).sent

-- ---- the sizes of the machine's fields

pub record Sized (k : Keeper) : Type 0 where
  pub mask : k.waiting < 2 ^ 16
  pub tags : length k.tags ≡ 16
  pub sent : length k.sent_at ≡ 16
  pub out : length k.out ≡ 16
  pub back : length k.back ≡ 16

pub fresh_sized : Sized fresh
unfolding fresh
fresh_sized = record { mask = omega arith; tags = refl; sent = refl; out = refl; back = refl }

pub begun_sized : (board : ℕ) (rule : Rule) (claim : ℕ) (edges : Interval) → Sized (begun board rule claim edges)
unfolding begun
begun_sized board rule claim edges = record { mask = omega arith; tags = refl; sent = refl; out = refl; back = refl }

pub passed_sized : {k : Keeper} → Sized k → (edges : Interval) (ticks : ℕ) → Sized (passed_to k edges ticks)
unfolding passed_to changed
passed_sized s edges ticks = record { mask = s.mask; tags = s.tags; sent = s.sent; out = s.out; back = s.back }

pub asked_sized : {k : Keeper} → Sized k → (p : ℕ) → p < 16 → bit_of k.waiting p ≡ false → Sized (asked k p)
unfolding asked changed
asked_sized {k} s p h e = record { mask = bit_room 16 k.waiting p s.mask h e; tags = length-set k.tags p (k.requests + 1) ∙ s.tags; sent = length-set k.sent_at p k.ticks ∙ s.sent; out = s.out; back = s.back }

pub ended_sized : {k : Keeper} → Sized k → (p : ℕ) → (edges : Interval) (conflicts : ℕ) → Sized (ended k p edges conflicts)
unfolding ended changed
ended_sized {k} s p edges conflicts = record { mask = omega arith; tags = length-set k.tags p 0 ∙ s.tags; sent = length-set k.sent_at p 0 ∙ s.sent; out = s.out; back = s.back }

pub flight_sized : {k : Keeper} → Sized k → (p out back : ℕ) → Sized (with_flight k p out back)
unfolding with_flight
flight_sized {k} s p out back =
    record { mask = s.mask; tags = s.tags; sent = s.sent; out = length-set k.out p out ∙ s.out; back = length-set k.back p back ∙ s.back }

-- ---- what one peer holds, after its values were set

record Held (k : Keeper) (p : ℕ) (waits : Bool) (tag sent : ℕ) : Type 0 where
  bit : bit_of k.waiting p ≡ waits
  tagged : get_or k.tags p 0 ≡ tag
  when : get_or k.sent_at p 0 ≡ sent

-- l is k but for the peer p's three values
record Changed (k l : Keeper) (p : ℕ) (waits : Bool) (tag sent : ℕ) : Type 0 where
  bits : (q : ℕ) → bit_of l.waiting q ≡ updated (bit_of k.waiting) p waits q
  tags : l.tags ≡ set k.tags p tag
  sents : l.sent_at ≡ set k.sent_at p sent

module _ {k l : Keeper} {p : ℕ} {waits : Bool} {tag sent : ℕ} (c : Changed k l p waits tag sent) where
  changed_here : Sized k → p < 16 → Held l p waits tag sent
  changed_here s h =
      record {
        bit = c.bits p ∙ updated_same (bit_of k.waiting) p waits;
        tagged = rw c.tags (get_or-set_same k.tags p tag 0 (omega (arith, s.tags)));
        when = rw c.sents (get_or-set_same k.sent_at p sent 0 (omega (arith, s.sent)));
      }

  changed_elsewhere : (q : ℕ) → (q ≡ p → ⊥) → Held l q (bit_of k.waiting q) (get_or k.tags q 0) (get_or k.sent_at q 0)
  changed_elsewhere q d =
      record {
        bit = c.bits q ∙ updated_other (bit_of k.waiting) p waits q d;
        tagged = rw c.tags (get_or-set_other k.tags p q tag 0 d);
        when = rw c.sents (get_or-set_other k.sent_at p q sent 0 d);
      }

  changed_count : p < 16 → count_below 16 (bit_of l.waiting) + one (bit_of k.waiting p) ≡ count_below 16 (bit_of k.waiting) + one waits
  changed_count h =
      ap (λ (n : ℕ). n + one (bit_of k.waiting p)) (count_same 16 (bit_of l.waiting) (updated (bit_of k.waiting) p waits) (λ q m. c.bits q))
      ∙ count_updated 16 (bit_of k.waiting) p waits h

  -- the other peers are kept while the requests and the ticks do not go down
  changed_peers : Started k → k.requests ≤ l.requests → k.ticks ≤ l.ticks → Peer l p → (q : ℕ) → q < 16 → Peer l q
  changed_peers old r t new q h = go (eqb q p) refl
    where
      go : (b : Bool) → eqb q p ≡ b → Peer l q
      go true e = rw (eqb-true q p e) new
      go false e =
          let held = changed_elsewhere q (eqb-false q p e) in
          record {
            waits = λ w.
                let o = (old.peers q h).waits (sym held.bit ∙ w) in
                record { least = rw held.tagged o.least; most = rw held.tagged (omega arith); sent = rw held.when (omega arith) };
            rests = λ w. let o = (old.peers q h).rests (sym held.bit ∙ w) in record { tag = held.tagged ∙ o.tag; sent = held.when ∙ o.sent };
          }

  -- tags stay apart if the new one is no waiting peer's
  changed_apart : Started k → Held l p waits tag sent → (waits ≡ true → (q : ℕ) → q < 16 → bit_of k.waiting q ≡ true → get_or k.tags q 0 ≡ tag → ⊥)
      → (q r : ℕ) → q < 16 → r < q → bit_of l.waiting q ≡ true → bit_of l.waiting r ≡ true → get_or l.tags q 0 ≡ get_or l.tags r 0 → ⊥
  changed_apart old here new q r h m wq wr same = go (eqb q p) (eqb r p) refl refl
    where
      -- p against another peer
      against : (x : ℕ) → x < 16 → (x ≡ p → ⊥) → bit_of l.waiting p ≡ true → bit_of l.waiting x ≡ true → get_or l.tags x 0 ≡ get_or l.tags p 0 → ⊥
      against x lx d wp wx e =
          let held = changed_elsewhere x d in
          new (sym here.bit ∙ wp) x lx (sym held.bit ∙ wx) (sym held.tagged ∙ e ∙ here.tagged)

      go : (s t : Bool) → eqb q p ≡ s → eqb r p ≡ t → ⊥
      go true true d e = let same_place : q ≡ r = eqb-true q p d ∙ sym (eqb-true r p e) in omega arith
      go true false d e =
          let is-p = eqb-true q p d in
          against r (omega arith) (eqb-false r p e) (rw is-p at wq) wr (sym (rw is-p at same))
      go false true d e =
          let is-p = eqb-true r p e in
          against q h (eqb-false q p d) (rw is-p at wr) wq (rw is-p at same)
      go false false d e =
          let at-q = changed_elsewhere q (eqb-false q p d) in
          let at-r = changed_elsewhere r (eqb-false r p e) in
          old.apart q r h m (sym at-q.bit ∙ wq) (sym at-r.bit ∙ wr) (sym at-q.tagged ∙ same ∙ at-r.tagged)

-- ---- the laws

pub fresh_not_started : counts_as_started fresh ≡ false
unfolding counts_as_started fresh
fresh_not_started = refl

no_bit : (p : ℕ) → bit_of 0 p ≡ false
no_bit p = bit_beyond 0 0 p (omega arith) (omega arith)

pub begun_kept : (board : ℕ) (rule : Rule) (claim : ℕ) (edges : Interval) → keeps (form_of (C.Start board rule claim edges)) ≡ true → counts_as_started (begun board rule claim edges) ≡ true
unfolding begun board_within claim_within count_below bit_of
begun_kept board rule claim edges e =
    let (front, within) = both (board_within board && claim_within claim) (edges_within edges) e in
    let (b, c) = both (board_within board) (claim_within claim) front in
    started_made
    (record {
      started = refl;
      board = leb-true board 15 b;
      claim = leb-true claim 50000 c;
      edges = within;
      ticks = omega arith;
      requests = omega arith;
      count = omega arith;
      itself = no_bit board;
      peers = λ p l.
          record { waits = λ w. absurd (clash w (no_bit p)); rests = λ w. record { tag = get_or-replicate 16 p 0 0 l; sent = get_or-replicate 16 p 0 0 l } };
      apart = λ p q l m wp wq same. clash wp (no_bit p);
      flights = flights_none;
    })

pub passed_kept : (k : Keeper) (edges : Interval) (ticks : ℕ) → counts_as_started k ≡ true → edges_within edges ≡ true → k.ticks ≤ ticks → ticks ≤ most_ticks → counts_as_started (passed_to k edges ticks) ≡ true
unfolding passed_to changed
passed_kept k edges ticks e within up most =
    let c = started_read k e in
    started_made
    (record {
      started = c.started;
      board = c.board;
      claim = c.claim;
      edges = within;
      ticks = most;
      requests = c.requests;
      count = c.count;
      itself = c.itself;
      peers = λ p l.
          record {
            waits = λ w. let o = (c.peers p l).waits w in record { least = o.least; most = o.most; sent = omega arith };
            rests = λ w. let o = (c.peers p l).rests w in record { tag = o.tag; sent = o.sent };
          };
      apart = c.apart;
      flights = c.flights;
    })

pub asked_kept : (k : Keeper) (p : ℕ) → Sized k → counts_as_started k ≡ true → p < 16 → (p ≡ k.board → ⊥) → bit_of k.waiting p ≡ false → k.requests < most_requests → counts_as_started (asked k p) ≡ true
unfolding asked changed
asked_kept k p s e h other free room =
    let c = started_read k e in
    let changed : Changed k (asked k p) p true (k.requests + 1) k.ticks = record { bits = bit_set k.waiting p free; tags = refl; sents = refl } in
    let here = changed_here changed s h in
    let peer : Peer (asked k p) p =
    record {
      waits = λ w. record { least = rw here.tagged (omega arith); most = rw here.tagged (omega arith); sent = rw here.when (omega arith) };
      rests = λ w. absurd (clash here.bit w);
    } in
    started_made
    (record {
      started = c.started;
      board = c.board;
      claim = c.claim;
      edges = c.edges;
      ticks = c.ticks;
      requests = omega arith;
      count = omega (arith, c.count, rw free at (changed_count changed h));
      itself = (changed_elsewhere changed k.board (λ b. other (sym b))).bit ∙ c.itself;
      peers = changed_peers changed c (omega arith) (omega arith) peer;
      apart = changed_apart changed c here (λ w q l wq same. let o = (c.peers q l).waits wq in omega arith);
      flights = c.flights;
    })

pub ended_kept : (k : Keeper) (p : ℕ) (edges : Interval) (conflicts : ℕ) → Sized k → counts_as_started k ≡ true → p < 16 → bit_of k.waiting p ≡ true → edges_within edges ≡ true → conflicts ≤ k.conflicts + 1 → counts_as_started (ended k p edges conflicts) ≡ true
unfolding ended changed
ended_kept k p edges conflicts s e h waits within most =
    let c = started_read k e in
    let changed : Changed k (ended k p edges conflicts) p false 0 0 = record { bits = bit_cleared k.waiting p waits; tags = refl; sents = refl } in
    let here = changed_here changed s h in
    let peer : Peer (ended k p edges conflicts) p =
    record { waits = λ w. absurd (clash w here.bit); rests = λ w. record { tag = here.tagged; sent = here.when } } in
    started_made
    (record {
      started = c.started;
      board = c.board;
      claim = c.claim;
      edges = within;
      ticks = c.ticks;
      requests = c.requests;
      count = omega (arith, c.count, rw waits at (changed_count changed h));
      itself = (changed_elsewhere changed k.board (λ b. clash waits (rw b at c.itself))).bit ∙ c.itself;
      peers = changed_peers changed c (omega arith) (omega arith) peer;
      apart = changed_apart changed c here (λ w q l wq same. clash w refl);
      flights = c.flights;
    })

pub flight_kept : (k : Keeper) (p out back : ℕ) → Sized k → counts_as_started k ≡ true → p < 16 → flight_within out ≡ true → flight_within back ≡ true
    → counts_as_started (with_flight k p out back) ≡ true
unfolding with_flight
flight_kept k p out back s e h o b =
    let c = started_read k e in
    started_made
    (record {
      started = c.started;
      board = c.board;
      claim = c.claim;
      edges = c.edges;
      ticks = c.ticks;
      requests = c.requests;
      count = c.count;
      itself = c.itself;
      peers = λ q l.
          record {
            waits = λ w. let x = (c.peers q l).waits w in record { least = x.least; most = x.most; sent = x.sent };
            rests = λ w. let x = (c.peers q l).rests w in record { tag = x.tag; sent = x.sent };
          };
      apart = c.apart;
      flights = flights_set k.out k.back p out back (omega (arith, s.out)) (omega (arith, s.back)) o b c.flights;
    })
