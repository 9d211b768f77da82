-- The tests of the waiting peers: of each one's tag and tick count, and of their tags together.
use mathlib.Core.Path.{◌≡◌, refl, sym, ap, ◌∙◌}
use mathlib.Core.Bool.{Bool, true, false, not, ◌||◌, and-false}
use mathlib.Core.List.{List}
use Prim.Native.Nat.{ℕ, ◌%◌, ◌^◌, ◌<◌, ◌≤◌}
use native.Mathlib.Omega.{arith}
use borrow.Author.Tests.{leb-true, ltb-true, ltb-false, eqb-true, eqb-false, eq-eqb, ne_eqb, not-true, not-false}
use lib.Dec.{ltb}
use lib.ListN.{get_or}
use Rattle.std.specs.Prelude.{Some}
use Rattle.bits.specs.Bits.{bit_of}
use Rattle.bits.specs.Below.{all_below, updated}
use Rattle.bits.proofs.Tests.{clash, by_test, both, join, neither}
use Rattle.bits.proofs.BitLaws.{bit_within}
use Rattle.bits.proofs.Below.{updated_same, all_at, all_made, all_broken, all_found}
use Rattle.peers.specs.Peers.{waiter_kept, tags_differ}
use Rattle.peers.specs.Parts.{idle_or_waits, others_idle, each_waiting, has_tag, tag_alone, tags_alone, waiters_kept}
use Rattle.places.specs.Places.{Gives}
use Rattle.places.proofs.Passed.{bit_none, Passed, passed_none, passed_all, passed_more, not_left}
use Rattle.peers.proofs.Marks.{mark_stays}
use Rattle.peers.proofs.PeerLaws.{otherwise, counted_once, apart_made, apart_broken}

-- ---- a test of each waiting peer

module _ (waiting : ℕ) (test : ℕ → Bool) where
  pub each_made : ((q : ℕ) → bit_of waiting q ≡ true → test q ≡ true) → each_waiting waiting test ≡ true
  each_made h = all_made 16 (λ p. not (bit_of waiting p) || test p) (λ p l. go p (bit_of waiting p) refl)
    where
      go : (p : ℕ) (t : Bool) → bit_of waiting p ≡ t → (not (bit_of waiting p) || test p) ≡ true
      go p true e = rw (e, h p e)
      go p false e = rw e

  pub each_broken : (p : ℕ) → p < 16 → bit_of waiting p ≡ true → test p ≡ false → each_waiting waiting test ≡ false
  each_broken p l e f = all_broken 16 (λ p. not (bit_of waiting p) || test p) p l (rw (e, f))

  each_read : waiting < 2 ^ 16 → each_waiting waiting test ≡ true → (q : ℕ) → bit_of waiting q ≡ true → test q ≡ true
  each_read fits h q e = rw e at (all_at 16 (λ p. not (bit_of waiting p) || test p) h q (bit_within 16 waiting q fits e))

  each_found : each_waiting waiting test ≡ false → (p : ℕ) × (p < 16) × (bit_of waiting p ≡ true) × (test p ≡ false)
  each_found h =
      let (p, l, f) = all_found 16 (λ p. not (bit_of waiting p) || test p) h in
      let (waits, fails) = neither _ _ f in
      (p, l, not-false _ waits, fails)

-- ---- the definition, made and broken

-- no two of the waiting peers that are not left have one tag
abbrev pub Apart : ℕ → ℕ → List ℕ → Type 0
Apart waiting rest tags =
    (p q : ℕ) → bit_of waiting p ≡ true → bit_of waiting q ≡ true → bit_of rest p ≡ false → bit_of rest q ≡ false → (p ≡ q → ⊥) → get_or tags p 0 ≡ get_or tags q 0 → ⊥

module _ (waiting requests ticks : ℕ) (tags sent : List ℕ) where
  abbrev tag : ℕ → ℕ
  tag p = get_or tags p 0

  abbrev kept : ℕ → Bool
  kept p = waiter_kept requests ticks (tag p) (get_or sent p 0)

  abbrev all_kept : Bool
  all_kept = waiters_kept waiting requests ticks tags sent

  waiters_made : ((q : ℕ) → bit_of waiting q ≡ true → kept q ≡ true) → Apart waiting 0 tags → all_kept ≡ true
  unfolding waiters_kept
  waiters_made each apart =
      join (each_made waiting kept each)
      (all_made 16 (λ p. all_below p (tags_differ waiting tags p)) (λ p l. all_made p (tags_differ waiting tags p) (λ q m. apart_made waiting tags p q (λ hp hq same. apart p q hp hq (bit_none p) (bit_none q) (λ z. omega arith) same))))

  -- a waiting peer that is not in order
  pub waiter_broken : (p : ℕ) → p < 16 → bit_of waiting p ≡ true → kept p ≡ false → all_kept ≡ false
  unfolding waiters_kept
  waiter_broken p l e f = rw (each_broken waiting kept p l e f)

  -- two waiting peers that have one tag
  tags_broken : (p q : ℕ) → p < 16 → q < 16 → (q ≡ p → ⊥) → bit_of waiting p ≡ true → bit_of waiting q ≡ true → tag p ≡ tag q → all_kept ≡ false
  unfolding waiters_kept
  tags_broken p q lp lq other hp hq same = go (ltb q p) refl
    where
      go : (t : Bool) → ltb q p ≡ t → all_kept ≡ false
      go true d = rw (apart_broken waiting tags p q lp (ltb-true q p d) hp hq same) (and-false (each_waiting waiting kept))
      go false d = rw (apart_broken waiting tags q p lq (omega (arith, ltb-false q p d, other)) hq hp (sym same)) (and-false (each_waiting waiting kept))

  -- ---- tags that are looked for in the sixteen places, of which those of the others hold 0

  elsewhere : (p : ℕ) (t : Bool) → p < 16 → tag_alone (tag p) tags ≡ t → all_below 16 (otherwise (has_tag (tag p) tags) p) ≡ t
  unfolding tag_alone
  elsewhere p t l e = sym (counted_once 16 p (has_tag (tag p) tags) l (eq-eqb (tag p) (tag p) refl)) ∙ e

  alone_apart : waiting < 2 ^ 16 → tags_alone waiting tags ≡ true → Apart waiting 0 tags
  unfolding tags_alone
  alone_apart fits alone p q hp hq dp dq other same =
      let others = elsewhere p true (bit_within 16 waiting p fits hp) (each_read waiting (λ p. tag_alone (tag p) tags) fits alone p hp) in
      let here = all_at 16 (otherwise (has_tag (tag p) tags) p) others q (bit_within 16 waiting q fits hq) in
      eqb-false _ _ (not-true _ (rw (ne_eqb q p (λ e. other (sym e))) at here)) (sym same)

  alone_broken : others_idle waiting tags sent ≡ true → ((q : ℕ) → bit_of waiting q ≡ true → kept q ≡ true) → tags_alone waiting tags ≡ false → all_kept ≡ false
  unfolding tags_alone others_idle
  alone_broken idle each taken =
      let (p, lp, hp, many) = each_found waiting (λ p. tag_alone (tag p) tags) taken in
      let (q, lq, f) = all_found 16 (otherwise (has_tag (tag p) tags) p) (elsewhere p false lp many) in
      let (there, has) = neither _ _ f in
      let same : tag q ≡ tag p = eqb-true _ _ (not-false _ has) in
      let least : 1 ≤ tag p = leb-true _ _ (both _ _ (both _ _ (each p hp)).0).0 in
      by_test (bit_of waiting q)
      (λ t. tags_broken p q lp lq (eqb-false _ _ there) hp t (sym same))
      (λ t.
      let none : tag q ≡ 0 = eqb-true _ _ (both _ _ (rw t at (all_at 16 (idle_or_waits waiting tags sent) idle q lq))).0 in
      absurd (omega (arith, none, same, least)))

  -- ---- tags that are told apart by their remainders

  abbrev remainder : ℕ → ℕ
  remainder p = tag p % 64

  -- a peer that is not left is in order, and the remainder of its tag is marked
  pub record Marked (seen : ℕ) (q : ℕ) : Type 0 where
    pub in_order : kept q ≡ true
    pub mark : bit_of seen (remainder q) ≡ true

  -- so it is with all that are not left; and unless two of them share a remainder, no two have one tag
  pub record Seen (seen : ℕ) (shared : Bool) (rest : ℕ) : Type 0 where
    pub passed : Passed waiting rest (Marked seen)
    pub apart : shared ≡ false → Apart waiting rest tags

  pub seen_none : Seen 0 false waiting
  seen_none = record { passed = passed_none; apart = λ e p q hp hq dp dq other same. clash hp dp }

  module _ {seen rest next left : ℕ} {shared : Bool} (s : Seen seen shared rest) (given : Gives rest (Some next) left) where
    -- the next peer's tag differs from those before it, if its remainder is not marked
    next_apart : Apart waiting rest tags → bit_of seen (remainder next) ≡ false → Apart waiting left tags
    next_apart apart free p q hp hq dp dq other same =
        not_left given p dp
        (λ pn. not_left given q dq (λ qn. other (pn ∙ sym qn)) (λ g. new q hq g (sym same ∙ ap tag pn)))
        (λ g. not_left given q dq (λ qn. new p hp g (same ∙ ap tag qn)) (λ k. apart p q hp hq g k other same))
      where
        new : (q : ℕ) → bit_of waiting q ≡ true → bit_of rest q ≡ false → tag q ≡ tag next → ⊥
        new q e f same = clash (s.passed.done q e f).mark (rw same free)

    pub seen_more : (hit : Bool) (then : ℕ) → kept next ≡ true → hit ≡ bit_of seen (remainder next)
        → ((q : ℕ) → bit_of then q ≡ updated (bit_of seen) (remainder next) true q) → Seen then (shared || hit) left
    seen_more hit then k hits marks =
        record {
          passed =
              passed_more s.passed given
              (λ q h. record { in_order = h.in_order; mark = marks (remainder q) ∙ mark_stays (bit_of seen) (remainder next) (remainder q) h.mark })
              (record { in_order = k; mark = marks (remainder next) ∙ updated_same (bit_of seen) (remainder next) true });
          apart = λ e. let (before, free) = neither _ _ e in next_apart (s.apart before) (sym hits ∙ free);
        }

  -- none is left: the tags differ where no two share a remainder, and else where each is in one place only
  module _ {seen rest : ℕ} {shared : Bool} (s : Seen seen shared rest) (none : rest ≡ 0) where
    each : (q : ℕ) → bit_of waiting q ≡ true → kept q ≡ true
    each q e = (passed_all s.passed none q e).in_order

    pub seen_apart : shared ≡ false → all_kept ≡ true
    seen_apart unlike = waiters_made each (rw none at (s.apart unlike))

    pub seen_shared : waiting < 2 ^ 16 → others_idle waiting tags sent ≡ true → tags_alone waiting tags ≡ all_kept
    seen_shared fits idle = go (tags_alone waiting tags) refl
      where
        go : (t : Bool) → tags_alone waiting tags ≡ t → t ≡ all_kept
        go true e = sym (waiters_made each (alone_apart fits e))
        go false e = sym (alone_broken idle each e)
