-- The tests of the peers that the code makes: of those that do not wait, of one tag among all, and of two tags; and the definition in parts.
use mathlib.Core.Path.{◌≡◌, refl, sym, ap, ◌∙◌}
use mathlib.Core.Bool.{Bool, true, false, not, ◌&&◌, ◌||◌, and-false, and-true, and_assoc}
use mathlib.Core.List.{List, [], ◌∷◌, ◌++◌}
use Prim.Native.Nat.{ℕ, zero, suc, ◌+◌, ◌<◌, ◌≤◌}
use native.Mathlib.Nat.{le_trans, add-zero}
use native.Mathlib.Omega.{arith}
use borrow.Author.Tests.{eqb-true, eqb-false, eq-eqb, ne_eqb, not-true}
use lib.Bits.{bit_or, or_add_and, and_le_l, and_le_r}
use lib.Dec.{eqb}
use lib.ListN.{length, get_or}
use Rattle.std.specs.List.{list_all, zip}
use Rattle.std.proofs.lemmas.Slice.Zip.{length-zip, get_or-zip}
use Rattle.bits.proofs.Tests.{by_test}
use Rattle.peers.specs.Peers.{waiter_kept, idle_kept, tags_differ, peers_kept}
use Rattle.peers.specs.Parts.{idle_or_waits, others_idle, each_waiting, waiters_kept}
use Rattle.bits.specs.Bits.{bit_of}
use Rattle.bits.specs.Below.{all_below, count_below}
use Rattle.bits.proofs.Below.{all_broken}
use Rattle.bits.proofs.Listed.{listed_more, all_listed}
use Rattle.places.proofs.Passed.{bit_none}

-- both numbers are 0 where none of their bits is set
pub bits_idle : (tag sent : ℕ) → eqb (bit_or tag sent) 0 ≡ idle_kept tag sent
bits_idle tag sent = go (eqb (bit_or tag sent) 0) refl
  where
    not_both : eqb (bit_or tag sent) 0 ≡ false → (s t : Bool) → eqb tag 0 ≡ s → eqb sent 0 ≡ t → false ≡ (s && t)
    not_both e false t d f = refl
    not_both e true false d f = refl
    not_both e true true d f =
        let no_tag : tag ≡ 0 = eqb-true tag 0 d in
        let no_sent : sent ≡ 0 = eqb-true sent 0 f in
        absurd (eqb-false (bit_or tag sent) 0 e (omega (arith, or_add_and tag sent)))

    go : (t : Bool) → eqb (bit_or tag sent) 0 ≡ t → t ≡ idle_kept tag sent
    go true e =
        let none : bit_or tag sent ≡ 0 = eqb-true _ _ e in
        let no_tag : tag ≡ 0 = omega (arith, or_add_and tag sent, and_le_r tag sent) in
        let no_sent : sent ≡ 0 = omega (arith, or_add_and tag sent, and_le_l tag sent) in
        rw (no_tag, no_sent)
    go false e = not_both e (eqb tag 0) (eqb sent 0) refl refl

-- one peer's numbers as a pair, and every peer's as a list of pairs
abbrev pub pair_idle : ℕ × ℕ → Bool
pair_idle p = idle_kept p.0 p.1

pub idle_more : (ys : List (ℕ × ℕ)) (held tag sent : ℕ) → eqb held 0 ≡ list_all pair_idle ys
    → eqb (bit_or (bit_or held tag) sent) 0 ≡ list_all pair_idle (ys ++ (tag, sent) ∷ [])
idle_more ys held tag sent e =
    listed_more pair_idle ys (tag, sent) _
    (bits_idle (bit_or held tag) sent ∙ ap (λ (t : Bool). t && eqb sent 0) (bits_idle held tag) ∙ and_assoc (eqb held 0) (eqb tag 0) (eqb sent 0)
    ∙ ap (λ (t : Bool). t && idle_kept tag sent) e)

pub idle_listed : (tags sent : List ℕ) → length tags ≡ 16 → length sent ≡ 16 → list_all pair_idle (zip tags sent) ≡ others_idle 0 tags sent
unfolding others_idle
idle_listed tags sent t s =
    all_listed pair_idle (zip tags sent) (0, 0) (idle_or_waits 0 tags sent) 16 (length-zip tags sent ∙ omega (arith, t, s))
    (λ p h. ap pair_idle (get_or-zip tags sent p (0, 0) (omega (arith, t, h)) (omega (arith, s, h))) ∙ sym (rw (bit_none p)))

-- ---- a test that holds of one number alone

abbrev pub otherwise : (ℕ → Bool) → ℕ → ℕ → Bool
otherwise test p q = eqb q p || not (test q)

-- of none below n, if none is counted
none_counted : (n p : ℕ) (test : ℕ → Bool) → n ≤ p → eqb (count_below n test + 1) 1 ≡ all_below n (otherwise test p)
unfolding count_below all_below
none_counted zero p test h = refl
none_counted (suc n) p test h = go (test n) refl (none_counted n p test (omega arith))
  where
    here : eqb n p ≡ false
    here = ne_eqb n p (λ e. absurd (omega (arith, e, h)))

    go : (t : Bool) → test n ≡ t → eqb (count_below n test + 1) 1 ≡ all_below n (otherwise test p) → eqb (count_below (suc n) test + 1) 1 ≡ all_below (suc n) (otherwise test p)
    go true e ih = rw (e, here) (ne_eqb (count_below n test + 1 + 1) 1 (λ d. absurd (omega (arith, d))) ∙ sym (and-false (all_below n (otherwise test p))))
    go false e ih = rw (e, here, add-zero) (ih ∙ sym (and-true (all_below n (otherwise test p))))

-- p is one of those that are counted
some_counted : (n p : ℕ) (test : ℕ → Bool) → p < n → test p ≡ true → 1 ≤ count_below n test
unfolding count_below
some_counted zero p test l h = absurd (omega arith)
some_counted (suc n) p test l h = by_test (eqb p n) (λ e. rw (sym (eqb-true p n e), h) (omega arith)) (λ e. le_trans (some_counted n p test (omega (arith, eqb-false p n e, l)) h) (omega arith))

pub counted_once : (n p : ℕ) (test : ℕ → Bool) → p < n → test p ≡ true → eqb (count_below n test) 1 ≡ all_below n (otherwise test p)
unfolding count_below all_below
counted_once zero p test l h = absurd (omega arith)
counted_once (suc n) p test l h = by_test (eqb p n) at_last (λ e. before_last e (λ less. counted_once n p test less h))
  where
    at_last : eqb p n ≡ true → eqb (count_below (suc n) test) 1 ≡ all_below (suc n) (otherwise test p)
    at_last e =
        let same : p ≡ n = eqb-true p n e in
        rw (sym same, h, eq-eqb p p refl) (none_counted p p test (omega arith) ∙ sym (and-true (all_below p (otherwise test p))))

    before_last : eqb p n ≡ false → (p < n → eqb (count_below n test) 1 ≡ all_below n (otherwise test p)) → eqb (count_below (suc n) test) 1 ≡ all_below (suc n) (otherwise test p)
    before_last e ih =
        let less : p < n = omega (arith, eqb-false p n e, l) in
        by_test (test n)
        (λ t. rw (t, ne_eqb n p (λ d. absurd (omega (arith, d, less)))) (ne_eqb (count_below n test + 1) 1 (λ d. absurd (omega (arith, d, some_counted n p test less h))) ∙ sym (and-false (all_below n (otherwise test p)))))
        (λ t. rw (t, ne_eqb n p (λ d. absurd (omega (arith, d, less))), add-zero) (ih less ∙ sym (and-true (all_below n (otherwise test p)))))

-- ---- the tags of a mask's peers

module _ (mask : ℕ) (tags : List ℕ) where
  module _ (p q : ℕ) where
    pub apart_read : tags_differ mask tags p q ≡ true → bit_of mask p ≡ true → bit_of mask q ≡ true → get_or tags p 0 ≡ get_or tags q 0 → ⊥
    apart_read e hp hq same = eqb-false (get_or tags p 0) (get_or tags q 0) (not-true _ (rw (hp, hq) at e)) same

    pub apart_made : (bit_of mask p ≡ true → bit_of mask q ≡ true → get_or tags p 0 ≡ get_or tags q 0 → ⊥) → tags_differ mask tags p q ≡ true
    apart_made h = go (bit_of mask p) (bit_of mask q) refl refl
      where
        go : (s t : Bool) → bit_of mask p ≡ s → bit_of mask q ≡ t → not (s && t && eqb (get_or tags p 0) (get_or tags q 0)) ≡ true
        go true true d e = rw (ne_eqb (get_or tags p 0) (get_or tags q 0) (h d e))
        go true false d e = refl
        go false t d e = refl

    -- two that have one tag
    pub apart_broken : p < 16 → q < p → bit_of mask p ≡ true → bit_of mask q ≡ true → get_or tags p 0 ≡ get_or tags q 0 → all_below 16 (λ n. all_below n (tags_differ mask tags n)) ≡ false
    apart_broken l m hp hq same =
        all_broken 16 (λ n. all_below n (tags_differ mask tags n)) p l (all_broken p (tags_differ mask tags p) q m (rw (hp, hq, eq-eqb (get_or tags p 0) (get_or tags q 0) same)))

-- ---- the definition, in the two parts that the code tests: the peers that do not wait, and those that do

-- a test by cases of every number: of those in the one case, and of those in the other
by_cases : (n : ℕ) (b x y : ℕ → Bool) → all_below n (λ p. (b p && x p) || (not (b p) && y p)) ≡ (all_below n (λ p. b p || y p) && all_below n (λ p. not (b p) || x p))
unfolding all_below
by_cases zero b x y = refl
by_cases (suc n) b x y = rw (by_cases n b x y) (step (all_below n (λ p. b p || y p)) (all_below n (λ p. not (b p) || x p)) (b n) (x n) (y n))
  where
    step : (s t b x y : Bool) → ((s && t) && ((b && x) || (not b && y))) ≡ ((s && (b || y)) && (t && (not b || x)))
    step false t b x y = refl
    step true false true x y = refl
    step true false false x false = refl
    step true false false x true = refl
    step true true true false y = refl
    step true true true true y = refl
    step true true false x false = refl
    step true true false x true = refl

pub peers_in_parts : (waiting requests ticks : ℕ) (tags sent : List ℕ)
    → peers_kept waiting requests ticks tags sent ≡ (others_idle waiting tags sent && waiters_kept waiting requests ticks tags sent)
unfolding peers_kept others_idle waiters_kept
peers_in_parts waiting requests ticks tags sent =
    rw (by_cases 16 (bit_of waiting) (λ p. waiter_kept requests ticks (get_or tags p 0) (get_or sent p 0)) (λ p. idle_kept (get_or tags p 0) (get_or sent p 0)))
    (and_assoc (others_idle waiting tags sent) (each_waiting waiting (λ p. waiter_kept requests ticks (get_or tags p 0) (get_or sent p 0))) _)
