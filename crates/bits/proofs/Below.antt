-- Laws of tests and counts of the numbers below n, and of a function changed at one number.
use mathlib.Core.Path.{◌≡◌, refl, sym, ap, ◌∙◌}
use mathlib.Core.Bool.{Bool, true, false, ◌&&◌, and-true}
use Prim.Native.Nat.{ℕ, zero, suc, ◌+◌, ◌<◌}
use native.Mathlib.Numerals.{add-one}
use native.Mathlib.Omega.{arith}
use borrow.Author.Tests.{eq-eqb, ne_eqb, eqb-true, eqb-false}
use lib.Dec.{eqb}
use Rattle.bits.specs.Choice.{choose}
use Rattle.bits.specs.Below.{all_below, count_below, one, updated}
use Rattle.bits.proofs.Tests.{both, clash}

-- ---- a function changed at one number

pub updated_same : {A : Type 0} (f : ℕ → A) (p : ℕ) (a : A) → updated f p a p ≡ a
unfolding updated
updated_same f p a = rw (eq-eqb p p refl)

pub updated_other : {A : Type 0} (f : ℕ → A) (p : ℕ) (a : A) (q : ℕ) → (q ≡ p → ⊥) → updated f p a q ≡ f q
unfolding updated
updated_other f p a q d = rw (ne_eqb q p d)

below : (p n : ℕ) → (p ≡ n → ⊥) → p < suc n → p < n
below p n d h = omega (arith, d)

-- ---- tests of every number

pub all_at : (n : ℕ) (test : ℕ → Bool) → all_below n test ≡ true → (p : ℕ) → p < n → test p ≡ true
unfolding all_below
all_at zero test e p h = absurd (omega arith)
all_at (suc n) test e p h = go (eqb p n) refl (λ q r. all_at n test q p r)
  where
    parts : (all_below n test ≡ true) × (test n ≡ true)
    parts = both (all_below n test) (test n) e

    go : (t : Bool) → eqb p n ≡ t → (all_below n test ≡ true → p < n → test p ≡ true) → test p ≡ true
    go true d r = ap test (eqb-true p n d) ∙ parts.1
    go false d r = r parts.0 (below p n (eqb-false p n d) h)

pub all_made : (n : ℕ) (test : ℕ → Bool) → ((p : ℕ) → p < n → test p ≡ true) → all_below n test ≡ true
unfolding all_below
all_made zero test h = refl
all_made (suc n) test h = rw (all_made n test (λ p l. h p (omega arith)), h n (omega arith))

-- a test that held of the numbers below one, and holds of that one
pub all_more : (n : ℕ) (test : ℕ → Bool) → all_below n test ≡ true → test n ≡ true → all_below (n + 1) test ≡ true
unfolding all_below
all_more n test h e = rw (add-one n, h, e)

-- where it does not hold of every number, it fails at one
pub all_found : (n : ℕ) (test : ℕ → Bool) → all_below n test ≡ false → (p : ℕ) × (p < n) × (test p ≡ false)
unfolding all_below
all_found zero test e = absurd (clash refl e)
all_found (suc n) test e = go (test n) refl e (all_found n test)
  where
    go : (t : Bool) → test n ≡ t → all_below n test && t ≡ false → (all_below n test ≡ false → (p : ℕ) × (p < n) × (test p ≡ false))
        → (p : ℕ) × (p < suc n) × (test p ≡ false)
    go false d e next = (n, omega arith, d)
    go true d e next = let (p, l, f) = next (sym (and-true (all_below n test)) ∙ e) in (p, omega arith, f)

pub all_broken : (n : ℕ) (test : ℕ → Bool) (p : ℕ) → p < n → test p ≡ false → all_below n test ≡ false
all_broken n test p h e = go (all_below n test) refl
  where
    go : (t : Bool) → all_below n test ≡ t → all_below n test ≡ false
    go true d = absurd (clash (all_at n test d p h) e)
    go false d = d

-- ---- counts

pub count_same : (n : ℕ) (f g : ℕ → Bool) → ((p : ℕ) → p < n → f p ≡ g p) → count_below n f ≡ count_below n g
unfolding count_below
count_same zero f g h = refl
count_same (suc n) f g h = rw (count_same n f g (λ p l. h p (omega arith)), h n (omega arith))

pub count_updated : (n : ℕ) (f : ℕ → Bool) (p : ℕ) (b : Bool) → p < n → count_below n (updated f p b) + one (f p) ≡ count_below n f + one b
unfolding count_below updated
count_updated zero f p b h = absurd (omega arith)
count_updated (suc n) f p b h = go (eqb n p) refl (λ l. count_updated n f p b l)
  where
    go : (t : Bool) → eqb n p ≡ t → (p < n → count_below n (updated f p b) + one (f p) ≡ count_below n f + one b)
        → count_below n (updated f p b) + one (choose t (λ _. b) (λ _. f n)) + one (f p) ≡ count_below n f + one (f n) + one b
    go true e r =
        let same : n ≡ p = eqb-true n p e in
        let others : count_below n (updated f p b) ≡ count_below n f = count_same n (updated f p b) f (λ q l. rw (ne_eqb q p (λ z. omega arith))) in
        rw (others, ap f same) (omega arith)
    go false e r = let l : p < n = below p n (λ z. eqb-false n p e (sym z)) h in omega (arith, r l)
