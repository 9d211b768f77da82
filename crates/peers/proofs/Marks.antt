-- Numbers marked by the bits of a mask.
use mathlib.Core.Path.{◌≡◌, refl, sym, ap, ◌∙◌}
use mathlib.Core.Bool.{Bool, true, false, ◌||◌, or-true, or-false}
use Prim.Native.Nat.{ℕ, ◌/◌, ◌%◌, ◌^◌}
use native.Mathlib.Nat.{zero-add}
use native.Mathlib.Omega.{arith}
use borrow.Author.Tests.{eq-eqb, ne_eqb, eqb-true, eqb-false}
use lib.Bits.{bit_or, or_step, or_shr}
use lib.Dec.{eqb}
use Rattle.bits.specs.Bits.{bit_of}
use Rattle.bits.specs.Below.{updated}
use Rattle.bits.specs.Choice.{choose}
use Rattle.bits.proofs.BitLaws.{bit_set}
use Rattle.places.proofs.Passed.{bit_none}

-- a bit of two masks joined is set in one of them
bit_or_lem : (a b p : ℕ) → bit_of (bit_or a b) p ≡ (bit_of a p || bit_of b p)
unfolding bit_of
bit_or_lem a b p = rw (or_shr a b p) (first (a / 2 ^ p) (b / 2 ^ p) (eqb (a / 2 ^ p % 2) 1) (eqb (b / 2 ^ p % 2) 1) refl refl)
  where
    first : (x y : ℕ) (s t : Bool) → eqb (x % 2) 1 ≡ s → eqb (y % 2) 1 ≡ t → eqb (bit_or x y % 2) 1 ≡ (s || t)
    first x y true t d e = eq-eqb (bit_or x y % 2) 1 (omega (arith, or_step x y, eqb-true (x % 2) 1 d))
    first x y false true d e = eq-eqb (bit_or x y % 2) 1 (omega (arith, or_step x y, eqb-true (y % 2) 1 e))
    first x y false false d e = ne_eqb (bit_or x y % 2) 1 (λ h. omega (arith, or_step x y, eqb-false (x % 2) 1 d, eqb-false (y % 2) 1 e))

-- joined with the mask of one number, a mask marks that number too
pub bit_marked : (m p q : ℕ) → bit_of (bit_or m (2 ^ p)) q ≡ updated (bit_of m) p true q
unfolding updated
bit_marked m p q = bit_or_lem m (2 ^ p) q ∙ rw (single, bit_none q) (go (eqb q p))
  where
    single : bit_of (2 ^ p) q ≡ updated (bit_of 0) p true q
    single = ap (λ (n : ℕ). bit_of n q) (sym (zero-add (2 ^ p))) ∙ bit_set 0 p (bit_none p) q

    go : (t : Bool) → (bit_of m q || choose t (λ _. true) (λ _. false)) ≡ choose t (λ _. true) (λ _. bit_of m q)
    go true = or-true (bit_of m q)
    go false = or-false (bit_of m q)

-- what was marked stays so
pub mark_stays : (f : ℕ → Bool) (p q : ℕ) → f q ≡ true → updated f p true q ≡ true
unfolding updated
mark_stays f p q e = rw e (go (eqb q p))
  where
    go : (t : Bool) → choose t (λ _. true) (λ _. true) ≡ true
    go true = refl
    go false = refl
