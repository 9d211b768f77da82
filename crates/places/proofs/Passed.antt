-- A loop over the places of a mask: what is left of the mask, and what holds of the places that were given.
use mathlib.Core.Path.{◌≡◌, sym, ap, ◌∙◌, subst}
use mathlib.Core.Bool.{true, false}
use Prim.Native.Nat.{ℕ, ◌<◌}
use native.Mathlib.Omega.{arith}
use borrow.Author.Tests.{eqb-true, eqb-false, ltb-true, ltb-false}
use lib.Dec.{eqb, ltb}
use Rattle.std.specs.Prelude.{Some}
use Rattle.bits.specs.Bits.{bit_of}
use Rattle.bits.specs.Below.{updated}
use Rattle.bits.proofs.Tests.{clash, by_test}
use Rattle.bits.proofs.BitLaws.{bit_beyond, bit_cleared}
use Rattle.bits.proofs.Below.{updated_same, updated_other}
use Rattle.places.specs.Places.{Gives}

-- no bit of an empty mask is set
pub bit_none : (p : ℕ) → bit_of 0 p ≡ false
bit_none p = bit_beyond 0 0 p (omega arith) (omega arith)

-- ---- a place p is given, the lowest of those that were left

module _ {rest p left : ℕ} (given : Gives rest (Some p) left) where
  after_is : (q : ℕ) → bit_of left q ≡ updated (bit_of rest) p false q
  after_is q = ap (λ (m : ℕ). bit_of m q) given.1 ∙ bit_cleared rest p given.0.set q

  after_other : (q : ℕ) → (q ≡ p → ⊥) → bit_of left q ≡ bit_of rest q
  after_other q d = after_is q ∙ updated_other (bit_of rest) p false q d

  -- a place that is left afterwards is another, and was left before
  pub after_left : (q : ℕ) → bit_of left q ≡ true → (q ≡ p → ⊥) × (bit_of rest q ≡ true)
  after_left q e =
      let here : bit_of left p ≡ false = after_is p ∙ updated_same (bit_of rest) p false in
      let other : q ≡ p → ⊥ = (λ same. clash e (ap (bit_of left) same ∙ here)) in
      (other, sym (after_other q other) ∙ e)

  -- a place that is not left afterwards is the one given, or was not left before
  pub not_left : {A : Type 0} (q : ℕ) → bit_of left q ≡ false → (q ≡ p → A) → (bit_of rest q ≡ false → A) → A
  not_left q f here before =
      by_test (eqb q p) (λ d. here (eqb-true q p d)) (λ d. before (sym (after_other q (eqb-false q p d)) ∙ f))

  -- the places rise: all that are given later are above
  pub rising : (q : ℕ) → bit_of left q ≡ true → p < q
  rising q e =
      let (other, before) = after_left q e in
      by_test (ltb q p) (λ t. absurd (clash before (given.0.none_below q (ltb-true q p t)))) (λ t. omega (arith, ltb-false q p t, other))

-- ---- what holds of the places that were given

-- what is left is part of the mask, and P holds of the places of the mask that are not left
pub record Passed (mask rest : ℕ) (P : ℕ → Type 0) : Type 0 where
  pub among : (q : ℕ) → bit_of rest q ≡ true → bit_of mask q ≡ true
  pub done : (q : ℕ) → bit_of mask q ≡ true → bit_of rest q ≡ false → P q

pub passed_none : {mask : ℕ} {P : ℕ → Type 0} → Passed mask mask P
passed_none = record { among = λ q e. e; done = λ q e f. absurd (clash e f) }

pub passed_all : {mask rest : ℕ} {P : ℕ → Type 0} → Passed mask rest P → rest ≡ 0 → (q : ℕ) → bit_of mask q ≡ true → P q
passed_all s none q e = s.done q e (rw none (bit_none q))

module _ {mask rest p left : ℕ} {P : ℕ → Type 0} (s : Passed mask rest P) (given : Gives rest (Some p) left) where
  pub next_among : bit_of mask p ≡ true
  next_among = s.among p given.0.set

  pub passed_more : {R : ℕ → Type 0} → ((q : ℕ) → P q → R q) → R p → Passed mask left R
  passed_more {R} still h =
      record {
        among = λ q e. s.among q (after_left given q e).1;
        done = λ q e f. not_left given q f (λ same. subst R (sym same) h) (λ g. still q (s.done q e g));
      }
