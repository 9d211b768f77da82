-- Laws of the first cause that holds.
use mathlib.Core.Path.{◌≡◌, refl, sym, ap, ◌∙◌}
use mathlib.Core.Bool.{Bool, true, false, not, ◌&&◌}
use mathlib.Core.List.{List, [], ◌∷◌, ◌++◌}
use Prim.Native.Nat.{ℕ, suc, ◌≤◌}
use native.Mathlib.Omega.{arith}
use borrow.Author.Tests.{eqb-false, leb-true, not-true}
use lib.Dec.{eqb, leb}
use Rattle.bits.proofs.Tests.{both, by_test}
use Rattle.command.specs.Causes.{Cause, first, most_number}

-- no cause of the list holds
abbrev pub NoneHolds : List Cause → Type 0
NoneHolds [] = Unit {0}
NoneHolds (c ∷ cs) = (c.holds ≡ false) × NoneHolds cs

-- the cause with the number n holds, and none before it does
pub record FirstCause (cs : List Cause) (n : ℕ) : Type 0 where
  pub before : List Cause
  pub this : Cause
  pub after : List Cause
  pub parts : cs ≡ before ++ this ∷ after
  pub number : this.number ≡ n
  pub holds : this.holds ≡ true
  pub earlier : NoneHolds before

-- ---- what `first` finds

first_this : (c : Cause) (cs : List Cause) → c.holds ≡ true → first (c ∷ cs) ≡ c.number
unfolding first
first_this c cs e = rw e

first_next : (c : Cause) (cs : List Cause) → c.holds ≡ false → first (c ∷ cs) ≡ first cs
unfolding first
first_next c cs e = rw e

-- past causes that do not hold
first_past : (before rest : List Cause) → NoneHolds before → first (before ++ rest) ≡ first rest
first_past [] rest none = refl
first_past (c ∷ cs) rest none = first_next c (cs ++ rest) none.0 ∙ first_past cs rest none.1

pub first_made : {cs : List Cause} {n : ℕ} → FirstCause cs n → first cs ≡ n
first_made f = ap first f.parts ∙ first_past f.before (f.this ∷ f.after) f.earlier ∙ first_this f.this f.after f.holds ∙ f.number

pub first_found : (cs : List Cause) (n : ℕ) → first cs ≡ suc n → FirstCause cs (suc n)
unfolding first
first_found [] n e = absurd (omega arith)
first_found (c ∷ cs) n e = go c.holds refl (first_found cs n)
  where
    go : (t : Bool) → c.holds ≡ t → (first cs ≡ suc n → FirstCause cs (suc n)) → FirstCause (c ∷ cs) (suc n)
    go true h next =
        record { before = []; this = c; after = cs; parts = refl; number = sym (first_this c cs h) ∙ e; holds = h; earlier = tt }
    go false h next =
        let f = next (sym (first_next c cs h) ∙ e) in
        record {
          before = c ∷ f.before;
          this = f.this;
          after = f.after;
          parts = ap (λ (r : List Cause). c ∷ r) f.parts;
          number = f.number;
          holds = f.holds;
          earlier = (h, f.earlier);
        }

-- ---- and when it finds none

-- no cause has the number 0
unfoldable pub numbered : List Cause → Bool
numbered [] = true
numbered (c ∷ cs) = not (eqb c.number 0) && numbered cs

pub first_none : (cs : List Cause) → numbered cs ≡ true → first cs ≡ 0 → NoneHolds cs
unfolding numbered
first_none [] d e = tt
first_none (c ∷ cs) d e = go c.holds refl (first_none cs)
  where
    parts : (not (eqb c.number 0) ≡ true) × (numbered cs ≡ true)
    parts = both (not (eqb c.number 0)) (numbered cs) d

    go : (t : Bool) → c.holds ≡ t → (numbered cs ≡ true → first cs ≡ 0 → NoneHolds cs) → NoneHolds (c ∷ cs)
    go true h next = absurd (eqb-false c.number 0 (not-true _ parts.0) (sym (first_this c cs h) ∙ e))
    go false h next = (h, next parts.1 (sym (first_next c cs h) ∙ e))

pub none_first : (cs : List Cause) → NoneHolds cs → first cs ≡ 0
unfolding first
none_first [] none = refl
none_first (c ∷ cs) none = first_next c cs none.0 ∙ none_first cs none.1

-- ---- causes one list after the other

-- a cause of the front is found first
pub first_front : (front rest : List Cause) → (first front ≡ 0 → ⊥) → first (front ++ rest) ≡ first front
unfolding first
first_front [] rest some = absurd (some refl)
first_front (c ∷ cs) rest some = by_test c.holds (λ h. rw h) (λ h. rw h (first_front cs rest (rw h at some)))

-- where none of the front holds, it is one of the rest
pub first_rest : (front rest : List Cause) → numbered front ≡ true → first front ≡ 0 → first (front ++ rest) ≡ first rest
first_rest front rest n e = first_past front rest (first_none front n e)

-- ---- no number is above the greatest

abbrev pub small : List Cause → Bool
small [] = true
small (c ∷ cs) = leb c.number most_number && small cs

pub first_most : (cs : List Cause) → small cs ≡ true → first cs ≤ most_number
unfolding first
first_most [] h = omega arith
first_most (c ∷ cs) h =
    let parts = both _ _ h in
    by_test c.holds (λ t. rw t (leb-true _ _ parts.0)) (λ t. rw t (first_most cs parts.1))
