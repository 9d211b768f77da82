-- Tests and counts of the numbers below n, as tests and counts of the items of a list.
use mathlib.Core.Path.{◌≡◌, refl, sym, ap, ◌∙◌}
use mathlib.Core.Bool.{Bool, true, ◌&&◌, and-true}
use mathlib.Core.List.{List, [], ◌∷◌, ◌++◌}
use Prim.Native.Nat.{ℕ, zero, suc, ◌<◌, ◌≤◌}
use native.Mathlib.Numerals.{add-one}
use native.Mathlib.Omega.{arith}
use lib.ListN.{length, get_or, take}
use lib.Seq.{take_all}
use denote.Param.Members.{Mut}
use Rattle.std.specs.Prelude.{Option}
use Rattle.std.specs.Fn.{Called}
use Rattle.std.specs.Iterator.{Drains}
use Rattle.std.specs.List.{FoldsTo, list_all}
use Rattle.std.proofs.lemmas.Fn.{fold_over}
use Rattle.std.proofs.lemmas.Iterator.{YieldsList}
use Rattle.std.proofs.lemmas.List.Folds.{list_all-append, list_all_more}
use Rattle.bits.specs.Below.{all_below}

-- one item more, at the end
pub listed_more : {A : Type 0} (kept : A → Bool) (xs : List A) (x : A) (t : Bool) → t ≡ (list_all kept xs && kept x) → t ≡ list_all kept (xs ++ x ∷ [])
listed_more kept xs x t e = e ∙ ap (λ (s : Bool). list_all kept xs && s) (sym (and-true (kept x))) ∙ sym (list_all-append kept xs (x ∷ []))

-- a test of the items is the test of their places
module _ {A : Type 0} (kept : A → Bool) (xs : List A) (d : A) (test : ℕ → Bool) where
  taken : (n : ℕ) → n ≤ length xs → ((p : ℕ) → p < n → kept (get_or xs p d) ≡ test p) → list_all kept (take n xs) ≡ all_below n test
  unfolding all_below
  taken zero l h = refl
  taken (suc n) l h =
      ap (λ (k : ℕ). list_all kept (take k xs)) (sym (add-one n)) ∙ list_all_more kept xs n d (omega arith)
      ∙ rw (taken n (omega arith) (λ p m. h p (omega arith)), h n (omega arith))

  pub all_listed : (n : ℕ) → length xs ≡ n → ((p : ℕ) → p < n → kept (get_or xs p d) ≡ test p) → list_all kept xs ≡ all_below n test
  all_listed n e h = ap (list_all kept) (sym (take_all n xs (omega arith))) ∙ taken n (omega arith) h

-- what a fold keeps of the items so far, it has of all
pub folded : {S A B F C : Type 0} {steps : S → Option A → S → Type 0} {v : A → B} {g : Mut F (C × (A × Unit {0})) C} {f : F} {s : S} {all : List B} {a r : C}
    (J : List B → C → Type 0)
    → (xs : List A) × (f' : F) × Drains steps s xs × FoldsTo {P = F × C} (λ p x q. Called g p.0 (p.1, (x, tt)) q.1 q.0) (f, a) xs (f', r)
    → YieldsList steps v s all
    → J [] a
    → ((ys : List B) (a : C) (x : A) (b : C) (f' : F) → J ys a → Called g f (a, (x, tt)) b f' → J (ys ++ v x ∷ []) b × (f' ≡ f))
    → J all r
folded {S} {A} {B} {F} {C} {steps} {v} {g} {f} {s} {all} {a} {r} J ran yields none step = fold_over steps v g J f step s all a r yields.runs none ran

-- a fold that tests each item
pub tested_by_fold : {S A B F : Type 0} {steps : S → Option A → S → Type 0} {v : A → B} {g : Mut F (Bool × (A × Unit {0})) Bool} {f : F} {s : S} {all : List B} {r : Bool}
    (kept : B → Bool)
    → (xs : List A) × (f' : F) × Drains steps s xs × FoldsTo {P = F × Bool} (λ p x q. Called g p.0 (p.1, (x, tt)) q.1 q.0) (f, true) xs (f', r)
    → YieldsList steps v s all
    → ((a : Bool) (x : A) (b : Bool) (f' : F) → Called g f (a, (x, tt)) b f' → (b ≡ (a && kept (v x))) × (f' ≡ f))
    → r ≡ list_all kept all
tested_by_fold {S} {A} {B} {F} {steps} {v} {g} {f} {s} {all} {r} kept ran yields step =
    fold_over steps v g (λ ys t. t ≡ list_all kept ys) f
    (λ ys a x b f' e k. let (here, same) = step a x b f' k in (listed_more kept ys (v x) b (rw (← e) here), same))
    s all true r yields.runs refl ran
