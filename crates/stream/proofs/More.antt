-- One turn more.
use mathlib.Core.Path.{◌≡◌, refl}
use mathlib.Core.Bool.{Bool}
use mathlib.Core.List.{List, [], ◌∷◌, ◌++◌, append_assoc, append-nil}
use Prim.Native.Nat.{ℕ}
use Rattle.stream.specs.Stream.{Step, all_got, all_written, Turn, Turns}

pub got_more : (xs : List Step) (x : Step) → all_got (xs ++ x ∷ []) ≡ all_got xs ++ x.got
got_more [] x = append-nil x.got
got_more (y ∷ ys) x = rw (got_more ys x, append_assoc)

pub written_more : (xs : List Step) (x : Step) → all_written (xs ++ x ∷ []) ≡ all_written xs ++ x.wrote
written_more [] x = append-nil x.wrote
written_more (y ∷ ys) x = rw (written_more ys x, append_assoc)

module _ {S : Type 0} (next : S → List ℕ → S) (answer : S → List ℕ → List ℕ) (most : ℕ) where
  pub turns_more : (s : S) (left : List ℕ) (full : Bool) (xs : List Step) (x : Step) (s₁ : S) (left₁ : List ℕ) (full₁ : Bool) {s₂ : S} {left₂ : List ℕ} {full₂ : Bool}
      → Turns next answer most s left full xs s₁ left₁ full₁ → Turn next answer most s₁ (left₁ ++ x.got) s₂ left₂ x.wrote full₂
      → Turns next answer most s left full (xs ++ x ∷ []) s₂ left₂ full₂
  turns_more s left full [] x s₁ left₁ full₁ {s₂} {left₂} {full₂} ts t = (s₂, left₂, full₂, rw (ts.0, ts.1) at t, (refl, refl, refl))
  turns_more s left full (y ∷ ys) x s₁ left₁ full₁ ts t =
      (ts.0, ts.1, ts.2, ts.3, turns_more ts.0 ts.1 ts.2 ys x s₁ left₁ full₁ ts.4 t)
