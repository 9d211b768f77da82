-- The laws of an array that is read number by number: what stands in it before the next number, and after the last.
use mathlib.Core.Path.{◌≡◌, refl, sym, ap, ◌∙◌, subst}
use mathlib.Core.List.{List, [], ◌∷◌, ◌++◌}
use Prim.Native.Nat.{ℕ, zero, suc, ◌+◌, ◌*◌, ◌<◌}
use native.Mathlib.Omega.{arith}
use lib.ListN.{length, set, take, length-set}
use lib.Seq.{take-suc-set, take_all}
use Rattle.std.specs.Prelude.{map}
use Rattle.std.proofs.lemmas.List.{map-append}
use Rattle.image.specs.Bytes.{number, numbers}

-- The first p of sixteen numbers were read, whose bits `of_bits` takes.
pub record Loaded {A : Type 0} (of_bits : ℕ → A) (width at p : ℕ) (image : List ℕ) (xs : List A) : Type 0 where
  pub sixteen : length xs ≡ 16
  pub sofar : take p xs ≡ map of_bits (numbers p width at image)

-- one number more, at the end
more : (p w at : ℕ) (l : List ℕ) → numbers (suc p) w at l ≡ numbers p w at l ++ number w (at + w * p) l ∷ []
unfolding numbers
more zero w at l = ap (λ (n : ℕ). number w n l ∷ []) (omega arith)
more (suc p) w at l =
    ap (λ (ns : List ℕ). number w at l ∷ ns) (more p w (at + w) l ∙ ap (λ (n : ℕ). numbers p w (at + w) l ++ number w n l ∷ []) (omega arith))

pub loaded_none : {A : Type 0} (of_bits : ℕ → A) (w at : ℕ) (l : List ℕ) (xs : List A) → length xs ≡ 16 → Loaded of_bits w at 0 l xs
unfolding numbers
loaded_none of_bits w at l xs all = record { sixteen = all; sofar = refl }

pub loaded_more : {A : Type 0} {of_bits : ℕ → A} {w at p : ℕ} {l : List ℕ} {v : A} {xs : List A} → Loaded of_bits w at p l xs → p < 16
    → v ≡ of_bits (number w (at + w * p) l) → Loaded of_bits w at (p + 1) l (set xs p v)
loaded_more {A} {of_bits} {w} {at} {p} {l} {v} {xs} h less e =
    let next : p + 1 ≡ suc p = omega arith in
    record {
      sixteen = length-set xs p v ∙ h.sixteen;
      sofar =
          rw next
          (take-suc-set xs p v (omega (arith, h.sixteen))
          ∙ rw (h.sofar, e, more p w at l) (sym (map-append of_bits (numbers p w at l) (number w (at + w * p) l ∷ []))));
    }

pub loaded_all : {A : Type 0} {of_bits : ℕ → A} {w at p : ℕ} {l : List ℕ} {xs : List A} → Loaded of_bits w at p l xs → p ≡ 16
    → xs ≡ map of_bits (numbers 16 w at l)
loaded_all {A} {of_bits} {w} {at} {p} {l} {xs} h all =
    sym (take_all 16 xs (omega (arith, h.sixteen))) ∙ subst (λ (n : ℕ). take n xs ≡ map of_bits (numbers n w at l)) all h.sofar
