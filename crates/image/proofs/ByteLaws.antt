-- Laws of numbers as bytes: a number in a part of the bytes, and bytes put one run after the other.
use mathlib.Core.Path.{◌≡◌, refl, sym, ap, ◌∙◌}
use mathlib.Core.List.{List, [], ◌∷◌, ◌++◌, append_assoc}
use Prim.Native.Nat.{ℕ, zero, suc, ◌+◌, ◌≤◌}
use native.Mathlib.Omega.{arith}
use lib.ListN.{length, set, take, drop}
use lib.Seq.{get_or-take, get_or-drop, drop-drop, sets, sets-eq}
use Rattle.image.specs.Bytes.{number, stored}

-- ---- a number of a part of the bytes, and bytes in the place of a part

number_run : (w i at n : ℕ) (l : List ℕ) → i + w ≤ n → number w i (take n (drop at l)) ≡ number w (at + i) l
unfolding number
number_run zero i at n l h = refl
number_run (suc w) i at n l h =
    let next : at + (i + 1) ≡ at + i + 1 = omega arith in
    rw (get_or-take n (drop at l) i 0 (omega arith), get_or-drop at l i 0, number_run w (i + 1) at n l (omega arith), next)

pub number_part : (w at n : ℕ) (l : List ℕ) → w ≤ n → number w 0 (take n (drop at l)) ≡ number w at l
number_part w at n l h =
    let here : at + 0 ≡ at = omega arith in
    number_run w 0 at n l (omega arith) ∙ ap (λ (i : ℕ). number w i l) here

-- ---- runs of bytes put one after the other

pub stored_more : (l : List ℕ) (at : ℕ) (s t : List ℕ) → stored (stored l at s) (at + length s) t ≡ stored l at (s ++ t)
unfolding stored
stored_more l at [] t = ap (λ (n : ℕ). stored l n t) (omega arith)
stored_more l at (b ∷ s) t =
    ap (λ (n : ℕ). stored (stored (set l at b) (at + 1) s) n t) (omega arith) ∙ stored_more (set l at b) (at + 1) s t

stored_sets : (l : List ℕ) (at : ℕ) (s : List ℕ) → stored l at s ≡ sets l at s
unfolding stored
stored_sets l at [] = refl
stored_sets l at (b ∷ s) = ap (λ (n : ℕ). stored (set l at b) n s) (omega arith) ∙ stored_sets (set l at b) (suc at) s

pub stored_part : (l : List ℕ) (at : ℕ) (s : List ℕ) → at + length s ≤ length l → stored l at s ≡ take at l ++ (s ++ drop (at + length s) l)
stored_part l at s h = stored_sets l at s ∙ sets-eq s l at h ∙ append_assoc (take at l) s (drop (at + length s) l)

-- in the place of a part of w bytes
pub stored_as : (l : List ℕ) (at w n : ℕ) (s t : List ℕ) → n ≡ w → length s ≡ w → t ≡ s → at + w ≤ length l
    → take at l ++ (t ++ drop n (drop at l)) ≡ stored l at s
stored_as l at w n s t width long same room =
    let past : at + w ≡ at + length s = omega (arith, long) in
    rw (width, same, drop-drop w at l, past) (sym (stored_part l at s (omega (arith, long))))
