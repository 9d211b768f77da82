-- Lists of lines that differ only where both lines have more than `most` bytes.
use mathlib.Core.List.{List, [], ◌∷◌, ◌++◌}
use Prim.Native.Nat.{ℕ, ◌<◌}
use lib.ListN.{length, take}

-- Line by line: the two are the same, or both are long.
pub data Alike (most : ℕ) : List (List ℕ) → List (List ℕ) → Type 0 where
  none : Alike most [] []
  same : {a : List ℕ} {us vs : List (List ℕ)} → Alike most us vs → Alike most (a ∷ us) (a ∷ vs)
  long : {a b : List ℕ} {us vs : List (List ℕ)} → most < length a → most < length b → Alike most us vs → Alike most (a ∷ us) (b ∷ vs)

module _ {most : ℕ} where
  -- Every list of lines is alike to itself.
  pub alike_refl : (us : List (List ℕ)) → Alike most us us
  alike_refl [] = none
  alike_refl (u ∷ us) = same (alike_refl us)

  -- If lines are alike to others and those are alike to third ones, the first are alike to the third.
  pub alike_trans : {us vs ws : List (List ℕ)} → Alike most us vs → Alike most vs ws → Alike most us ws
  alike_trans none q = q
  alike_trans (same p) (same q) = same (alike_trans p q)
  alike_trans (same p) (long h k q) = long h k (alike_trans p q)
  alike_trans (long h k p) (same q) = long h k (alike_trans p q)
  alike_trans (long h k p) (long i j q) = long h j (alike_trans p q)

  -- The same lines may stand before both.
  pub alike_behind : (ls : List (List ℕ)) {us vs : List (List ℕ)} → Alike most us vs → Alike most (ls ++ us) (ls ++ vs)
  alike_behind [] p = p
  alike_behind (l ∷ ls) p = same (alike_behind ls p)

  -- Lines that others begin with are alike to as many of the first lines of what is alike to those.
  pub alike_front : (us ws : List (List ℕ)) {vs : List (List ℕ)} → Alike most (us ++ ws) vs → Alike most us (take (length us) vs)
  alike_front [] ws p = none
  alike_front (u ∷ us) ws (same p) = same (alike_front us ws p)
  alike_front (u ∷ us) ws (long h k p) = long h k (alike_front us ws p)
