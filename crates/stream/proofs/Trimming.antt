-- To hold only the first `most` bytes and one more of an unfinished line changes no line of up to `most` bytes.
use mathlib.Core.Path.{◌≡◌}
use mathlib.Core.List.{List, [], ◌∷◌, ◌++◌}
use Prim.Native.Nat.{ℕ, suc, ◌<◌}
use native.Mathlib.Omega.{arith}
use native.Mathlib.Decide.{dec_le}
use lib.ListN.{length, take, length-append, length-take}
use lib.Seq.{take_all}
use Rattle.lines.specs.Lines.{breaks, lines_of}
use Rattle.stream.proofs.Alike.{Alike, none, long, alike_refl}
use Rattle.stream.proofs.Splitting.{start_with, lines_start, take_unbroken}

module _ (most : ℕ) where
  -- A line that begins with more than `most` bytes has more than `most` bytes.
  longer : (a l : List ℕ) → most < length a → most < length (a ++ l)
  longer a l h = rw length-append (omega arith)

  -- Lines that begin with different bytes, more than `most` of both, are alike where all else is the same.
  start_alike : (a b : List ℕ) (ls : List (List ℕ)) → most < length a → most < length b → Alike most (start_with a ls) (start_with b ls)
  start_alike a b [] h k = long h k none
  start_alike a b (l ∷ ls) h k = long (longer a l h) (longer b l k) (alike_refl ls)

  -- Of an unfinished line, `most` bytes and one more are enough: whatever follows, the lines are alike.
  pub trimmed_alike : (r m : List ℕ) → breaks r ≡ 0 → Alike most (lines_of (take (suc most) r ++ m)) (lines_of (r ++ m))
  trimmed_alike [] m e = alike_refl (lines_of m)
  trimmed_alike (b ∷ bs) m e =
      elim (dec_le (length bs) most) [
        | yes h ↦ rw (take_all most bs) (alike_refl (lines_of (b ∷ bs ++ m)))
        | no h ↦
            let long_left : most < suc (length (take most bs)) = rw length-take (omega arith) in
            rw (lines_start b bs m e, lines_start b (take most bs) m (take_unbroken (suc most) (b ∷ bs) e))
            (start_alike (b ∷ take most bs) (b ∷ bs) (lines_of m) long_left (omega arith))
      ]
