-- The turn at the end of the input: it answers the unfinished line, if there is one.
use mathlib.Core.Path.{◌≡◌, refl, sym, ◌∙◌}
use mathlib.Core.Bool.{Bool}
use mathlib.Core.List.{List, [], ◌∷◌, ◌++◌, append-nil}
use Prim.Native.Nat.{ℕ, ◌≤◌}
use native.Mathlib.Omega.{arith}
use lib.ListN.{length}
use lib.Seq.{take-append_seam, take-length}
use Rattle.lines.specs.Lines.{breaks, lines_of}
use Rattle.lines.proofs.LineLaws.{breaks_append}
use Rattle.stream.specs.Stream.{Turn, ending}
use Rattle.stream.proofs.Splitting.{lines_first, lines_start, lines_joined}
use Rattle.stream.proofs.Counting.{turn_breaks, rest_unbroken}

-- The LF put behind an unfinished line ends that line, and makes no further one.
lines_ending : (left : List ℕ) → breaks left ≡ 0 → lines_of (left ++ ending left) ≡ lines_of left
unfolding lines_of
lines_ending [] e = refl
lines_ending (b ∷ bs) e = lines_first (b ∷ bs) [] e ∙ rw (append-nil bs) at (sym (lines_start b bs [] e))

-- Bytes without an LF have as many lines as LFs are put behind them.
count_ending : (left : List ℕ) → breaks left ≡ 0 → length (lines_of left) ≡ breaks (ending left)
unfolding lines_of breaks
count_ending [] e = refl
count_ending (b ∷ bs) e = rw (← lines_ending (b ∷ bs) e, lines_first (b ∷ bs) [] e)

-- At most one LF is put behind what is left.
ending_most : (left : List ℕ) → breaks (ending left) ≤ 1
unfolding breaks
ending_most [] = omega arith
ending_most (b ∷ bs) = omega arith

-- A list that begins another one of its length is that one.
whole_front : (us vs ws : List (List ℕ)) → us ++ vs ≡ ws → length us ≡ length ws → us ≡ ws
whole_front us vs ws e h = sym (take-append_seam us vs) ∙ rw (e, h) (take-length ws)

module _ {S : Type 0} {next : S → List ℕ → S} {answer : S → List ℕ → List ℕ} {most : ℕ} where
  -- The lines that the last turn answers are the lines of what was left.
  pub last_lines : {s s' : S} (left : List ℕ) {left' o : List ℕ} {full : Bool}
      (t : Turn next answer most s (left ++ ending left) s' left' o full)
      → breaks left ≡ 0 → t.lines ≡ lines_of left
  last_lines left t e =
      let all : breaks (left ++ ending left) ≡ breaks (ending left) = rw (breaks_append left (ending left), e) (omega arith) in
      let none : breaks t.rest ≡ 0 = rest_unbroken t (omega (arith, ending_most left)) in
      let count : length t.lines ≡ length (lines_of left) = rw (count_ending left e) (omega (arith, turn_breaks t)) in
      let front : t.lines ++ lines_of t.rest ≡ lines_of left =
      sym (lines_joined t.lines t.rest t.whole) ∙ rw (← t.bytes_are) (lines_ending left e) in
      whole_front t.lines (lines_of t.rest) (lines_of left) front count
