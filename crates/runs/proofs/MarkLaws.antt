-- Laws of marked lines.
use mathlib.Core.Path.{◌≡◌, refl}
use mathlib.Core.Bool.{true, false}
use mathlib.Core.List.{List, [], ◌∷◌}
use Prim.Native.Nat.{ℕ, suc, ◌+◌, ◌≤◌, ◌<◌}
use native.Mathlib.Omega.{arith}
use Rattle.std.specs.Prelude.{Option, Some, None}
use Rattle.std.specs.Option.{option_eq}
use Rattle.std.specs.Slice.{IsItemAt}
use Rattle.std.proofs.Common.{Bor, sym, ap, ◌∙◌}
use lib.Dec.{eqb}
use lib.ListN.{length, drop, get_or, drop_of_length-le}
use lib.Seq.{drop-cons, drop-drop}
use Rattle.bits.specs.Choice.{choose}
use Rattle.lines.specs.Lines.{lf, line_length}
use Rattle.bits.proofs.Tests.{by_test}
use Rattle.runs.specs.Marks.{mark, marked, line_size, mark_size, run_size}

-- at a place, and past the end
pub marked_here : (s : List ℕ) (i : ℕ) → i < length s → marked (drop i s) ≡ eqb (get_or s i 0) mark
unfolding marked
marked_here s i h = rw (drop-cons s i 0 h)

pub marked_none : (s : List ℕ) (i : ℕ) → length s ≤ i → marked (drop i s) ≡ false
unfolding marked
marked_none s i h = rw (drop_of_length-le s h)

-- the byte that is lent from a place, if there is one, against the mark
pub marked_at : (s : List ℕ) (i : ℕ) (byte : Option (Bor ℕ)) (m : Bor ℕ) → m.now ≡ mark → IsItemAt s i byte
    → option_eq (λ x y. eqb x.now y.now) byte (Some m) ≡ marked (drop i s)
marked_at s i None m e h = sym (marked_none s i h.3)
marked_at s i (Some x) m e h =
    ap (λ n. eqb n m.now) (h.4 (omega arith) 0) ∙ ap (λ n. eqb (get_or s i 0) n) e ∙ sym (marked_here s i h.3.0)

-- a line that an LF ends, and one that none ends
pub whole_size : (s : List ℕ) → line_length s < length s → line_size s ≡ suc (line_length s)
unfolding line_length line_size
whole_size [] h = absurd (omega arith)
whole_size (b ∷ s) h =
    by_test (eqb b lf)
    (λ t. rw t)
    (λ t. let k : line_length s < length s = let g = rw t at h in omega arith in rw (t, whole_size s k))

pub open_size : (s : List ℕ) → length s ≤ line_length s → line_size s ≡ line_length s
unfolding line_length line_size
open_size [] h = refl
open_size (b ∷ s) h =
    by_test (eqb b lf)
    (λ t. absurd (let g = rw t at h in omega arith))
    (λ t. let k : length s ≤ line_length s = let g = rw t at h in omega arith in rw (t, open_size s k))

-- a line has a byte where there is one, and lies within the bytes
pub size_some : (s : List ℕ) → 0 < length s → 0 < line_size s
unfolding line_size
size_some [] h = absurd (omega arith)
size_some (b ∷ s) h = by_test (eqb b lf) (λ t. rw t (omega arith)) (λ t. rw t (omega arith))

pub size_most : (s : List ℕ) → line_size s ≤ length s
unfolding line_size
size_most [] = omega arith
size_most (b ∷ s) = by_test (eqb b lf) (λ t. rw t (omega arith)) (λ t. rw t (omega (arith, size_most s)))

-- how many bytes stand before the first marked line
abbrev pub before_mark : List ℕ → ℕ
before_mark s = choose (marked s) (λ _. 0) (λ _. run_size s)

-- a run is its first line and what stands before the next mark
pub run_line : (s : List ℕ) → run_size s ≡ line_size s + before_mark (drop (line_size s) s)
unfolding run_size line_size marked
run_line [] = refl
run_line (b ∷ s) =
    by_test (eqb b lf)
    (λ t. rw t (omega arith))
    (λ t. rw (t, run_line s) (omega arith))

-- the same of a run, and of its mark
pub run_some : (s : List ℕ) → 0 < length s → 0 < run_size s
run_some s h = omega (arith, run_line s, size_some s h)

pub run_most : (s : List ℕ) → run_size s ≤ length s
unfolding run_size
run_most [] = omega arith
run_most (b ∷ s) =
    by_test (eqb b lf)
    (λ t.
    by_test (marked s)
    (λ m. rw (t, m) (omega arith))
    (λ m. rw (t, m) (omega (arith, run_most s))))
    (λ t. rw t (omega (arith, run_most s)))

pub mark_most : (s : List ℕ) → mark_size s ≤ length s
mark_most s = by_test (marked s) (λ t. rw t (size_most s)) (λ t. rw t (omega arith))

-- where the line that begins at a place ends at another
pub line_behind : (s : List ℕ) (i n : ℕ) → n ≡ i + line_size (drop i s) → i + run_size (drop i s) ≡ n + before_mark (drop n s)
line_behind s i n e = rw (e, run_line (drop i s), drop-drop (line_size (drop i s)) i s) (omega arith)

-- at a marked line, at another, and past the end
pub before_here : (s : List ℕ) → marked s ≡ true → before_mark s ≡ 0
before_here s e = rw e

pub before_other : (s : List ℕ) → marked s ≡ false → before_mark s ≡ run_size s
before_other s e = rw e

pub before_none : (s : List ℕ) (i : ℕ) → length s ≤ i → before_mark (drop i s) ≡ 0
unfolding run_size marked
before_none s i h = rw (drop_of_length-le s h)
