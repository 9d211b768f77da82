-- Laws of splitting bytes at LFs into lines.
use mathlib.Core.Path.{◌≡◌, refl}
use mathlib.Core.Bool.{false}
use mathlib.Core.List.{List, [], ◌∷◌, ◌++◌, append_assoc}
use Prim.Native.Nat.{ℕ, ◌+◌}
use native.Mathlib.Omega.{arith}
use lib.Dec.{eqb}
use lib.ListN.{take, drop, take-append-drop}
use Rattle.lines.specs.Lines.{lf, breaks, begun, lines_of, joined, Unbroken}
use Rattle.lines.proofs.LineLaws.{breaks_append}
use Rattle.bits.proofs.Tests.{by_test}

-- Of bytes without an LF, the first is no LF, and the others have none.
first_unbroken : (b : ℕ) (bs : List ℕ) → breaks (b ∷ bs) ≡ 0 → (eqb b lf ≡ false) × (breaks bs ≡ 0)
unfolding breaks
first_unbroken b bs e = by_test (eqb b lf) (λ t. absurd (let k = rw t at e in omega arith)) (λ t. (t, rw t at e))

-- The first bytes of bytes without an LF have none.
pub take_unbroken : (n : ℕ) (bs : List ℕ) → breaks bs ≡ 0 → breaks (take n bs) ≡ 0
take_unbroken n bs e =
    let k : breaks (take n bs) + breaks (drop n bs) ≡ 0 = rw (← breaks_append (take n bs) (drop n bs), take-append-drop n bs) e in
    omega arith

-- Bytes without an LF, and an LF behind them, are a line.
pub lines_first : (l rest : List ℕ) → breaks l ≡ 0 → lines_of (l ++ lf ∷ rest) ≡ l ∷ lines_of rest
unfolding lines_of
lines_first [] rest e = refl
lines_first (b ∷ bs) rest e =
    let u = first_unbroken b bs e in
    rw (u.0, lines_first bs rest u.1)

-- Whole lines at the front are split off.
pub lines_joined : (ls : List (List ℕ)) (rest : List ℕ) → Unbroken ls → lines_of (joined ls ++ rest) ≡ ls ++ lines_of rest
unfolding joined
lines_joined [] rest u = refl
lines_joined (l ∷ ls) rest u = rw (append_assoc l (lf ∷ joined ls) rest, lines_first l (joined ls ++ rest) u.0, lines_joined ls rest u.1)

-- Bytes before the first of some lines are bytes of that line.
abbrev pub start_with : List ℕ → List (List ℕ) → List (List ℕ)
start_with r [] = r ∷ []
start_with r (l ∷ ls) = (r ++ l) ∷ ls

-- A byte before such bytes is one of them.
begun_start : (b : ℕ) (r : List ℕ) (ls : List (List ℕ)) → begun b (start_with r ls) ≡ start_with (b ∷ r) ls
begun_start b r [] = refl
begun_start b r (l ∷ ls) = refl

-- One byte before the first of some lines.
begun_one : (b : ℕ) (ls : List (List ℕ)) → begun b ls ≡ start_with (b ∷ []) ls
begun_one b [] = refl
begun_one b (l ∷ ls) = refl

-- Bytes without an LF, one at least, begin the first line.
pub lines_start : (b : ℕ) (bs m : List ℕ) → breaks (b ∷ bs) ≡ 0 → lines_of (b ∷ bs ++ m) ≡ start_with (b ∷ bs) (lines_of m)
unfolding lines_of
lines_start b [] m e = rw (first_unbroken b [] e).0 (begun_one b (lines_of m))
lines_start b (c ∷ cs) m e =
    let u = first_unbroken b (c ∷ cs) e in
    rw (u.0, lines_start c cs m u.1) (begun_start b (c ∷ cs) (lines_of m))
