-- Laws of LFs among bytes, and of the first of them.
use mathlib.Core.Path.{◌≡◌, refl, sym, ap}
use mathlib.Core.Bool.{Bool, not, cond}
use mathlib.Core.List.{List, [], ◌∷◌, ◌++◌, append_assoc}
use Prim.Native.Nat.{ℕ, zero, suc, ◌+◌, ◌*◌, ◌≤◌, ◌<◌}
use native.Mathlib.Omega.{arith}
use native.Mathlib.Numerals.{add-one}
use borrow.Author.Tests.{eq-eqb, ne_eqb, eqb-true, ltb-false}
use lib.Dec.{eqb, ltb}
use lib.ListN.{length, take, drop, get_or, length-drop, drop_of_length-le}
use lib.Seq.{take_all, drop-cons, drop-drop}
use Rattle.std.specs.Prelude.{Option, Some, None}
use Rattle.std.specs.Option.{unwrap_or}
use Rattle.std.specs.Simd.{first_chunks}
use Rattle.std.specs.List.{list_all, position_or_len}
use Rattle.std.proofs.lemmas.List.Sums.{prefix_len-le-length}
use Rattle.bits.proofs.Tests.{by_test}
use Rattle.lines.specs.Lines.{lf, breaks, line_length, joined, Unbroken, SameEnd}

pub breaks_append : (a b : List ℕ) → breaks (a ++ b) ≡ breaks a + breaks b
unfolding breaks
breaks_append [] b = omega arith
breaks_append (x ∷ xs) b =
    by_test (eqb x lf)
    (λ e. rw (e, breaks_append xs b) (omega arith))
    (λ e. rw (e, breaks_append xs b))

-- each line with its LF has one
pub breaks_joined : (ls : List (List ℕ)) → Unbroken ls → breaks (joined ls) ≡ length ls
unfolding joined breaks
breaks_joined [] u = refl
breaks_joined (l ∷ ls) u = rw (breaks_append l (lf ∷ joined ls), u.0, breaks_joined ls u.1) (omega arith)

pub joined_append : (us vs : List (List ℕ)) → joined (us ++ vs) ≡ joined us ++ joined vs
unfolding joined
joined_append [] vs = refl
joined_append (l ∷ ls) vs = rw (joined_append ls vs, append_assoc)

pub unbroken_append : (us vs : List (List ℕ)) → Unbroken us → Unbroken vs → Unbroken (us ++ vs)
unbroken_append [] vs u v = v
unbroken_append (l ∷ ls) vs u v = (u.0, unbroken_append ls vs u.1 v)

-- ---- the first LF

-- past bytes without an LF
pub line_past : (n : ℕ) (s : List ℕ) → n ≤ length s → breaks (take n s) ≡ 0 → line_length s ≡ n + line_length (drop n s)
unfolding breaks line_length
line_past zero s h e = omega arith
line_past (suc n) [] h e = absurd (omega arith)
line_past (suc n) (b ∷ s) h e =
    by_test (eqb b lf)
    (λ t. absurd (let k = rw t at e in omega arith))
    (λ t. let k : breaks (take n s) ≡ 0 = rw t at e in rw (t, line_past n s (omega arith) k) (omega arith))

-- the bytes before it hold none
pub line_unbroken : (s : List ℕ) → breaks (take (line_length s) s) ≡ 0
unfolding line_length breaks
line_unbroken [] = refl
line_unbroken (b ∷ s) = by_test (eqb b lf) (λ t. rw t) (λ t. rw (t, t) (line_unbroken s))

-- past so many bytes from a place on
pub line_along : (n : ℕ) (s : List ℕ) (i : ℕ) → i + n ≤ length s → breaks (take n (drop i s)) ≡ 0
    → i + line_length (drop i s) ≡ i + n + line_length (drop (i + n) s)
line_along n s i h none =
    let few : n ≤ length (drop i s) = simp length-drop (omega arith) in
    rw (line_past n (drop i s) few none, drop-drop n i s) (omega arith)

-- at a place: an LF, another byte, and the end
pub line_here : (s : List ℕ) (i : ℕ) → i < length s → get_or s i 0 ≡ lf → line_length (drop i s) ≡ 0
unfolding line_length
line_here s i h e = rw (drop-cons s i 0 h, eq-eqb _ _ e)

pub line_next : (s : List ℕ) (i : ℕ) → i < length s → (get_or s i 0 ≡ lf → ⊥) → line_length (drop i s) ≡ suc (line_length (drop (i + 1) s))
unfolding line_length
line_next s i h e = rw (drop-cons s i 0 h, ne_eqb _ _ e, add-one i)

pub line_none : (s : List ℕ) (i : ℕ) → length s ≤ i → line_length (drop i s) ≡ 0
unfolding line_length
line_none s i h = rw (drop_of_length-le s h)

-- an LF ends the line: the bytes before it, the LF, and the bytes behind it
pub line_whole : (s : List ℕ) → line_length s < length s → s ≡ take (line_length s) s ++ lf ∷ drop (suc (line_length s)) s
unfolding line_length
line_whole [] h = absurd (omega arith)
line_whole (b ∷ s) h =
    by_test (eqb b lf)
    (λ t. rw t (ap (λ (x : ℕ). x ∷ s) (eqb-true b lf t)))
    (λ t.
    let k : line_length s < length s = let g = rw t at h in omega arith in
    rw t (ap (λ (l : List ℕ). b ∷ l) (line_whole s k)))

pub whole_breaks : (s : List ℕ) → line_length s < length s → 0 < breaks s
unfolding line_length breaks
whole_breaks [] h = absurd (omega arith)
whole_breaks (b ∷ s) h =
    by_test (eqb b lf)
    (λ t. rw t (omega arith))
    (λ t. let k : line_length s < length s = let g = rw t at h in omega arith in rw t (whole_breaks s k))

-- no LF: all bytes stand before one
pub open_breaks : (s : List ℕ) → length s ≤ line_length s → breaks s ≡ 0
open_breaks s h =
    let all : take (line_length s) s ≡ s = take_all (line_length s) s h in
    rw all at (line_unbroken s)

-- ---- bytes and blocks in turn

-- no byte is an LF
pub unbroken_listed : (s : List ℕ) → list_all (λ b. not (eqb b lf)) s ≡ eqb (breaks s) 0
unfolding breaks
unbroken_listed [] = refl
unbroken_listed (b ∷ s) = by_test (eqb b lf) (λ t. rw t (sym (ne_eqb (suc (breaks s)) 0 (λ z. omega arith)))) (λ t. rw (t, unbroken_listed s))

-- the place of the first byte that is one
pub line_position : (s : List ℕ) → position_or_len (λ b. eqb b lf) s ≡ line_length s
unfolding line_length
line_position [] = refl
line_position (b ∷ s) = by_test (eqb b lf) (λ t. rw t) (λ t. rw (t, line_position s) (omega arith))

-- the first item that passes a test, or their number where none does
pub found_or_all : {A : Type 0} (test : A → Bool) (xs : List A) (r : Option ℕ)
    → r ≡ cond (ltb (position_or_len test xs) (length xs)) (Some (position_or_len test xs)) None → unwrap_or r (length xs) ≡ position_or_len test xs
found_or_all test xs r e =
    by_test (ltb (position_or_len test xs) (length xs))
    (λ t. rw (e, t))
    (λ t. rw (e, t) (omega (arith, ltb-false _ _ t, prefix_len-le-length (λ x. not (test x)) xs)))

-- a block that holds an LF
abbrev pub broken : List ℕ → Bool
broken block = not (eqb (breaks block) 0)

-- the first LF stands so many bytes on, or behind them
abbrev pub Past : List ℕ → ℕ → Type 0
Past s n = (n ≤ length s) × (line_length s ≡ n + line_length (drop n s))

past_none : (n : ℕ) (s : List ℕ) → Past s (n * 0)
past_none n s = let none : n * 0 ≡ 0 = omega arith in rw none (omega arith, omega arith)

past_one : (n p : ℕ) (s : List ℕ) → n ≤ length s → breaks (take n s) ≡ 0 → Past (drop n s) (n * p) → Past s (n * (1 + p))
past_one n p s h e behind =
    let more : n * (1 + p) ≡ n + n * p = omega arith in
    rw more (omega (arith, behind.0, length-drop n s), omega (arith, line_past n s h e, rw drop-drop at behind.1))

-- past the blocks that hold none
pub blocks_past : (n k : ℕ) (s : List ℕ) → n * k ≤ length s → Past s (n * position_or_len broken (first_chunks n k s))
blocks_past n zero s h = past_none n s
blocks_past n (suc k) s h =
    by_test (eqb (breaks (take n s)) 0)
    (λ t. rw t (past_one n _ s (omega arith) (eqb-true _ _ t) (blocks_past n k (drop n s) (simp length-drop (omega arith)))))
    (λ t. rw t (past_none n s))

pub same_past : (s : List ℕ) (at n : ℕ) → at ≤ length s → Past (drop at s) n → SameEnd s at (at + n)
same_past s at n h past =
    record {
      within = omega (arith, past.0, length-drop at s);
      same = omega (arith, rw drop-drop at past.1);
    }
