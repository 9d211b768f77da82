-- Laws of `starts_with` and `word_at`: a word stands at a place exactly when the line from there on is the word and some rest. By recursion over the word.
use Rattle.std.proofs.Common.{◌≡◌, ℕ, ◌+◌, Bool, true, false, ◌&&◌, inl, inr, List, [], ◌∷◌, ◌++◌, length, take, drop, Option, Some, None, unwrap_or, refl, sym, ap, ◌∙◌, arith, eqb, eq-eqb, eqb-true, drop-drop, drop_at, drop_of_length-le}
use denote.Ref.{Bor}
use Rattle.std.specs.Cmp.Lexicographic.{pointwise}
use Rattle.std.specs.Slice.{IsGetRangeResult}
use Rattle.std.proofs.lemmas.List.{take_rest}
use Rattle.text.specs.Words.{starts_with, word_at}
use Rattle.bits.specs.Choice.{choose}

both_true : (p q : Bool) → (p && q) ≡ true → (p ≡ true) × (q ≡ true)
both_true true q h = (refl, h)
both_true false q h = (h, cc)

pub starts_more : (w rest : List ℕ) → starts_with w (w ++ rest) ≡ true
unfolding starts_with
starts_more [] rest = refl
starts_more (b ∷ w) rest = rw (eq-eqb b b refl) (starts_more w rest)

pub starts_rest : (w l : List ℕ) → starts_with w l ≡ true → l ≡ w ++ drop (length w) l
unfolding starts_with
starts_rest [] l h = refl
starts_rest (b ∷ w) [] h = cc
starts_rest (b ∷ w) (c ∷ l) h =
    let p = both_true (eqb b c) (starts_with w l) h in
    cc (eqb-true b c p.0, starts_rest w l p.1)

-- the library's test of a slice's first elements is `starts_with`
pub starts_pointwise : (w l : List ℕ) → pointwise eqb w (take (length w) l) ≡ starts_with w l
unfolding starts_with
starts_pointwise [] l = refl
starts_pointwise (b ∷ w) [] = refl
starts_pointwise (b ∷ w) (c ∷ l) = ap (λ (t : Bool). eqb b c && t) (starts_pointwise w l)

-- the line from a place on, and no bytes past its end
pub line_from : (line : List ℕ) (at : ℕ) (r : Option (Bor (List ℕ))) (past : Bor (List ℕ)) → past.now ≡ [] → IsGetRangeResult line at (length line) r
    → (unwrap_or r past).now ≡ drop at line
line_from line at None past e (inl outside, q) = e ∙ sym (drop_of_length-le line (omega arith))
line_from line at None past e (inr longer, q) = absurd (omega arith)
line_from line at (Some rest) past e (p, q) = p.2 ∙ take_rest line at

-- the test of what the line has from the place on
pub word_tested : (line : List ℕ) (at : ℕ) (w rest : List ℕ) (t : Bool) → rest ≡ drop at line → t ≡ pointwise eqb w (take (length w) rest) → starts_with w (drop at line) ≡ t
word_tested line at w rest t e h = rw (← e) (sym (h ∙ starts_pointwise w rest))

-- the answer is by the one test of `word_at`
pub word_here : (line : List ℕ) (at : ℕ) (w : List ℕ) → starts_with w (drop at line) ≡ true → word_at line at w ≡ Some (at + length w)
unfolding word_at
word_here line at w e = rw e

pub word_other : (line : List ℕ) (at : ℕ) (w : List ℕ) → starts_with w (drop at line) ≡ false → word_at line at w ≡ None
unfolding word_at
word_other line at w e = rw e

pub word_found : (line : List ℕ) (at : ℕ) (w rest : List ℕ) → drop at line ≡ w ++ rest → word_at line at w ≡ Some (at + length w)
word_found line at w rest e = word_here line at w (rw e (starts_more w rest))

pub found_word : (line : List ℕ) (at : ℕ) (w : List ℕ) (next : ℕ) → word_at line at w ≡ Some next → (next ≡ at + length w) × (drop at line ≡ w ++ drop next line)
unfolding word_at
found_word line at w next e = go (starts_with w (drop at line)) refl e
  where
    go : (t : Bool) → starts_with w (drop at line) ≡ t → choose t (λ _. Some (at + length w)) (λ _. None) ≡ Some next
        → (next ≡ at + length w) × (drop at line ≡ w ++ drop next line)
    go true s h =
        let n : next ≡ at + length w = cc in
        (n, starts_rest w (drop at line) s ∙ ap (λ (r : List ℕ). w ++ r) (drop-drop (length w) at line ∙ ap (λ (k : ℕ). drop k line) (sym n)))
    go false s h = absurd (let z : ◌≡◌ {A = ℕ} 0 1 = cc in omega arith)

-- the line from the place after the bytes
pub rest_is : (line : List ℕ) (at : ℕ) (s rest : List ℕ) → drop at line ≡ s ++ rest → drop (at + length s) line ≡ rest
rest_is line at s rest e = sym (drop-drop (length s) at line) ∙ ap (λ (x : List ℕ). drop (length s) x) e ∙ drop_at s rest (length s) refl
