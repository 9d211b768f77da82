-- Laws of answers to lists of lines, and of the state after them.
use mathlib.Core.Path.{◌≡◌, refl, sym, ap, ◌∙◌}
use mathlib.Core.List.{List, [], ◌∷◌, ◌++◌, append_assoc}
use Prim.Native.Nat.{ℕ}
use Rattle.stream.specs.Stream.{through, answers_to, LongAlike}
use Rattle.stream.proofs.Alike.{Alike, none, same, long}

module _ {S : Type 0} (next : S → List ℕ → S) where
  -- The state after lines and more lines.
  pub through_append : (s : S) (us vs : List (List ℕ)) → through next s (us ++ vs) ≡ through next (through next s us) vs
  unfolding through
  through_append s [] vs = refl
  through_append s (u ∷ us) vs = through_append (next s u) us vs

module _ {S : Type 0} (next : S → List ℕ → S) (answer : S → List ℕ → List ℕ) where
  -- The answers to lines and more lines are those to the first and then, from the state that these leave, those to the others.
  pub answers_append : (s : S) (us vs : List (List ℕ))
      → answers_to next answer s (us ++ vs) ≡ answers_to next answer s us ++ answers_to next answer (through next s us) vs
  unfolding through answers_to
  answers_append s [] vs = refl
  answers_append s (u ∷ us) vs =
      ap (λ (o : List ℕ). answer s u ++ o) (answers_append (next s u) us vs)
      ∙ sym (append_assoc (answer s u) (answers_to next answer (next s u) us) (answers_to next answer (through next (next s u) us) vs))

module _ {S : Type 0} (next : S → List ℕ → S) (answer : S → List ℕ → List ℕ) (most : ℕ) (alike : LongAlike next answer most) where
  -- Lines that are alike leave the same state.
  pub through_alike : (s : S) {us vs : List (List ℕ)} → Alike most us vs → through next s us ≡ through next s vs
  unfolding through
  through_alike s none = refl
  through_alike s (same {a} p) = through_alike (next s a) p
  through_alike s (long {a} {b} h k p) = rw (alike s a b h k).0 (through_alike (next s b) p)

  -- Lines that are alike have the same answers.
  pub answers_alike : (s : S) {us vs : List (List ℕ)} → Alike most us vs → answers_to next answer s us ≡ answers_to next answer s vs
  unfolding answers_to
  answers_alike s none = refl
  answers_alike s (same {a} p) = rw (answers_alike (next s a) p)
  answers_alike s (long {a} {b} h k p) = let (state, bytes) = alike s a b h k in rw (state, bytes, answers_alike (next s b) p)
