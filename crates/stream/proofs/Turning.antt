-- Turns one after the other: what they wrote is the answers to lines, and those lines and what is left make up the lines of all bytes read.
use mathlib.Core.Path.{◌≡◌, refl, ◌∙◌}
use mathlib.Core.Bool.{Bool, false}
use mathlib.Core.List.{List, [], ◌∷◌, ◌++◌, append-nil, append_assoc}
use Prim.Native.Nat.{ℕ, ◌+◌}
use native.Mathlib.Omega.{arith}
use lib.ListN.{length, length-append}
use Rattle.lines.specs.Lines.{breaks, lines_of, joined}
use Rattle.lines.proofs.LineLaws.{breaks_append}
use Rattle.stream.specs.Stream.{through, answers_to, Turn, Step, all_got, all_written, Turns}
use Rattle.stream.proofs.Alike.{Alike, alike_refl, alike_trans, alike_behind}
use Rattle.stream.proofs.Splitting.{lines_joined}
use Rattle.stream.proofs.Trimming.{trimmed_alike}
use Rattle.stream.proofs.Counting.{turn_unbroken, turn_count}
use Rattle.stream.proofs.Answering.{through_append, answers_append}
use Rattle.bits.proofs.Tests.{by_test}

module _ {S : Type 0} (next : S → List ℕ → S) (answer : S → List ℕ → List ℕ) (most : ℕ) where
  module _ {s s' : S} {bytes left o : List ℕ} {full : Bool} (t : Turn next answer most s bytes s' left o full) (m : List ℕ) where
    -- Whatever is read next: the lines of what a turn leaves are alike to those of the rest.
    left_alike : Alike most (lines_of (left ++ m)) (lines_of (t.rest ++ m))
    left_alike =
        by_test full (λ e. rw (t.more e).0 (alike_refl (lines_of (t.rest ++ m)))) λ e.
        rw (t.held e).0 (trimmed_alike most t.rest m (t.held e).1)

    -- Whatever is read next: the lines that a turn answered, and those of what it leaves, are alike to the lines of its bytes.
    turn_alike : Alike most (t.lines ++ lines_of (left ++ m)) (lines_of (bytes ++ m))
    turn_alike =
        let are : lines_of (bytes ++ m) ≡ t.lines ++ lines_of (t.rest ++ m) =
        rw (t.bytes_are, append_assoc (joined t.lines) t.rest m) (lines_joined t.lines (t.rest ++ m) t.whole) in
        rw are (alike_behind t.lines left_alike)

  -- From the bytes `left`, turns answered lines; whatever is read after them, those lines and the lines of what is left now are alike to the
  -- lines of all bytes. Every LF read ends one of the lines answered, or is left.
  pub record Answered (s : S) (left : List ℕ) (steps : List Step) (s' : S) (left' : List ℕ) : Type 0 where
    pub lines : List (List ℕ)
    pub answers : all_written steps ≡ answers_to next answer s lines
    pub state_is : s' ≡ through next s lines
    pub all_lines : (m : List ℕ) → Alike most (lines ++ lines_of (left' ++ m)) (lines_of (left ++ all_got steps ++ m))
    pub count : length lines + breaks left' ≡ breaks (left ++ all_got steps)

  -- No turn at all answers no line.
  no_turn : {s s' : S} {left left' : List ℕ} → s' ≡ s → left' ≡ left → Answered s left [] s' left'
  unfolding through answers_to
  no_turn {left} e l = record {
    lines = [];
    answers = refl;
    state_is = e;
    all_lines = λ m. rw (l, append-nil left) (alike_refl (lines_of (left ++ m)));
    count = rw (l, append-nil left) (omega arith);
  }

  -- A turn, and the turns after it.
  one_turn : {s s₁ s' : S} {left left₁ left' : List ℕ} {full₁ : Bool} (x : Step) (xs : List Step)
      → Turn next answer most s (left ++ x.got) s₁ left₁ x.wrote full₁ → Answered s₁ left₁ xs s' left'
      → Answered s left (x ∷ xs) s' left'
  one_turn {s} {left} {left₁} {left'} x xs t r = record {
    lines = t.lines ++ r.lines;
    answers = rw (answers_append next answer s t.lines r.lines, t.answers, r.answers, t.state_is);
    state_is = r.state_is ∙ rw (t.state_is, through_append next s t.lines r.lines);
    all_lines =
        λ m.
        let later : Alike most (t.lines ++ (r.lines ++ lines_of (left' ++ m))) (t.lines ++ lines_of (left₁ ++ (all_got xs ++ m))) =
        alike_behind t.lines (rw (append_assoc left₁ (all_got xs) m) at (r.all_lines m)) in
        let now : Alike most (t.lines ++ lines_of (left₁ ++ (all_got xs ++ m))) (lines_of (left ++ (x.got ++ all_got xs) ++ m)) =
        simp append_assoc (simp append_assoc at (turn_alike t (all_got xs ++ m))) in
        rw (append_assoc t.lines r.lines) (alike_trans later now);
    count =
        simp (length-append, breaks_append) (omega (arith, simp breaks_append at (turn_count t), simp breaks_append at r.count));
  }

  -- Turns, however many, answer lines.
  pub turns_answered : (s : S) (left : List ℕ) (full : Bool) (steps : List Step) (s' : S) (left' : List ℕ) (full' : Bool)
      → Turns next answer most s left full steps s' left' full' → Answered s left steps s' left'
  turns_answered s left full [] s' left' full' h = no_turn h.0 h.1
  turns_answered s left full (x ∷ xs) s' left' full' h =
      one_turn x xs h.3 (turns_answered h.0 h.1 h.2 xs s' left' full' h.4)

  -- No LF is left by turns whose last one had room left.
  pub turns_unbroken : (s : S) (left : List ℕ) (full : Bool) (steps : List Step) (s' : S) (left' : List ℕ) (full' : Bool)
      → Turns next answer most s left full steps s' left' full'
      → (full ≡ false → breaks left ≡ 0) → full' ≡ false → breaks left' ≡ 0
  turns_unbroken s left full [] s' left' full' h u e = rw h.1 (u (rw h.2 at e))
  turns_unbroken s left full (x ∷ xs) s' left' full' h u e =
      turns_unbroken h.0 h.1 h.2 xs s' left' full' h.4 (turn_unbroken h.3) e
