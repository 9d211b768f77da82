-- What was written before the input ends is the answers to the lines that are whole so far.
use mathlib.Core.Path.{◌≡◌, refl, ◌∙◌}
use mathlib.Core.Bool.{false}
use mathlib.Core.List.{List, [], ◌++◌, append-nil}
use Prim.Native.Nat.{ℕ}
use native.Mathlib.Omega.{arith}
use lib.ListN.{length, take}
use Rattle.lines.specs.Lines.{breaks, lines_of}
use Rattle.stream.specs.Stream.{through, answers_to, Step, all_got, all_written, Turns, LongAlike}
use Rattle.stream.proofs.Alike.{Alike, alike_front}
use Rattle.stream.proofs.Answering.{through_alike, answers_alike}
use Rattle.stream.proofs.Turning.{Answered, turns_answered, turns_unbroken}

-- There is no LF before anything is read.
no_break : breaks [] ≡ 0
unfolding breaks
no_break = refl

module _ {S : Type 0} (next : S → List ℕ → S) (answer : S → List ℕ → List ℕ) (most : ℕ) where
  -- The lines answered by turns, and those of what they left, are alike to the lines of all that was read.
  pub lines_so_far : {s s' : S} {left : List ℕ} (steps : List Step) (r : Answered next answer most s [] steps s' left)
      → Alike most (r.lines ++ lines_of left) (lines_of (all_got steps))
  lines_so_far {left} steps r = rw (append-nil left, append-nil (all_got steps)) at (r.all_lines [])

  -- Turns whose last one had room left leave no LF.
  pub none_left : (s : S) (steps : List Step) (s' : S) (left : List ℕ)
      → Turns next answer most s [] false steps s' left false → breaks left ≡ 0
  none_left s steps s' left h = turns_unbroken next answer most s [] false steps s' left false h (λ _. no_break) refl

  -- After turns whose last one had room left: the answers to as many lines as LFs were read, and what is left of an unfinished line; both
  -- together are alike to the lines of all that was read.
  pub record SoFar (s : S) (steps : List Step) (s' : S) (left : List ℕ) : Type 0 where
    pub lines : List (List ℕ)
    pub answers : all_written steps ≡ answers_to next answer s lines
    pub state_is : s' ≡ through next s lines
    pub all_lines : Alike most (lines ++ lines_of left) (lines_of (all_got steps))
    pub unfinished : breaks left ≡ 0
    pub count : length lines ≡ breaks (all_got steps)

  -- That holds after all such turns.
  pub so_far : (s : S) (steps : List Step) (s' : S) (left : List ℕ)
      → Turns next answer most s [] false steps s' left false → SoFar s steps s' left
  so_far s steps s' left h =
      let r = turns_answered next answer most s [] false steps s' left false h in
      let none : breaks left ≡ 0 = none_left s steps s' left h in
      record {
        lines = r.lines;
        answers = r.answers;
        state_is = r.state_is;
        all_lines = lines_so_far steps r;
        unfinished = none;
        count = omega (arith, r.count);
      }

  -- After such turns the answers to the lines that have their LF, and to no others, are written, and the state is that of those lines.
  pub whole_lines_answered : LongAlike next answer most → (s : S) (steps : List Step) (s' : S) (left : List ℕ)
      → Turns next answer most s [] false steps s' left false
      → (all_written steps ≡ answers_to next answer s (take (breaks (all_got steps)) (lines_of (all_got steps))))
      × (s' ≡ through next s (take (breaks (all_got steps)) (lines_of (all_got steps))))
  whole_lines_answered alike s steps s' left h =
      let r = so_far s steps s' left h in
      let first : Alike most r.lines (take (breaks (all_got steps)) (lines_of (all_got steps))) =
      rw r.count at (alike_front r.lines (lines_of left) r.all_lines) in
      (r.answers ∙ answers_alike next answer most alike s first, r.state_is ∙ through_alike next answer most alike s first)
