-- However the input is cut into reads, a program that goes in turns answers the lines of the input, where long lines are answered alike.
use mathlib.Core.Path.{◌≡◌, sym, ◌∙◌}
use mathlib.Core.Bool.{false}
use mathlib.Core.List.{List, [], ◌++◌}
use Prim.Native.Nat.{ℕ}
use Rattle.lines.specs.Lines.{breaks, lines_of}
use Rattle.stream.specs.Stream.{through, answers_to, Step, all_got, Ran, LongAlike, AnswersTheInput}
use Rattle.stream.proofs.Alike.{Alike}
use Rattle.stream.proofs.Answering.{through_append, through_alike, answers_append, answers_alike}
use Rattle.stream.proofs.Turning.{turns_answered}
use Rattle.stream.proofs.SoFar.{lines_so_far, none_left}
use Rattle.stream.proofs.Ending.{last_lines}

module _ {S : Type 0} (next : S → List ℕ → S) (answer : S → List ℕ → List ℕ) (most : ℕ) where
  -- A whole run, however the input was cut into reads.
  pub answers_the_input : LongAlike next answer most → (s : S) (steps : List Step) (last : List ℕ) (s' : S)
      → Ran next answer most s steps last s' → AnswersTheInput next answer most s steps last s'
  answers_the_input alike s steps last s' ran =
      let r = turns_answered next answer most s [] false steps ran.before ran.left false ran.turns in
      let all : Alike most (r.lines ++ lines_of ran.left) (lines_of (all_got steps)) = lines_so_far next answer most steps r in
      let unbroken : breaks ran.left ≡ 0 = none_left next answer most s steps ran.before ran.left ran.turns in
      let lines : ran.ended.lines ≡ lines_of ran.left = last_lines ran.left ran.ended unbroken in
      let end : last ≡ answers_to next answer (through next s r.lines) (lines_of ran.left) =
      rw (← lines, ← r.state_is) ran.ended.answers in
      let state : s' ≡ through next s (r.lines ++ lines_of ran.left) =
      rw (through_append next s r.lines (lines_of ran.left), ← lines, ← r.state_is) ran.ended.state_is in
      record {
        written =
            rw (r.answers, end) (sym (answers_append next answer s r.lines (lines_of ran.left)) ∙ answers_alike next answer most alike s all);
        state = state ∙ through_alike next answer most alike s all;
      }
