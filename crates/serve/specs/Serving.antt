-- What the program does with the lines of a buffer: document 01, 'A whole run'.
use Rattle.std.specs.Prelude.{◌≡◌, Bool, true, false, List, [], ◌∷◌, ◌++◌, ℕ, ◌+◌, ◌<◌, length, drop}
use Rattle.keeper.specs.declared.Keeper.{Keeper}
use Rattle.writing.specs.Puts.{least_output}
use Rattle.line.specs.Call.{keeper_after, answer_line}
use Rattle.lines.specs.Lines.{lf, breaks, joined, Unbroken}
use Rattle.stream.specs.Stream.{through, answers_to}

-- The keeper after a line, which is always given enough output.
abbrev pub keeper_next : Keeper → List ℕ → Keeper
keeper_next k l = keeper_after k l least_output

-- The answer to a line, with its LF, and the answers to lines in turn.
abbrev pub answer_to : Keeper → List ℕ → List ℕ
answer_to k l = answer_line k l ++ lf ∷ []

abbrev pub answers : Keeper → List (List ℕ) → List ℕ
answers = answers_to keeper_next answer_to

-- Lines at the front of the bytes were answered in turn, each ended by its LF, and `rest` follows the last of them. The answers stand at the
-- front of the output, and every byte behind them is as it was.
pub record Answered (k : Keeper) (bytes before : List ℕ) (next : Keeper) (rest : List ℕ) (filled : ℕ) (after : List ℕ) : Type 0 where
  pub lines : List (List ℕ)
  pub bytes_are : bytes ≡ joined lines ++ rest
  pub whole : Unbroken lines
  pub keeper_is : next ≡ through keeper_next k lines
  pub output : after ≡ answers k lines ++ drop (length (answers k lines)) before
  pub filled_is : filled ≡ length (answers k lines)

-- Every whole line was answered, or (`full`) a whole line is left and the output has no room for one more answer.
pub record LinesAnswered
    (k : Keeper) (bytes before : List ℕ) (next : Keeper) (rest : List ℕ) (filled : ℕ) (full : Bool) (after : List ℕ) : Type 0 where
  pub answered : Answered k bytes before next rest filled after
  pub more : full ≡ true → (0 < breaks rest) × (length before < filled + least_output)
  pub done : full ≡ false → breaks rest ≡ 0
