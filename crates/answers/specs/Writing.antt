-- What the writer of an answer's line does.
use Rattle.std.specs.Prelude.{◌≡◌, true, List, [], ◌∷◌, ◌++◌, ℕ, ◌<◌, length}
use Rattle.writing.specs.Puts.{Puts, least_output}
use Rattle.keeper.specs.State.{counts_as_started}
use Rattle.keeper.specs.declared.Answer.{Answer}
use Rattle.keeper.specs.declared.Answer.TheVariants as A
use Rattle.keeper.specs.declared.Keeper.{Keeper}
use Rattle.answers.specs.Answers.{line_of}

-- 'each line written ends in LF' (byte 10)
abbrev pub line_end : List ℕ
line_end = 10 ∷ []

-- The bytes and an LF behind them are put where there is room, and are together no longer than the least output.
pub record PutShort (before : List ℕ) (at : ℕ) (s after : List ℕ) (next : ℕ) : Type 0 where
  pub puts : Puts before at (s ++ line_end) after next
  pub short : length s < least_output

-- The line of the answer and an LF behind it are put where there is room. Nothing is promised of a list of a keeper that does not count as started;
-- no call writes one.
pub record LinePut (a : Answer) (k : Keeper) (before : List ℕ) (at : ℕ) (after : List ℕ) (next : ℕ) : Type 0 where
  pub put : (a ≡ A.Waiting → counts_as_started k ≡ true) → PutShort before at (line_of a k) after next
