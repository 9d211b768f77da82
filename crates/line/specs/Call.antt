-- What a call with a line does: a keeper, a line of any bytes and a lent output of any length; back come the number, the keeper and the
-- output. Document 01, 'Causes of a refusal': 'tried in the order 10, 1, 2, ..'.
use Rattle.std.specs.Prelude.{◌≡◌, Bool, false, List, [], ◌∷◌, ◌++◌, ℕ, ◌+◌, ◌≤◌, ltb, eqb, length, drop, Ok, Err}
use Rattle.bits.specs.Choice.{choose}
use Rattle.command.specs.Limits as R
use Rattle.command.specs.Limits.{Reading}
use Rattle.refusal.specs.Refusal.{number}
use Rattle.reader.specs.Reading.{reading_of}
use Rattle.command.specs.Causes.{Cause, cause, date_causes}
use Rattle.keeper.specs.State.{State, state_of}
use Rattle.keeper.specs.Refusals.{keeper_causes}
use Rattle.keeper.specs.Apply.{outcome_of, apply, number_of}
use Rattle.keeper.specs.declared.Keeper.{Keeper}
use Rattle.keeper.specs.declared.Outcome.{Outcome}
use Rattle.keeper.specs.declared.Answer.{Answer}
use Rattle.keeper.specs.declared.Answer.TheVariants as A
use Rattle.writing.specs.Puts.{least_output}
use Rattle.answers.specs.Answers.{line_of}

-- What is answered to a line that was read: a command does what it does, and what is none is refused with the number of its reading.
abbrev pub by_reading : Reading → Keeper → Outcome
by_reading (Ok c) k = apply k c
by_reading (Err r) k = outcome_of (A.Refused (number r)) k

unfoldable pub answered : Keeper → List ℕ → Outcome
answered k line = by_reading (reading_of line) k

-- The number returned, and the keeper handed back, with an output of the length.
unfoldable pub number_after : Keeper → List ℕ → ℕ → ℕ
number_after k line room = choose (ltb room least_output) (λ _. 10) (λ _. number_of (answered k line).answer)

unfoldable pub keeper_after : Keeper → List ℕ → ℕ → Keeper
keeper_after k line room = choose (ltb room least_output) (λ _. k) (λ _. (answered k line).keeper)

-- The line of the answer, without its LF.
abbrev pub answer_line : Keeper → List ℕ → List ℕ
answer_line k line = line_of (answered k line).answer (answered k line).keeper

-- An output with a line at its front: 'each line written ends in LF' (byte 10), and 'output beyond the line written is never touched'.
abbrev pub over : List ℕ → List ℕ → List ℕ
over s before = s ++ 10 ∷ drop (length s + 1) before

-- The output after the call, every byte of it, and the length written.
unfoldable pub output_after : Keeper → List ℕ → List ℕ → List ℕ
output_after k line before = choose (ltb (length before) least_output) (λ _. before) (λ _. over (answer_line k line) before)

unfoldable pub length_after : Keeper → List ℕ → ℕ → ℕ
length_after k line room = choose (ltb room least_output) (λ _. 0) (λ _. length (answer_line k line) + 1)

-- 'The first cause that holds is given, tried in the order 10, 1, 2', then those of dates, 'both after 2 and before 3', and then those that look
-- at the keeper.
abbrev pub is_no_shape : Reading → Bool
is_no_shape (Ok c) = false
is_no_shape (Err r) = eqb (number r) 1

abbrev pub is_outside : Reading → Bool
is_outside (Ok c) = false
is_outside (Err r) = eqb (number r) 2

abbrev pub command_causes : State → Reading → List Cause
command_causes s (Ok c) = date_causes (R.form_of c) ++ keeper_causes s c
command_causes s (Err r) = []

unfoldable pub call_causes : Keeper → List ℕ → ℕ → List Cause
call_causes k line room =
    cause 10 (ltb room least_output)
    ∷ cause 1 (is_no_shape (reading_of line))
    ∷ cause 2 (is_outside (reading_of line))
    ∷ command_causes (state_of k) (reading_of line)

-- An answer's line was written at the front of an output. n is the length written, for which the least output has room.
pub record Wrote (a : Answer) (k : Keeper) (before after : List ℕ) (n : ℕ) : Type 0 where
  pub output : after ≡ over (line_of a k) before
  pub written : n ≡ length (line_of a k) + 1
  pub short : n ≤ least_output

-- The whole call: the number returned, the keeper handed back, the output after it and the length written, each as a function of the keeper, the
-- line and the output before it.
pub record Called (k : Keeper) (line before : List ℕ) (number : ℕ) (next : Keeper) (after : List ℕ) (n : ℕ) : Type 0 where
  pub number_is : number ≡ number_after k line (length before)
  pub keeper_is : next ≡ keeper_after k line (length before)
  pub output_is : after ≡ output_after k line before
  pub length_is : n ≡ length_after k line (length before)
  pub short : n ≤ least_output
