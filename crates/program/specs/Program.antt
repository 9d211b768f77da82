-- The program's loop, turn after turn, and what is claimed of all that it writes.
use Rattle.std.specs.Prelude.{◌≡◌, false, List, [], ◌++◌, map, ℕ, take, drop}
use Rattle.keeper.specs.State.{fresh}
use Rattle.keeper.specs.declared.Keeper.{Keeper}
use Rattle.writing.specs.Puts.{least_output}
use Rattle.history.specs.Log.{Input}
use Rattle.history.specs.Demand3.{keeper_through, Demand3}
use Rattle.lines.specs.Lines.{breaks, lines_of}
use Rattle.serve.specs.Serving.{answers}
use Rattle.program.specs.Turning.{Turned}
use Rattle.program.specs.Reading.{Values, Read}
use Rattle.program.specs.declared.turn.Stream.{Stream}

-- The program at its start: a fresh keeper, and nothing read.
abbrev pub start : Stream
start = record { keeper = fresh; from = 0; end = 0; filled = 0; full = false }

-- the bytes that came by a read
abbrev pub came : Stream → Values → List ℕ → List ℕ
came s g buffer = take g.count (drop s.end buffer)

-- The program after some turns, with its buffer, all bytes that came, and all that it had to write. Each turn is a read and what `turn`
-- makes of it; nothing is known of the bytes that a read brings.
pub data Program : Stream → List ℕ → List ℕ → List ℕ → Type 0 where
  begun : {buffer : List ℕ} → Program start buffer [] []
  turned : {s r : Stream} {g : Values} {buffer buffer₁ buffer₂ out out' input written : List ℕ} → Program s buffer input written
      → Read s buffer g buffer₁ → g.last ≡ false → Turned s g.count buffer₁ out r buffer₂ out'
      → Program r buffer₂ (input ++ came s g buffer₁) (written ++ take r.filled out')

-- A line with the output that the program gives it.
abbrev pub input_of : List ℕ → Input
input_of l = record { line = l; room = least_output }

-- 'splits at LF (a last line without LF counts if not empty) and writes one line for each. Nothing precedes or follows': what its turns had
-- to write is the answers to the lines of the input, in turn, and the keeper is that of demand 3's run of them.
pub record AnswersTheLines (input written : List ℕ) (k : Keeper) : Type 0 where
  pub answers : written ≡ answers fresh (lines_of input)
  pub keeper_is : k ≡ keeper_through fresh (map input_of (lines_of input))
  pub demand : Demand3 (map input_of (lines_of input))

-- Before the end, where no whole line is left, as when a read fails: what was written is the answers to the lines that an LF has ended, in turn,
-- and nothing was answered of an unfinished one.
pub record AnswersTheWholeLines (input written : List ℕ) (k : Keeper) : Type 0 where
  pub answers : written ≡ answers fresh (take (breaks input) (lines_of input))
  pub keeper_is : k ≡ keeper_through fresh (map input_of (take (breaks input) (lines_of input)))
