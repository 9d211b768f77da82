-- What a turn of the program does to its buffer and its output.
use Rattle.std.specs.Prelude.{◌≡◌, false, List, ℕ, ◌+◌, ◌≤◌, length, take, drop}
use Rattle.reader.specs.Reading.{longest_line}
use Rattle.stream.specs.Stream.{Turn}
use Rattle.serve.specs.Serving.{keeper_next, answer_to}
use Rattle.program.specs.declared.turn.Stream.{Stream}

-- the bytes of a buffer from one place up to another
abbrev pub between : List ℕ → ℕ → ℕ → List ℕ
between buffer from end = drop from (take end buffer)

-- The places lie within the buffer; where no whole line is left, what is held stands at the front, and is no more than a line may have and one
-- byte.
pub record InOrder (s : Stream) (buffer : List ℕ) : Type 0 where
  pub order : s.from ≤ s.end
  pub within : s.end ≤ length buffer
  pub front : s.full ≡ false → (s.from ≡ 0) × (s.end ≤ longest_line + 1)

-- A turn over the bytes that were left and `got` bytes behind them.
pub record Turned (s : Stream) (got : ℕ) (buffer out : List ℕ) (r : Stream) (buffer' out' : List ℕ) : Type 0 where
  pub turn : Turn keeper_next answer_to longest_line s.keeper (between buffer s.from (s.end + got)) r.keeper
      (between buffer' r.from r.end) (take r.filled out') r.full
  pub beyond : drop r.filled out' ≡ drop r.filled out
  pub filled : r.filled ≤ length out'
  pub in_order : InOrder r buffer'
