-- What the library promises of commands written back, for all numbers, lines and buffers.
use Rattle.std.specs.Prelude.{◌≡◌, List, ℕ, ◌+◌, ◌*◌}
use Rattle.form_lines.specs.Written.{WriteResult}

-- What is returned is the number, as its lowest byte, and the length above it; the buffer is as the writer leaves it.
pub record Returns (w : WriteResult) (r : ℕ) (out' : List ℕ) : Type 0 where
  pub returned : r ≡ w.number + 256 * w.length
  pub output : out' ≡ w.buffer
