-- What comes behind the bytes that are held: where they stand, and what stays. Which bytes a read brings can be said only where those of the
-- reader are known.
use Rattle.std.specs.Prelude.{◌≡◌, Bool, true, false, List, ◌++◌, ℕ, ◌+◌, ◌-◌, ◌≤◌, ◌<◌, min, eqb, length, take, drop, Result, Ok, Err}
use Rattle.std.specs.declared.option.Option.{Option}
use Rattle.std.specs.Io.KnownBytes.{Keeps, Consumes, IsAtEnd}
use Rattle.stream.specs.Stream.{ending}
use Rattle.program.specs.declared.turn.Stream.{Stream}
use Rattle.program.specs.declared.read.Got.{Got}

-- An LF stands behind a line that is not whole; nothing where nothing is held.
pub record LineEnded (buffer : List ℕ) (held : ℕ) (buffer' : List ℕ) (n : ℕ) : Type 0 where
  pub size : length buffer' ≡ length buffer
  pub kept : take held buffer' ≡ take held buffer
  pub count : n ≡ length (ending (take held buffer))
  pub bytes : take (held + n) buffer' ≡ take held buffer ++ ending (take held buffer)

-- A read failed; it failed, or met the end of the input.
abbrev pub is_failed : {E : Type 0} → Result ℕ E → Bool
is_failed (Ok n) = false
is_failed (Err e) = true

abbrev pub is_last : {E : Type 0} → Result ℕ E → Bool
is_last (Ok n) = eqb n 0
is_last (Err e) = true

-- What a read brought, as values: how many bytes came, whether they are the last, and whether it failed. One that failed brought none, and is the
-- last.
pub record Values : Type 0 where
  pub count : ℕ
  pub last : Bool
  pub failed : Bool

abbrev pub values : {E : Type 0} → Result Got E → Values
values (Ok g) = record { count = g.count; last = g.last; failed = false }
values (Err e) = record { count = 0; last = true; failed = true }

-- What a read brought, by what it returned: a failure, the end of the input if it is 0, else so many bytes, as far as there is room for them.
-- The end is an LF behind a line that is not whole.
pub record Brought {E : Type 0} (moved : Result ℕ E) (buffer : List ℕ) (held : ℕ) (g : Values) (buffer' : List ℕ) : Type 0 where
  pub failed_is : g.failed ≡ is_failed moved
  pub last_is : g.last ≡ is_last moved
  pub failure : is_failed moved ≡ true → (g.count ≡ 0) × (buffer' ≡ buffer)
  pub end : moved ≡ Ok 0 → LineEnded buffer held buffer' g.count
  pub bytes : (n : ℕ) → moved ≡ Ok n → 0 < n → (g.count ≡ min n (length buffer - held)) × (buffer' ≡ buffer)

-- The bytes that are left stay, and what came stands behind them, within the buffer. Nothing comes where a whole line is left, and nothing by a
-- read that failed, which is the last. The end of the input is an LF behind a line that is not whole.
pub record Read (s : Stream) (buffer : List ℕ) (g : Values) (buffer' : List ℕ) : Type 0 where
  pub size : length buffer' ≡ length buffer
  pub kept : take s.end buffer' ≡ take s.end buffer
  pub within : s.end + g.count ≤ length buffer
  pub failure : g.failed ≡ true → (g.last ≡ true) × (g.count ≡ 0)
  pub waits : s.full ≡ true → (g.count ≡ 0) × (g.last ≡ false) × (g.failed ≡ false)
  pub ended : g.last ≡ true → g.failed ≡ false → take (s.end + g.count) buffer' ≡ take s.end buffer ++ ending (take s.end buffer)

-- What a reader had left before and after, where its bytes are known: those that came were the next ones; a read that failed took none, and the
-- end is seen only where none is left.
pub record Came (old new : Option (List ℕ)) (s : Stream) (g : Values) (buffer' : List ℕ) : Type 0 where
  pub bytes : g.last ≡ false → Consumes old new (take g.count (drop s.end buffer'))
  pub none : g.last ≡ true → Keeps old new
  pub ended : g.last ≡ true → g.failed ≡ false → IsAtEnd new
