-- What a whole run promises of the bytes that a reader gives and a writer takes, where those are known.
use Rattle.std.specs.Prelude.{◌≡◌, List, ℕ, ◌+◌, ◌-◌, ◌^◌, ◌≤◌, length}
use Rattle.std.specs.declared.option.Option.{Option}
use Rattle.std.specs.Io.KnownBytes.{Consumes, Appends, IsAtEnd}
use Rattle.keeper.specs.declared.Keeper.{Keeper}
use Rattle.program.specs.Program.{AnswersTheLines, AnswersTheWholeLines}
use Rattle.program.specs.declared.Ended.{Ended}
use Rattle.program.specs.declared.Ended.TheVariants.{InputEnded, ReadingFailed, TurnsUsedUp}

-- The bytes that came, which the reader has lost from its front, and those that were written, by which what the writer holds has grown.
pub record Flow (unread unread' held held' : Option (List ℕ)) : Type 0 where
  pub input : List ℕ
  pub written : List ℕ
  pub came : Consumes unread unread' input
  pub went : Appends held held' written

-- A run to the end of the input took all of it, and wrote the answers to its lines; one to a read that failed wrote the answers to the lines
-- that an LF has ended. Of a write that failed it is not known how much was taken. The turns are used up only
-- by 2^64 - 1 bytes that came or were written.
pub record Served (e : Ended) (unread unread' held held' : Option (List ℕ)) : Type 0 where
  pub at_end : e ≡ InputEnded
      → (f : Flow unread unread' held held') × (k : Keeper) × IsAtEnd unread' × AnswersTheLines f.input f.written k
  pub before_end : e ≡ ReadingFailed → (f : Flow unread unread' held held') × (k : Keeper) × AnswersTheWholeLines f.input f.written k
  pub used_up : e ≡ TurnsUsedUp → (f : Flow unread unread' held held') × 2 ^ 64 - 1 ≤ length f.input + length f.written
