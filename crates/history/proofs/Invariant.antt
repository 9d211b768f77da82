-- What holds of the keeper, the log and the courses after every line.
use mathlib.Core.Path.{◌≡◌}
use mathlib.Core.Bool.{true, false}
use Prim.Native.Nat.{ℕ, ◌+◌}
use lib.IntN.{ℤ}
use Rattle.bits.specs.Bits.{bit_of}
use Rattle.bits.specs.Below.{count_below}
use Rattle.moment.specs.Intervals.{Holds}
use Rattle.rules.specs.declared.Rule.TheVariants.{Im}
use Rattle.command.specs.declared.Command.{Command}
use Rattle.keeper.specs.State.{counts_as_started, state_of, fresh}
use Rattle.keeper.specs.Apply.{accepted}
use Rattle.keeper.specs.declared.Keeper.{Keeper}
use Rattle.keeper.proofs.StartedLaws.{Sized}
use Rattle.history.specs.Log.{Log, log_accepted}
use Rattle.history.specs.Course.{advanced, command_event}

-- The log whose values are the keeper's.
abbrev pub log_of : Keeper → ℕ → ℕ → ℕ → Log
log_of k taken kept dropped = record { state = state_of k; taken = taken; kept = kept; dropped = dropped }

-- The moments at which some course stands, against the edges: each is within them, and where there is one there was no conflict; under im, as
-- long as there was none, some course stands at every moment of the edges.
pub record Follows (k : Keeper) (stands : ℤ → Type 0) : Type 0 where
  pub within : (m : ℤ) → stands m → Holds k.edges m
  pub no_conflict : (m : ℤ) → stands m → k.conflicts ≡ 0
  pub reached : k.rule ≡ Im → counts_as_started k ≡ true → k.conflicts ≡ 0 → (m : ℤ) → Holds k.edges m → stands m

-- A keeper that does not count as started is a fresh one.
pub record KeeperInvariant (k : Keeper) (taken kept dropped : ℕ) (stands : ℤ → Type 0) : Type 0 where
  pub sized : Sized k
  pub unstarted : counts_as_started k ≡ false → k ≡ fresh
  pub sum : k.requests ≡ taken + kept + k.conflicts + dropped + count_below 16 (bit_of k.waiting)
  pub follows : Follows k stands

-- The log is the keeper's, with counts of its own.
pub record Invariant (l : Log) (k : Keeper) (stands : ℤ → Type 0) : Type 0 where
  pub taken : ℕ
  pub kept : ℕ
  pub dropped : ℕ
  pub same : l ≡ log_of k taken kept dropped
  pub holds : KeeperInvariant k taken kept dropped stands

-- What an accepted command has to do: to change the keeper, the log and the courses so that the invariant holds again.
abbrev pub After : Keeper → ℕ → ℕ → ℕ → (ℤ → Type 0) → Command → Type 0
After k taken kept dropped stands c =
    Invariant (log_accepted (log_of k taken kept dropped) c) (accepted k c).keeper (advanced (command_event (state_of k) c) stands)
