-- Every line keeps the invariant, and so does every list of lines.
use mathlib.Core.Path.{sym, subst}
use mathlib.Core.List.{List, [], ◌∷◌}
use Prim.Native.Nat.{ℕ}
use borrow.Author.Tests.{eqb-true}
use lib.Dec.{ltb, eqb}
use lib.IntN.{ℤ}
use Rattle.bits.proofs.Tests.{by_test}
use Rattle.command.specs.declared.Command.{Command}
use Rattle.std.specs.Prelude.{Ok, Err}
use Rattle.command.specs.Limits.{Reading}
use Rattle.reader.specs.Reading.{reading_of}
use Rattle.keeper.specs.State.{state_of}
use Rattle.keeper.specs.Refusals.{refusal}
use Rattle.keeper.specs.Apply.{apply}
use Rattle.keeper.specs.declared.Keeper.{Keeper}
use Rattle.writing.specs.Puts.{least_output}
use Rattle.line.specs.Call.{by_reading, answered, keeper_after}
use Rattle.history.specs.Log.{Input, Log, accepted_command, accepting, log_by, logged, log_after}
use Rattle.history.specs.Course.{advanced, event_by, event_of, courses_after}
use Rattle.history.specs.Demand3.{keeper_through}
use Rattle.history.proofs.Invariant.{log_of, KeeperInvariant, Invariant}
use Rattle.history.proofs.Commands.{unchanged, command_invariant}

-- The keeper and the log accept the same lines, since both go by the same values.
module _ (k : Keeper) (taken kept dropped : ℕ) (stands : ℤ → Type 0) (held : KeeperInvariant k taken kept dropped stands) where
  tried : (c : Command)
      → Invariant (log_by (log_of k taken kept dropped) (accepted_command (state_of k) (Ok c))) (apply k c).keeper (advanced (event_by (state_of k) (accepted_command (state_of k) (Ok c))) stands)
  unfolding apply
  tried c =
      by_test (eqb (refusal (state_of k) c) 0)
      (λ t. rw t (command_invariant k taken kept dropped stands held c (eqb-true _ _ t)))
      (λ t. rw t (unchanged k taken kept dropped stands held))

  read : (r : Reading)
      → Invariant (log_by (log_of k taken kept dropped) (accepted_command (state_of k) r)) (by_reading r k).keeper (advanced (event_by (state_of k) (accepted_command (state_of k) r)) stands)
  read (Ok c) = tried c
  read (Err r) = unchanged k taken kept dropped stands held

  given : (i : Input)
      → Invariant (logged (log_of k taken kept dropped) i) (keeper_after k i.line i.room) (advanced (event_of (state_of k) i) stands)
  unfolding logged accepting event_of keeper_after answered
  given i =
      by_test (ltb i.room least_output)
      (λ t. rw t (unchanged k taken kept dropped stands held))
      (λ t. rw t (read (reading_of i.line)))

pub line_invariant : (l : Log) (k : Keeper) (stands : ℤ → Type 0) → Invariant l k stands → (i : Input)
    → Invariant (logged l i) (keeper_after k i.line i.room) (advanced (event_of l.state i) stands)
line_invariant l k stands h i =
    subst
    (λ (x : Log). Invariant (logged x i) (keeper_after k i.line i.room) (advanced (event_of x.state i) stands))
    (sym h.same)
    (given k h.taken h.kept h.dropped stands h.holds i)

pub lines_invariant : (l : Log) (k : Keeper) (stands : ℤ → Type 0) → Invariant l k stands → (is : List Input)
    → Invariant (log_after l is) (keeper_through k is) (courses_after l stands is)
unfolding log_after keeper_through
lines_invariant l k stands h [] = h
lines_invariant l k stands h (i ∷ is) =
    lines_invariant (logged l i) (keeper_after k i.line i.room) (advanced (event_of l.state i) stands) (line_invariant l k stands h i) is
