-- What is answered to a line says whether the keeper counts as started after it: an accepted line leaves one that does, and a refused line
-- leaves the keeper as it was.
use mathlib.Core.Path.{◌≡◌, refl}
use mathlib.Core.Bool.{true}
use mathlib.Core.List.{List}
use Prim.Native.Nat.{ℕ}
use Rattle.std.specs.Prelude.{Ok, Err}
use Rattle.command.specs.Limits.{Reading}
use Rattle.refusal.proofs.Numbers.{not_zero}
use borrow.Author.Tests.{eqb-false}
use Rattle.reader.specs.Reading.{reading_of}
use Rattle.keeper.specs.State.{counts_as_started}
use Rattle.keeper.specs.Apply.{number_of}
use Rattle.keeper.specs.declared.Keeper.{Keeper}
use Rattle.keeper.proofs.StartedLaws.{Sized}
use Rattle.keeper.proofs.Returned.{refused_keeps}
use Rattle.keeper.proofs.Accepted.{accepted_starts, apply_sized}
use Rattle.line.specs.Call.{by_reading, answered}

module _ (k : Keeper) (line : List ℕ) where
  read_keeps : (r : Reading) → (number_of (by_reading r k).answer ≡ 0 → ⊥) → (by_reading r k).keeper ≡ k
  read_keeps (Ok c) h = refused_keeps k c h
  read_keeps (Err r) h = refl

  -- a refused line leaves the keeper as it was
  pub refused_same : (number_of (answered k line).answer ≡ 0 → ⊥) → (answered k line).keeper ≡ k
  unfolding answered
  refused_same h = read_keeps (reading_of line) h

  module _ (sized : Sized k) where
    read_starts : (r : Reading) → number_of (by_reading r k).answer ≡ 0 → counts_as_started (by_reading r k).keeper ≡ true
    read_starts (Ok c) e = accepted_starts k sized c e
    read_starts (Err r) e = absurd (eqb-false _ _ (not_zero r) e)

    -- an accepted line leaves one that counts as started
    pub answered_starts : number_of (answered k line).answer ≡ 0 → counts_as_started (answered k line).keeper ≡ true
    unfolding answered
    answered_starts e = read_starts (reading_of line) e

    read_sized : (r : Reading) → Sized (by_reading r k).keeper
    read_sized (Ok c) = apply_sized k sized c
    read_sized (Err r) = sized

    pub answered_sized : Sized (answered k line).keeper
    unfolding answered
    answered_sized = read_sized (reading_of line)
