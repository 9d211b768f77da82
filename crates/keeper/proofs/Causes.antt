-- The law of the refusals: a command is refused with the number of its first cause that holds, and with none if no cause does.
use mathlib.Core.Path.{◌≡◌, refl}
use mathlib.Core.Bool.{true}
use Prim.Native.Nat.{ℕ, suc, ◌≤◌}
use Rattle.command.specs.Causes.{own_causes, most_number}
use Rattle.command.specs.declared.Command.{Command}
use Rattle.command.specs.declared.Command.TheVariants as C
use Rattle.command.proofs.CauseLaws.{NoneHolds, FirstCause, numbered, small, first_made, first_found, first_none, none_first, first_most}
use Rattle.keeper.specs.State.{State}
use Rattle.keeper.specs.Refusals.{keeper_causes, causes, refusal}

-- every cause has a number of the table
pub causes_numbered : (s : State) (c : Command) → numbered (causes s c) ≡ true
unfolding causes own_causes keeper_causes numbered
causes_numbered s (C.Start board rule claim edges) = refl
causes_numbered s (C.Pass ticks) = refl
causes_numbered s (C.Request peer) = refl
causes_numbered s (C.Reply peer tag edges) = refl
causes_numbered s (C.Drop peer) = refl
causes_numbered s C.Read = refl
causes_numbered s C.Waiting = refl
causes_numbered s (C.Window slot start end) = refl
causes_numbered s (C.Flight peer out back) = refl

causes_small : (s : State) (c : Command) → small (causes s c) ≡ true
unfolding causes own_causes keeper_causes
causes_small s (C.Start board rule claim edges) = refl
causes_small s (C.Pass ticks) = refl
causes_small s (C.Request peer) = refl
causes_small s (C.Reply peer tag edges) = refl
causes_small s (C.Drop peer) = refl
causes_small s C.Read = refl
causes_small s C.Waiting = refl
causes_small s (C.Window slot start end) = refl
causes_small s (C.Flight peer out back) = refl

pub refused_first : (s : State) (c : Command) (n : ℕ) → refusal s c ≡ suc n → FirstCause (causes s c) (suc n)
unfolding refusal
refused_first s c n e = first_found (causes s c) n e

pub first_refused : (s : State) (c : Command) {n : ℕ} → FirstCause (causes s c) n → refusal s c ≡ n
unfolding refusal
first_refused s c f = first_made f

pub accepted_none : (s : State) (c : Command) → refusal s c ≡ 0 → NoneHolds (causes s c)
unfolding refusal
accepted_none s c e = first_none (causes s c) (causes_numbered s c) e

pub none_accepted : (s : State) (c : Command) → NoneHolds (causes s c) → refusal s c ≡ 0
unfolding refusal
none_accepted s c none = none_first (causes s c) none

pub refusal_most : (s : State) (c : Command) → refusal s c ≤ most_number
unfolding refusal
refusal_most s c = first_most (causes s c) (causes_small s c)
