-- The list of the waiting peers is answered only by a keeper that counts as started.
use mathlib.Core.Path.{◌≡◌, refl, ap}
use mathlib.Core.Bool.{Bool, true, false}
use borrow.Author.Tests.{not-false, eqb-true}
use lib.Dec.{eqb}
use Rattle.bits.specs.Choice.{choose}
use Rattle.bits.proofs.Tests.{clash}
use Rattle.command.specs.Causes.{own_causes}
use Rattle.command.specs.declared.Command.{Command}
use Rattle.command.specs.declared.Command.TheVariants as C
use Rattle.keeper.specs.State.{state_of, counts_as_started}
use Rattle.keeper.specs.Refusals.{keeper_causes, causes, refusal}
use Rattle.keeper.specs.Apply.{outcome_of, replied, accepted, apply}
use Rattle.keeper.specs.declared.Keeper.{Keeper}
use Rattle.keeper.specs.declared.Answer.{Answer}
use Rattle.keeper.specs.declared.Answer.TheVariants as A
use Rattle.keeper.proofs.Causes.{accepted_none}

-- whether an answer is the list
is_list : Answer → Bool
is_list (A.Started board) = false
is_list (A.At ticks edges) = false
is_list (A.Sent peer tag) = false
is_list (A.Replied peer verdict) = false
is_list (A.Dropped peer) = false
is_list (A.Time edges centre error conflicts waiting) = false
is_list A.Waiting = true
is_list (A.Heater slot window) = false
is_list (A.Flight peer) = false
is_list (A.Refused n) = false

-- an accepted command that answers it is the list's own
accepted_list : (k : Keeper) (c : Command) → refusal (state_of k) c ≡ 0 → is_list (accepted k c).answer ≡ true → counts_as_started (accepted k c).keeper ≡ true
unfolding accepted replied is_list causes own_causes keeper_causes state_of
accepted_list k (C.Start board rule claim edges) e h = absurd (clash h refl)
accepted_list k (C.Pass ticks) e h = absurd (clash h refl)
accepted_list k (C.Request peer) e h = absurd (clash h refl)
accepted_list k (C.Reply peer tag reply) e h = absurd (clash h refl)
accepted_list k (C.Drop peer) e h = absurd (clash h refl)
accepted_list k C.Read e h = absurd (clash h refl)
accepted_list k C.Waiting e h = not-false _ (accepted_none (state_of k) C.Waiting e).1.0
accepted_list k (C.Window slot start end) e h = absurd (clash h refl)
accepted_list k (C.Flight peer out back) e h = absurd (clash h refl)

pub listed_started : (k : Keeper) (c : Command) → (apply k c).answer ≡ A.Waiting → counts_as_started (apply k c).keeper ≡ true
unfolding apply is_list
listed_started k c h = go (eqb (refusal (state_of k) c) 0) refl (ap is_list h)
  where
    go : (t : Bool) → eqb (refusal (state_of k) c) 0 ≡ t
        → is_list (choose t (λ _. accepted k c) (λ _. outcome_of (A.Refused (refusal (state_of k) c)) k)).answer ≡ true
        → counts_as_started (choose t (λ _. accepted k c) (λ _. outcome_of (A.Refused (refusal (state_of k) c)) k)).keeper ≡ true
    go true e l = accepted_list k c (eqb-true (refusal (state_of k) c) 0 e) l
    go false e l = absurd (clash l refl)
