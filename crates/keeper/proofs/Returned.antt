-- The number that a command returns: it is that of its refusal, 0 if it is accepted; and a refused command leaves the keeper as it was.
use mathlib.Core.Path.{◌≡◌, refl, ap, ◌∙◌}
use borrow.Author.Tests.{eqb-true, ne_eqb}
use lib.Dec.{eqb}
use Rattle.bits.proofs.Tests.{by_test}
use Rattle.command.specs.declared.Command.{Command}
use Rattle.command.specs.declared.Command.TheVariants as C
use Rattle.keeper.specs.State.{state_of}
use Rattle.keeper.specs.Refusals.{refusal}
use Rattle.keeper.specs.Apply.{replied, accepted, apply, number_of}
use Rattle.keeper.specs.declared.Keeper.{Keeper}
use Rattle.keeper.specs.declared.Outcome.{Outcome}
use Rattle.keeper.proofs.CallLaws.{apply_refused, apply_accepted}

accepted_number : (k : Keeper) (c : Command) → number_of (accepted k c).answer ≡ 0
unfolding accepted replied
accepted_number k (C.Start board rule claim edges) = refl
accepted_number k (C.Pass ticks) = refl
accepted_number k (C.Request peer) = refl
accepted_number k (C.Reply peer tag reply) = refl
accepted_number k (C.Drop peer) = refl
accepted_number k C.Read = refl
accepted_number k C.Waiting = refl
accepted_number k (C.Window slot start end) = refl
accepted_number k (C.Flight peer out back) = refl

pub apply_number : (k : Keeper) (c : Command) → number_of (apply k c).answer ≡ refusal (state_of k) c
apply_number k c =
    by_test (eqb (refusal (state_of k) c) 0)
    (λ t.
    let none : refusal (state_of k) c ≡ 0 = eqb-true _ _ t in
    rw (apply_accepted k c none, none) (accepted_number k c))
    (λ t. ap (λ (o : Outcome). number_of o.answer) (apply_refused k c (refusal (state_of k) c) t refl))

pub refused_keeps : (k : Keeper) (c : Command) → (number_of (apply k c).answer ≡ 0 → ⊥) → (apply k c).keeper ≡ k
refused_keeps k c h =
    ap (λ (o : Outcome). o.keeper) (apply_refused k c (refusal (state_of k) c) (ne_eqb _ _ (λ e. h (apply_number k c ∙ e))) refl)
