-- The one cause is that it has not started.
use mathlib.Core.Path.{refl, sym, ◌∙◌}
use Rattle.command.specs.declared.Command.TheVariants as C
use Rattle.keeper.specs.State.{state_of}
use Rattle.command.specs.Causes.{first, own_causes}
use Rattle.keeper.specs.Refusals.{refusal, causes, keeper_causes}
use Rattle.keeper.specs.Apply.{accepted}
use Rattle.keeper.proofs.CallLaws.{apply_refused, apply_accepted}
use Rattle.keeper.proofs.tested.Tested.waiting.Goals as goal

pub returns-then-not-started : goal.returns-then-not-started
unfolding refusal first causes own_causes keeper_causes state_of
returns-then-not-started c =
    let x = c.args in
    c.refused.ensures
    ∙ sym
    (apply_refused x.self.keeper (C.Waiting) 3 refl
    (rw (sym c.args.self.counted ∙ c.if-not-started.true)))

pub returns : goal.returns
unfolding refusal first causes own_causes keeper_causes state_of accepted
returns c =
    let x = c.args in
    sym (apply_accepted x.self.keeper C.Waiting (rw (sym c.args.self.counted ∙ c.if-not-started.false)))
