-- The tests are the causes, in their order.
use mathlib.Core.Path.{refl, sym, ◌∙◌}
use Rattle.command.specs.declared.Command.TheVariants as C
use Rattle.command.specs.Causes.{first, own_causes}
use Rattle.keeper.specs.Refusals.{refusal, causes, keeper_causes}
use Rattle.keeper.specs.State.{state_of}
use Rattle.keeper.specs.Apply.{accepted}
use Rattle.keeper.proofs.CallLaws.{apply_refused, apply_accepted}
use Rattle.keeper.proofs.tested.Tested.start.Goals as goal

pub returns-then-not-start_within : goal.returns-then-not-start_within
unfolding refusal first causes own_causes keeper_causes state_of
returns-then-not-start_within c =
    let x = c.args in
    c.refused.ensures
    ∙ sym
    (apply_refused x.self.keeper (C.Start x.board x.rule x.claim x.edges) 2 refl
    (rw (sym c.start_within.ensures ∙ c.if-not-start_within.true)))

pub returns-then-started : goal.returns-then-started
unfolding refusal first causes own_causes keeper_causes state_of
returns-then-started c =
    let x = c.args in
    c.refused-then-started.ensures
    ∙ sym
    (apply_refused x.self.keeper (C.Start x.board x.rule x.claim x.edges) 3 refl
    (rw (
      sym c.start_within.ensures ∙ c.if-not-start_within.false,
      sym c.args.self.counted ∙ c.if-started.true,
    )))

pub returns : goal.returns
unfolding refusal first causes own_causes keeper_causes state_of accepted
returns c =
    let x = c.args in
    rw c.begun_with.ensures
    (sym
    (apply_accepted x.self.keeper (C.Start x.board x.rule x.claim x.edges)
    (rw (
      sym c.start_within.ensures ∙ c.if-not-start_within.false,
      sym c.args.self.counted ∙ c.if-started.false,
    ))))
