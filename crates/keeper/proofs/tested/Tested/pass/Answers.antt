-- The tests are the causes, in their order; the sum of the ticks is made after they are known to be few.
use borrow.Author.Tests.{le-leb, lt-leb}
use mathlib.Core.Path.{refl, sym, ◌∙◌}
use native.Mathlib.Omega.{arith}
use Rattle.command.specs.declared.Command.TheVariants as C
use Rattle.command.proofs.LimitLaws.{ticks_bound}
use Rattle.keeper.specs.State.{state_of}
use Rattle.command.specs.Causes.{first, own_causes}
use Rattle.keeper.specs.Refusals.{refusal, causes, keeper_causes}
use Rattle.keeper.proofs.CallLaws.{apply_refused, apply_accepted}
use Rattle.keeper.proofs.Outcomes.{pass_widens}
use Rattle.keeper.proofs.StartedLaws.{started_read}
use Rattle.moment.proofs.BoundLaws.{placed_within, placed_outside}
use Rattle.keeper.proofs.tested.Tested.pass.Goals as goal

pub returns-then-not-ticks_within : goal.returns-then-not-ticks_within
unfolding refusal first causes own_causes keeper_causes state_of
returns-then-not-ticks_within c =
    let x = c.args in
    c.refused.ensures
    ∙ sym
    (apply_refused x.self.keeper (C.Pass x.ticks) 2 refl
    (rw (sym c.ticks_within.ensures ∙ c.if-not-ticks_within.true)))

pub returns-then-not-started : goal.returns-then-not-started
unfolding refusal first causes own_causes keeper_causes state_of
returns-then-not-started c =
    let x = c.args in
    c.refused-then-not-started.ensures
    ∙ sym
    (apply_refused x.self.keeper (C.Pass x.ticks) 3 refl
    (rw (
      sym c.ticks_within.ensures ∙ c.if-not-ticks_within.false,
      sym c.args.self.counted ∙ c.if-not-started.true,
    )))

pub returns-in_default : goal.returns-in_default
unfolding refusal first causes own_causes keeper_causes state_of
returns-in_default c =
    let x = c.args in
    c.refused-in_default.ensures
    ∙ sym
    (apply_refused x.self.keeper (C.Pass x.ticks) 5 refl
    (rw (
      sym c.ticks_within.ensures ∙ c.if-not-ticks_within.false,
      sym c.args.self.counted ∙ c.if-not-started.false,
      placed_outside _ (sym c.widen.ensures ∙ c.in_default.is),
    )))

pub overflow_add-total : goal.overflow_add-total
overflow_add-total c =
    let x = c.args in
    omega (arith, (started_read x.self.keeper (sym c.args.self.counted ∙ c.if-not-started.false)).ticks, ticks_bound _ (sym c.ticks_within.ensures ∙ c.if-not-ticks_within.false))

pub returns-then-total-gt-MOST_TICKS : goal.returns-then-total-gt-MOST_TICKS
unfolding refusal first causes own_causes keeper_causes state_of
returns-then-total-gt-MOST_TICKS c =
    let x = c.args in
    let (in-range, same) = placed_within _ _ (sym c.widen.ensures ∙ c.in-Some.is) in
    c.refused-then-total-gt-MOST_TICKS.ensures
    ∙ sym
    (apply_refused x.self.keeper (C.Pass x.ticks) 5 refl
    (rw (
      sym c.ticks_within.ensures ∙ c.if-not-ticks_within.false,
      sym c.args.self.counted ∙ c.if-not-started.false,
      in-range,
      lt-leb _ _ c.if-total-gt-MOST_TICKS.true,
    )))

pub returns : goal.returns
unfolding refusal first causes own_causes keeper_causes state_of
returns c =
    let x = c.args in
    let (in-range, same) = placed_within _ _ (sym c.widen.ensures ∙ c.in-Some.is) in
    rw (c.passed_to.ensures, same)
    (sym (apply_accepted x.self.keeper (C.Pass x.ticks)
    (rw (
      sym c.ticks_within.ensures ∙ c.if-not-ticks_within.false,
      sym c.args.self.counted ∙ c.if-not-started.false,
      in-range,
      le-leb _ _ c.if-total-gt-MOST_TICKS.false,
    )) ∙ pass_widens x.self.keeper x.ticks))
