-- The tests are the causes, in their order.
use borrow.Author.Tests.{eq-eqb, ne_eqb}
use mathlib.Core.Path.{sym, ◌∙◌}
use Rattle.command.specs.Causes.{first}
use Rattle.keeper.specs.State.{state_of}
use Rattle.keeper.proofs.refusals.peer_refusal.Goals as goal

pub returns-then-not-started : goal.returns-then-not-started
unfolding first state_of
returns-then-not-started c = rw (sym c.args.tested.counted ∙ c.if-not-started.true)

pub returns-then-peer-keeper : goal.returns-then-peer-keeper
unfolding first state_of
returns-then-peer-keeper c =
    rw (
      sym c.args.tested.counted ∙ c.if-not-started.false,
      eq-eqb _ _ c.if-peer-keeper.true,
    )

pub returns : goal.returns
unfolding first state_of
returns c =
    rw (
      sym c.args.tested.counted ∙ c.if-not-started.false,
      ne_eqb _ _ c.if-peer-keeper.false,
    )
