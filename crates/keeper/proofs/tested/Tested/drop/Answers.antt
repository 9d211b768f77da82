-- Where no cause holds, the peer waits and its request can be ended.
use borrow.Author.Tests.{not-false}
use mathlib.Core.Path.{sym, ◌∙◌}
use Rattle.command.specs.declared.Command.TheVariants as C
use Rattle.command.specs.Causes.{own_causes}
use Rattle.command.proofs.LimitLaws.{board_bound}
use Rattle.keeper.specs.State.{state_of}
use Rattle.keeper.specs.Refusals.{keeper_causes, causes}
use Rattle.keeper.specs.Apply.{accepted}
use Rattle.keeper.proofs.CallLaws.{apply_accepted, apply_err}
use Rattle.keeper.proofs.Causes.{accepted_none}
use Rattle.keeper.proofs.tested.Tested.drop.Goals as goal

pub returns-in-Err : goal.returns-in-Err
returns-in-Err c = c.refused.ensures ∙ apply_err c.args.self.keeper (C.Drop c.args.peer) _ c.in-Err.ensures

pub ended_with-requires : goal.ended_with-requires
unfolding causes own_causes keeper_causes state_of
ended_with-requires c =
    let x = c.args in
    let none = accepted_none (state_of x.self.keeper) (C.Drop x.peer) (sym c.in_default.ensures) in
    record { peer_bound = board_bound _ (not-false _ none.0); peer_value = not-false _ none.1.1.1.0 }

pub returns : goal.returns
unfolding accepted
returns c =
    let x = c.args in
    rw c.ended_with.ensures
    (sym (apply_accepted x.self.keeper (C.Drop x.peer) (sym c.in_default.ensures)))
