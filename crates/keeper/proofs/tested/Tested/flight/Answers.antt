-- Where no cause holds, the peer has places, and its times are set.
use borrow.Author.Tests.{not-false}
use mathlib.Core.Path.{sym, ◌∙◌}
use Rattle.command.specs.declared.Command.TheVariants as C
use Rattle.command.specs.Causes.{own_causes}
use Rattle.command.proofs.LimitLaws.{board_bound}
use Rattle.keeper.specs.State.{state_of}
use Rattle.keeper.specs.Refusals.{keeper_causes, causes}
use Rattle.keeper.specs.Apply.{accepted}
use Rattle.keeper.proofs.CallLaws.{apply_accepted, apply_err}
use Rattle.keeper.proofs.Causes.{accepted_none}
use Rattle.keeper.proofs.Accepted.{flight_limits}
use Rattle.keeper.proofs.tested.Tested.flight.Goals as goal

pub returns-in-Err : goal.returns-in-Err
returns-in-Err c = c.refused.ensures ∙ apply_err c.args.self.keeper (C.Flight c.args.peer c.args.out c.args.back) _ c.in-Err.ensures

pub with_flight-requires : goal.with_flight-requires
unfolding causes own_causes keeper_causes state_of
with_flight-requires c =
    let x = c.args in
    let none = accepted_none (state_of x.self.keeper) (C.Flight x.peer x.out x.back) (sym c.in_default.ensures) in
    board_bound _ (flight_limits x.peer x.out x.back (not-false _ none.0)).0

pub returns : goal.returns
unfolding accepted
returns c =
    let x = c.args in
    rw c.with_flight.ensures
    (sym (apply_accepted x.self.keeper (C.Flight x.peer x.out x.back) (sym c.in_default.ensures)))
