-- Where no cause holds, the peer does not wait and one more tag can be given.
use borrow.Author.Tests.{not-false, leb-false}
use mathlib.Core.Path.{sym, ◌∙◌}
use native.Mathlib.Omega.{arith}
use Rattle.command.specs.declared.Command.TheVariants as C
use Rattle.command.specs.Causes.{own_causes}
use Rattle.command.proofs.LimitLaws.{board_bound}
use Rattle.keeper.specs.State.{state_of, most_requests}
use Rattle.keeper.specs.Refusals.{keeper_causes, causes}
use Rattle.keeper.specs.Apply.{accepted}
use Rattle.keeper.proofs.CallLaws.{apply_accepted, apply_err}
use Rattle.keeper.proofs.Causes.{accepted_none}
use Rattle.keeper.proofs.tested.Tested.request.Goals as goal

pub returns-in-Err : goal.returns-in-Err
returns-in-Err c = c.refused.ensures ∙ apply_err c.args.self.keeper (C.Request c.args.peer) _ c.in-Err.ensures

pub overflow_add-tag : goal.overflow_add-tag
unfolding causes own_causes keeper_causes state_of
overflow_add-tag c =
    let x = c.args in
    let none = accepted_none (state_of x.self.keeper) (C.Request x.peer) (sym c.in_default.ensures) in
    omega (arith, leb-false most_requests x.self.keeper.requests none.1.1.1.1.0)

pub asked_of-requires : goal.asked_of-requires
unfolding causes own_causes keeper_causes state_of
asked_of-requires c =
    let x = c.args in
    let none = accepted_none (state_of x.self.keeper) (C.Request x.peer) (sym c.in_default.ensures) in
    record { peer_bound = board_bound _ (not-false _ none.0); requests_lt_most_requests = leb-false _ _ none.1.1.1.1.0; peer_value = none.1.1.1.0 }

pub returns : goal.returns
unfolding accepted
returns c =
    let x = c.args in
    rw c.asked_of.ensures
    (sym (apply_accepted x.self.keeper (C.Request x.peer) (sym c.in_default.ensures)))
