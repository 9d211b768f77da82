-- The tests are the causes, in their order.
use mathlib.Core.Path.{◌≡◌, refl, sym, ◌∙◌}
use mathlib.Core.Bool.{true, ◌&&◌}
use mathlib.Core.List.{[], ◌∷◌}
use Prim.Native.Nat.{ℕ}
use Rattle.std.proofs.lemmas.Result.{err_from_is_err_and}
use Rattle.command.specs.Causes.{cause, first}
use Rattle.command.specs.declared.Command.TheVariants as C
use Rattle.command.specs.Limits.{board_within}
use Rattle.flights.specs.Flights.{flight_within}
use Rattle.keeper.specs.State.{state_of}
use Rattle.keeper.specs.Refusals.{refusal, causes, peer_causes, keeper_causes}
use Rattle.keeper.specs.declared.Keeper.{Keeper}
use Rattle.keeper.proofs.CallLaws.{own_holds, own_past, peer_err, peer_past}
use Rattle.keeper.proofs.refusals.flight_refusal.Goals as goal

-- Past the command's own cause.
module _ (k : Keeper) (peer out back : ℕ) (kept : (board_within peer && flight_within out && flight_within back) ≡ true) where
  past_own : refusal (state_of k) (C.Flight peer out back) ≡ first (keeper_causes (state_of k) (C.Flight peer out back))
  unfolding refusal causes
  past_own = own_past _ (C.Flight peer out back) refl kept

  -- past 3 and 4 too
  past_peer : first (peer_causes (state_of k) peer) ≡ 0 → refusal (state_of k) (C.Flight peer out back) ≡ first (cause 6 ((state_of k).waits peer) ∷ [])
  unfolding keeper_causes
  past_peer none = past_own ∙ peer_past (state_of k) peer _ none

pub returns-then-not-flight_within : goal.returns-then-not-flight_within
unfolding refusal causes
returns-then-not-flight_within c =
    let x = c.args in
    sym (own_holds _ (C.Flight x.peer x.out x.back) (sym c.flight_within.ensures ∙ c.if-not-flight_within.true))

pub returns-in_err-peer_refusal : goal.returns-in_err-peer_refusal
unfolding keeper_causes
returns-in_err-peer_refusal c =
    let x = c.args in
    let kept = sym c.flight_within.ensures ∙ c.if-not-flight_within.false in
    let left = err_from_is_err_and c.from_residual.result c.from_residual.ensures.1 in
    rw (left.1, left.2) (peer_err (state_of x.tested.keeper) x.peer _ _ c.in_err-peer_refusal.ensures ∙ sym (past_own x.tested.keeper x.peer x.out x.back kept))

pub returns-then-bit_of : goal.returns-then-bit_of
unfolding first state_of
returns-then-bit_of c =
    let x = c.args in
    let kept = sym c.flight_within.ensures ∙ c.if-not-flight_within.false in
    let none = sym c.in_ok-peer_refusal.ensures in
    sym (past_peer x.tested.keeper x.peer x.out x.back kept none ∙ rw (sym c.bit_of.ensures ∙ c.if-bit_of.true))

pub returns-else-bit_of : goal.returns-else-bit_of
unfolding first state_of
returns-else-bit_of c =
    let x = c.args in
    let kept = sym c.flight_within.ensures ∙ c.if-not-flight_within.false in
    let none = sym c.in_ok-peer_refusal.ensures in
    sym (past_peer x.tested.keeper x.peer x.out x.back kept none ∙ rw (sym c.bit_of.ensures ∙ c.if-bit_of.false))
