-- The tests are the causes, in their order.
use mathlib.Core.Path.{◌≡◌, refl, sym, ◌∙◌}
use mathlib.Core.Bool.{true, not}
use mathlib.Core.List.{[], ◌∷◌}
use Prim.Native.Nat.{ℕ}
use Rattle.std.proofs.lemmas.Result.{err_from_is_err_and}
use Rattle.command.specs.Causes.{cause, first}
use Rattle.command.specs.declared.Command.TheVariants as C
use Rattle.command.specs.Limits.{board_within}
use Rattle.keeper.specs.State.{state_of}
use Rattle.keeper.specs.Refusals.{refusal, causes, peer_causes, keeper_causes}
use Rattle.keeper.specs.declared.Keeper.{Keeper}
use Rattle.keeper.proofs.CallLaws.{own_holds, own_past, peer_err, peer_past}
use Rattle.keeper.proofs.refusals.drop_refusal.Goals as goal

-- Past the command's own cause.
module _ (k : Keeper) (peer : ℕ) (kept : board_within peer ≡ true) where
  past_own : refusal (state_of k) (C.Drop peer) ≡ first (keeper_causes (state_of k) (C.Drop peer))
  unfolding refusal causes
  past_own = own_past _ (C.Drop peer) refl kept

  -- past 3 and 4 too
  past_peer : first (peer_causes (state_of k) peer) ≡ 0 → refusal (state_of k) (C.Drop peer) ≡ first (cause 7 (not ((state_of k).waits peer)) ∷ [])
  unfolding keeper_causes
  past_peer none = past_own ∙ peer_past (state_of k) peer _ none

pub returns-then-not-board_within : goal.returns-then-not-board_within
unfolding refusal causes
returns-then-not-board_within c =
    let x = c.args in
    sym (own_holds _ (C.Drop x.peer) (sym c.board_within.ensures ∙ c.if-not-board_within.true))

pub returns-in_err-peer_refusal : goal.returns-in_err-peer_refusal
unfolding keeper_causes
returns-in_err-peer_refusal c =
    let x = c.args in
    let kept = sym c.board_within.ensures ∙ c.if-not-board_within.false in
    let left = err_from_is_err_and c.from_residual.result c.from_residual.ensures.1 in
    rw (left.1, left.2) (peer_err (state_of x.tested.keeper) x.peer _ _ c.in_err-peer_refusal.ensures ∙ sym (past_own x.tested.keeper x.peer kept))

pub returns-then-not-bit_of : goal.returns-then-not-bit_of
unfolding first state_of
returns-then-not-bit_of c =
    let x = c.args in
    let kept = sym c.board_within.ensures ∙ c.if-not-board_within.false in
    let none = sym c.in_ok-peer_refusal.ensures in
    sym (past_peer x.tested.keeper x.peer kept none ∙ rw (sym c.bit_of.ensures ∙ c.if-not-bit_of.true))

pub returns : goal.returns
unfolding first state_of
returns c =
    let x = c.args in
    let kept = sym c.board_within.ensures ∙ c.if-not-board_within.false in
    let none = sym c.in_ok-peer_refusal.ensures in
    sym (past_peer x.tested.keeper x.peer kept none ∙ rw (sym c.bit_of.ensures ∙ c.if-not-bit_of.false))
