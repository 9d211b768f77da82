-- The tests are the causes, in their order.
use borrow.Author.Tests.{le-leb, lt-leb}
use mathlib.Core.Path.{◌≡◌, refl, sym, ◌∙◌}
use mathlib.Core.Bool.{true}
use mathlib.Core.List.{[], ◌∷◌}
use Prim.Native.Nat.{ℕ}
use lib.Dec.{leb}
use Rattle.std.proofs.lemmas.Result.{err_from_is_err_and}
use Rattle.command.specs.Causes.{cause, first}
use Rattle.command.specs.declared.Command.TheVariants as C
use Rattle.command.specs.Limits.{board_within}
use Rattle.keeper.specs.State.{most_requests, state_of}
use Rattle.keeper.specs.Refusals.{refusal, causes, peer_causes, keeper_causes}
use Rattle.keeper.specs.declared.Keeper.{Keeper}
use Rattle.keeper.proofs.CallLaws.{own_holds, own_past, peer_err, peer_past}
use Rattle.keeper.proofs.refusals.request_refusal.Goals as goal

-- Past the command's own cause.
module _ (k : Keeper) (peer : ℕ) (kept : board_within peer ≡ true) where
  past_own : refusal (state_of k) (C.Request peer) ≡ first (keeper_causes (state_of k) (C.Request peer))
  unfolding refusal causes
  past_own = own_past _ (C.Request peer) refl kept

  -- past 3 and 4 too
  past_peer : first (peer_causes (state_of k) peer) ≡ 0 → refusal (state_of k) (C.Request peer) ≡ first (cause 6 ((state_of k).waits peer) ∷ cause 9 (leb most_requests k.requests) ∷ [])
  unfolding keeper_causes state_of
  past_peer none = past_own ∙ peer_past (state_of k) peer _ none

pub returns-then-not-board_within : goal.returns-then-not-board_within
unfolding refusal causes
returns-then-not-board_within c =
    let x = c.args in
    sym (own_holds _ (C.Request x.peer) (sym c.board_within.ensures ∙ c.if-not-board_within.true))

pub returns-in_err-peer_refusal : goal.returns-in_err-peer_refusal
unfolding keeper_causes
returns-in_err-peer_refusal c =
    let x = c.args in
    let kept = sym c.board_within.ensures ∙ c.if-not-board_within.false in
    let left = err_from_is_err_and c.from_residual.result c.from_residual.ensures.1 in
    rw (left.1, left.2) (peer_err (state_of x.tested.keeper) x.peer _ _ c.in_err-peer_refusal.ensures ∙ sym (past_own x.tested.keeper x.peer kept))

pub returns-then-bit_of : goal.returns-then-bit_of
unfolding first state_of
returns-then-bit_of c =
    let x = c.args in
    let kept = sym c.board_within.ensures ∙ c.if-not-board_within.false in
    let none = sym c.in_ok-peer_refusal.ensures in
    sym (past_peer x.tested.keeper x.peer kept none ∙ rw (sym c.bit_of.ensures ∙ c.if-bit_of.true))

pub returns-then-keeper-ge-MOST_REQUESTS : goal.returns-then-keeper-ge-MOST_REQUESTS
unfolding first state_of
returns-then-keeper-ge-MOST_REQUESTS c =
    let x = c.args in
    let kept = sym c.board_within.ensures ∙ c.if-not-board_within.false in
    let none = sym c.in_ok-peer_refusal.ensures in
    sym (past_peer x.tested.keeper x.peer kept none ∙ rw (sym c.bit_of.ensures ∙ c.if-bit_of.false, le-leb _ _ c.if-keeper-ge-MOST_REQUESTS.true))

pub returns : goal.returns
unfolding first state_of
returns c =
    let x = c.args in
    let kept = sym c.board_within.ensures ∙ c.if-not-board_within.false in
    let none = sym c.in_ok-peer_refusal.ensures in
    sym (past_peer x.tested.keeper x.peer kept none ∙ rw (sym c.bit_of.ensures ∙ c.if-bit_of.false, lt-leb _ _ c.if-keeper-ge-MOST_REQUESTS.false))
