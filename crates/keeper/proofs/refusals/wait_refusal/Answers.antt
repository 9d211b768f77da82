-- The tests are the causes, in their order; a peer that waits in a keeper that counts as
-- started was asked before now.
use borrow.Author.Tests.{not-false, eq-eqb, ne_eqb, lt-ltb, le-ltb}
use mathlib.Core.Path.{◌≡◌, refl, sym, ◌∙◌}
use mathlib.Core.Bool.{true, not, ◌&&◌}
use mathlib.Core.List.{[], ◌∷◌, ◌++◌}
use Prim.Native.Nat.{ℕ, ◌≤◌}
use native.Mathlib.Omega.{arith}
use lib.Dec.{eqb, ltb}
use Rattle.bits.proofs.Tests.{both}
use Rattle.moment.specs.Intervals.{edges_within}
use Rattle.moment.specs.declared.Interval.{Interval}
use Rattle.rules.specs.Rules.{longest_wait}
use Rattle.command.specs.Limits.{board_within, tag_within}
use Rattle.std.proofs.lemmas.Result.{err_from_is_err_and}
use Rattle.command.specs.Causes.{cause, first, own_causes}
use Rattle.command.specs.declared.Command.TheVariants as C
use Rattle.command.proofs.LimitLaws.{board_bound}
use Rattle.command.proofs.CauseLaws.{numbered, first_none}
use Rattle.keeper.specs.State.{state_of, counts_as_started}
use Rattle.keeper.specs.Refusals.{waited, peer_causes, wait_causes}
use Rattle.keeper.specs.declared.Keeper.{Keeper}
use Rattle.keeper.proofs.CallLaws.{own_holds, own_past, peer_err, peer_past}
use Rattle.keeper.proofs.StartedLaws.{started_read, sent_by}
use Rattle.keeper.proofs.refusals.wait_refusal.Goals as goal

-- Past the command's own cause: its numbers are within their limits.
module _ (k : Keeper) (peer tag : ℕ) (edges : Interval) (kept : (board_within peer && tag_within tag && edges_within edges) ≡ true) where
  small : peer ≤ 15
  small = board_bound _ (both (board_within peer) (tag_within tag) (both (board_within peer && tag_within tag) (edges_within edges) kept).0).0

  past_own : first (own_causes (C.Reply peer tag edges) ++ wait_causes (state_of k) peer tag) ≡ first (wait_causes (state_of k) peer tag)
  past_own = own_past _ (C.Reply peer tag edges) refl kept

  -- past 3 and 4 too
  past_peer : first (peer_causes (state_of k) peer) ≡ 0
      → first (own_causes (C.Reply peer tag edges) ++ wait_causes (state_of k) peer tag)
      ≡ first (cause 7 (not ((state_of k).waits peer && eqb tag ((state_of k).tag peer))) ∷ cause 8 (ltb longest_wait (waited (state_of k) peer)) ∷ [])
  past_peer none = past_own ∙ peer_past (state_of k) peer _ none

-- then the keeper counts as started
started : (k : Keeper) (peer : ℕ) → first (peer_causes (state_of k) peer) ≡ 0 → counts_as_started k ≡ true
unfolding numbered state_of
started k peer none = not-false _ (first_none (peer_causes (state_of k) peer) refl none).0

pub returns-then-not-reply_within : goal.returns-then-not-reply_within
returns-then-not-reply_within c =
    let x = c.args in
    sym (own_holds _ (C.Reply x.peer x.tag x.edges) (sym c.reply_within.ensures ∙ c.if-not-reply_within.true))

pub returns-in_err-peer_refusal : goal.returns-in_err-peer_refusal
returns-in_err-peer_refusal c =
    let x = c.args in
    let kept = sym c.reply_within.ensures ∙ c.if-not-reply_within.false in
    let left = err_from_is_err_and c.from_residual.result c.from_residual.ensures.1 in
    rw (left.1, left.2) (peer_err (state_of x.tested.keeper) x.peer _ _ c.in_err-peer_refusal.ensures ∙ sym (past_own x.tested.keeper x.peer x.tag x.edges kept))

pub returns-then-not-bit_of : goal.returns-then-not-bit_of
unfolding first state_of
returns-then-not-bit_of c =
    let x = c.args in
    let kept = sym c.reply_within.ensures ∙ c.if-not-reply_within.false in
    let none = sym c.in_ok-peer_refusal.ensures in
    sym (past_peer x.tested.keeper x.peer x.tag x.edges kept none ∙ rw (sym c.bit_of.ensures ∙ c.if-not-bit_of.true))

pub bounds-tags-peer : goal.bounds-tags-peer
bounds-tags-peer c =
    let x = c.args in
    omega (arith, small x.tested.keeper x.peer x.tag x.edges (sym c.reply_within.ensures ∙ c.if-not-reply_within.false))

pub returns-then-tag-tags : goal.returns-then-tag-tags
unfolding first state_of
returns-then-tag-tags c =
    let x = c.args in
    let kept = sym c.reply_within.ensures ∙ c.if-not-reply_within.false in
    let none = sym c.in_ok-peer_refusal.ensures in
    sym
    (past_peer x.tested.keeper x.peer x.tag x.edges kept none
    ∙ rw (sym c.bit_of.ensures ∙ c.if-not-bit_of.false, ne_eqb _ _ c.if-tag-tags.true))

pub bounds-sent_at-peer : goal.bounds-sent_at-peer
bounds-sent_at-peer c =
    let x = c.args in
    omega (arith, small x.tested.keeper x.peer x.tag x.edges (sym c.reply_within.ensures ∙ c.if-not-reply_within.false))

pub overflow_sub-keeper : goal.overflow_sub-keeper
unfolding state_of
overflow_sub-keeper c =
    let x = c.args in
    let kept = sym c.reply_within.ensures ∙ c.if-not-reply_within.false in
    let counts = started x.tested.keeper x.peer (sym c.in_ok-peer_refusal.ensures) in
    sent_by x.tested.keeper x.peer (started_read x.tested.keeper counts) (small x.tested.keeper x.peer x.tag x.edges kept) (sym c.bit_of.ensures ∙ c.if-not-bit_of.false)

pub returns-then-keeper-sent_at-gt-LONGEST_WAIT : goal.returns-then-keeper-sent_at-gt-LONGEST_WAIT
unfolding first state_of
returns-then-keeper-sent_at-gt-LONGEST_WAIT c =
    let x = c.args in
    let kept = sym c.reply_within.ensures ∙ c.if-not-reply_within.false in
    let none = sym c.in_ok-peer_refusal.ensures in
    sym
    (past_peer x.tested.keeper x.peer x.tag x.edges kept none
    ∙ rw (
      sym c.bit_of.ensures ∙ c.if-not-bit_of.false,
      eq-eqb _ _ c.if-tag-tags.false,
      lt-ltb _ _ c.if-keeper-sent_at-gt-LONGEST_WAIT.true,
    ))

pub returns : goal.returns
unfolding first state_of
returns c =
    let x = c.args in
    let kept = sym c.reply_within.ensures ∙ c.if-not-reply_within.false in
    let none = sym c.in_ok-peer_refusal.ensures in
    sym
    (past_peer x.tested.keeper x.peer x.tag x.edges kept none
    ∙ rw (
      sym c.bit_of.ensures ∙ c.if-not-bit_of.false,
      eq-eqb _ _ c.if-tag-tags.false,
      le-ltb _ _ c.if-keeper-sent_at-gt-LONGEST_WAIT.false,
    ))
