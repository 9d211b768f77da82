use mathlib.Core.Path.{sym, ap, ◌∙◌}
use mathlib.Core.Bool.{not}
use native.Mathlib.Omega.{arith}
use Rattle.places.proofs.Passed.{next_among}
use Rattle.peers.proofs.Waiters.{seen_none, seen_more, seen_apart, seen_shared, waiter_broken}
use Rattle.peers.proofs.waiters_kept.Goals as goal

pub loop-p-init : goal.loop-p-init
loop-p-init c =
    let x = c.args in
    let all = c.into_iter-p-iterator.ensures.into_iter_gives in
    (tt, tt, rw (all, c.of-p-items.ensures) (seen_none x.waiting x.requests x.ticks x.tags.now x.sent_at.now))

pub returns-then-not-waiter_kept : goal.returns-then-not-waiter_kept
returns-then-not-waiter_kept c =
    let x = c.args in
    let given = c.in-Some.ensures.steps in
    let waits = next_among c.loop-p.invariant.2.passed given in
    let fails = sym c.waiter_kept.ensures ∙ c.if-not-waiter_kept.true in
    sym (waiter_broken x.waiting x.requests x.ticks x.tags.now x.sent_at.now _ given.0.within waits fails)

pub loop-p-preserved : goal.loop-p-preserved
loop-p-preserved c =
    let x = c.args in
    let given = c.in-Some.ensures.steps in
    let kept = sym c.waiter_kept.ensures ∙ c.if-not-waiter_kept.false in (
      tt,
      tt,
      seen_more x.waiting x.requests x.ticks x.tags.now x.sent_at.now c.loop-p.invariant.2 given c.marked-shared.result c.mark-seen.result kept
          c.marked-shared.ensures
          c.mark-seen.ensures,
    )

pub returns-then-not-shared : goal.returns-then-not-shared
returns-then-not-shared c =
    let x = c.args in
    ap not c.if-not-shared.true
    ∙ sym (seen_apart x.waiting x.requests x.ticks x.tags.now x.sent_at.now c.loop-p.invariant.2 c.in-None.ensures.steps.0 c.if-not-shared.true)

pub returns-else-not-shared : goal.returns-else-not-shared
returns-else-not-shared c =
    let x = c.args in
    c.tags_alone.ensures
    ∙ seen_shared x.waiting x.requests x.ticks x.tags.now x.sent_at.now c.loop-p.invariant.2 c.in-None.ensures.steps.0 (omega arith) c.requires
