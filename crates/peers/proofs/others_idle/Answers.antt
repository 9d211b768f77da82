use mathlib.Core.Path.{◌≡◌, refl, sym, ◌∙◌}
use native.Mathlib.Omega.{arith}
use Rattle.bits.specs.Below.{all_below}
use Rattle.peers.specs.Parts.{idle_or_waits, others_idle}
use Rattle.bits.proofs.Tests.{clash}
use Rattle.bits.proofs.Below.{all_more, all_broken}
use Rattle.peers.proofs.others_idle.Goals as goal
use Rattle.peers.proofs.others_idle.Goals.{then-bit_of, else-bit_of}

pub returns-then-waiting-eq0 : goal.returns-then-waiting-eq0
returns-then-waiting-eq0 c = rw c.if-waiting-eq0.true c.all_idle.ensures

pub loop-p-init : goal.loop-p-init
unfolding all_below
loop-p-init c = refl

pub returns-then-not-idle_kept : goal.returns-then-not-idle_kept
unfolding others_idle
returns-then-not-idle_kept c =
    let x = c.args in
    sym (all_broken 16 (idle_or_waits x.waiting x.tags.now x.sent_at.now) c.loop-p.p c.loop-p-test.true
    (elim c.if-bit_of.branch [
      | then-bit_of w ↦ absurd (clash (w.value-is ∙ w.if-bit_of.true) c.if-not-idle_kept.true)
      | else-bit_of w ↦
          rw (sym c.bit_of.ensures ∙ w.if-bit_of.false, sym (rw c.from-place.ensures at w.idle_kept.ensures) ∙ sym w.value-is ∙ c.if-not-idle_kept.true)
    ]))

pub loop-p-preserved : goal.loop-p-preserved
loop-p-preserved c =
    all_more c.loop-p.p _ c.loop-p.invariant
    (elim c.if-bit_of.branch [
      | then-bit_of w ↦ rw (sym c.bit_of.ensures ∙ w.if-bit_of.true)
      | else-bit_of w ↦
          rw (sym c.bit_of.ensures ∙ w.if-bit_of.false, sym (rw c.from-place.ensures at w.idle_kept.ensures) ∙ sym w.value-is ∙ c.if-not-idle_kept.false)
    ])

pub returns : goal.returns
unfolding others_idle
returns c =
    let all : c.loop-p.p ≡ 16 = omega arith in
    sym (rw all at c.loop-p.invariant)
