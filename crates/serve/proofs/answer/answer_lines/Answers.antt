use mathlib.Core.Path.{◌≡◌, refl, sym, ap, ◌∙◌, subst}
use Prim.Native.Nat.{◌-◌}
use native.Mathlib.Omega.{arith}
use borrow.Author.Rules.{rules}
use borrow.Author.Tests.{lt-ltb, le-ltb}
use lib.ListN.{length, take, drop}
use Rattle.keeper.specs.State.{counts_as_started}
use Rattle.keeper.specs.Apply.{outcome_of, number_of}
use Rattle.keeper.specs.declared.Outcome.{Outcome}
use Rattle.keeper.specs.declared.Answer.{Answer}
use Rattle.keeper.specs.declared.Answer.TheVariants as A
use Rattle.keeper.specs.declared.Keeper.{Keeper}
use Rattle.keeper.proofs.StartedLaws.{Sized}
use Rattle.command.specs.Limits.{Reading}
use Rattle.reader.specs.Reading.{reading_of}
use Rattle.line.specs.Call.{by_reading, answered, Wrote}
use Rattle.line.proofs.ResponseLaws.{listed}
use Rattle.line.proofs.AnsweredLaws.{refused_same, answered_starts, answered_sized}
use Rattle.serve.proofs.PutBackLaws.{put_back_same}
use Rattle.serve.proofs.ServingLaws.{Step, none_answered, part_room, line_answered, filled_within, stopped_full, stopped_done}
use Rattle.serve.proofs.answer.answer_lines.Goals as goal
use Rattle.serve.proofs.answer.answer_lines.Goals.{in-Ok, in-Err, then-number_of-eq0, else-number_of-eq0, else-loop-at-test, then-loop-at-test+then-out-filled-lt-LEAST_OUTPUT}

pub loop-at-init : goal.loop-at-init
loop-at-init c =
    (refl, omega arith, c.line_end-at.ensures, none_answered _ _ _, c.counts_as_started-started.ensures, record { mask = search rules; tags = search rules; sent = search rules; out = search rules; back = search rules })

outcome-made : {a b : Answer} {k l : Keeper} → k ≡ l → a ≡ b → outcome_of a k ≡ outcome_of b l
outcome-made e f = rw (e, f)

pub write_answer-length-requires : goal.write_answer-length-requires
unfolding answered
write_answer-length-requires c =
    -- the line of this turn
    let line = take (c.loop-at.at - c.loop-at.next) (drop c.loop-at.next c.args.bytes.now) in
    let before = c.loop-at.now in
    let outcome-is : outcome_of c.match-read_command.answer c.match-read_command.now ≡ answered before line =
    let by : (r : Reading) → c.read_command.result ≡ r → by_reading r before ≡ by_reading (reading_of line) before =
    λ r e. ap (λ (x : Reading). by_reading x before) (sym e ∙ c.read_command.ensures) in
    elim c.match-read_command.branch [
      | in-Ok w ↦
          outcome-made (w.now-is ∙ w.put_back-now.ensures ∙ put_back_same _ _ w.apply_command-outcome.ensures) w.answer-is
          ∙ w.apply_command-outcome.ensures
          ∙ by _ w.in-Ok.is
      | in-Err w ↦ outcome-made w.now-is (w.answer-is ∙ ap A.Refused w.number.ensures) ∙ by _ w.in-Err.is
    ]
    in
    let k = c.loop-at in
    let same = outcome-is in (
      part_room k.out k.filled c.if-out-filled-lt-LEAST_OUTPUT.false,
      λ h. ap (λ (o : Outcome). counts_as_started o.keeper) same ∙ listed before line (sym (ap (λ (o : Outcome). o.answer) same) ∙ h),
    )

pub overflow_add-filled : goal.overflow_add-filled
overflow_add-filled c =
    let w = c.write_answer-length in
    let k = c.loop-at in
    let within = filled_within k.out k.filled k.invariant.1 w.auto.out w.ensures in
    omega (arith, k.invariant.0, c.well_formed)

pub loop-at-preserved : goal.loop-at-preserved
unfolding answered
loop-at-preserved c =
    -- the line of this turn
    let line = take (c.loop-at.at - c.loop-at.next) (drop c.loop-at.next c.args.bytes.now) in
    let before = c.loop-at.now in
    let outcome-is : outcome_of c.match-read_command.answer c.match-read_command.now ≡ answered before line =
    let by : (r : Reading) → c.read_command.result ≡ r → by_reading r before ≡ by_reading (reading_of line) before =
    λ r e. ap (λ (x : Reading). by_reading x before) (sym e ∙ c.read_command.ensures) in
    elim c.match-read_command.branch [
      | in-Ok w ↦
          outcome-made (w.now-is ∙ w.put_back-now.ensures ∙ put_back_same _ _ w.apply_command-outcome.ensures) w.answer-is
          ∙ w.apply_command-outcome.ensures
          ∙ by _ w.in-Ok.is
      | in-Err w ↦ outcome-made w.now-is (w.answer-is ∙ ap A.Refused w.number.ensures) ∙ by _ w.in-Err.is
    ]
    in
    let started-is : c.if-number_of-eq0.started ≡ counts_as_started c.match-read_command.now =
    let k = c.loop-at in
    let keeper_is : counts_as_started c.match-read_command.now ≡ counts_as_started (answered before line).keeper =
    ap (λ (o : Outcome). counts_as_started o.keeper) outcome-is
    in
    let number_is : c.number_of.result ≡ number_of (answered before line).answer =
    c.number_of.ensures ∙ ap (λ (o : Outcome). number_of o.answer) outcome-is
    in
    elim c.if-number_of-eq0.branch [
      | then-number_of-eq0 w ↦ w.started-is ∙ sym (keeper_is ∙ answered_starts before line k.invariant.5 (sym number_is ∙ w.if-number_of-eq0.true))
      | else-number_of-eq0 w ↦ w.started-is ∙ k.invariant.4 ∙ sym (keeper_is ∙ ap counts_as_started (refused_same before line (λ e. w.if-number_of-eq0.false (number_is ∙ e))))
    ]
    in
    let w = c.write_answer-length in
    let k = c.loop-at in
    let a = c.args in
    let same = outcome-is in
    let within = filled_within k.out k.filled k.invariant.1 w.auto.out w.ensures in
    let step : Step before line (take (length k.out - k.filled) (drop k.filled k.out)) c.match-read_command.now w.new.out w.result =
    record {
      keeper_is = ap (λ (o : Outcome). o.keeper) same;
      wrote = subst (λ (o : Outcome). Wrote o.answer o.keeper (take (length k.out - k.filled) (drop k.filled k.out)) w.new.out w.result) same w.ensures;
    } in (
      search rules,
      omega arith,
      c.line_end-at-in-loop-at.ensures,
      line_answered a.bytes.now k.next k.at k.invariant.3 k.invariant.2 c.loop-at-test.true step,
      started-is,
      subst (λ (o : Outcome). Sized o.keeper) (sym same) (answered_sized before line k.invariant.5),
    )

pub shape_of-out : goal.shape_of-out
shape_of-out c = c.loop-at.invariant.0

pub returns : goal.returns
returns c =
    let k = c.loop-at in
    let a = c.args in
    elim c.loop-at-test.branch [
      | else-loop-at-test w ↦ rw (le-ltb k.at (length a.bytes.now) w.loop-at-test.false) (stopped_done a.bytes.now k.next k.at k.invariant.3 k.invariant.2 w.loop-at-test.false)
      | then-loop-at-test+then-out-filled-lt-LEAST_OUTPUT w ↦
          let short = w.if-out-filled-lt-LEAST_OUTPUT.true in
          rw (lt-ltb k.at (length a.bytes.now) w.loop-at-test.true) (stopped_full a.bytes.now k.next k.at k.invariant.3 k.invariant.2 w.loop-at-test.true (omega (arith, k.invariant.0, k.invariant.1, short)))
    ]
