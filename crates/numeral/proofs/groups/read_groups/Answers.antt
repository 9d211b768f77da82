use Rattle.std.proofs.Common.{drop, sym, ◌∙◌, arith}
use Rattle.numeral.proofs.GroupReading.{counted_room, turn_small, turn_counted, turn_answer, groups_full, groups_over, ended_here, ended_on}
use Rattle.numeral.proofs.groups.read_groups.Goals as goal
use Rattle.numeral.proofs.groups.read_groups.Goals.{else-loop-count-test, then-loop-count-test+in_default}

pub overflow_mul-value : goal.overflow_mul-value
overflow_mul-value c = omega (arith, counted_room c.loop-count.invariant.1 c.loop-count-test.true)

pub overflow_add-value : goal.overflow_add-value
overflow_add-value c =
    let read = c.loop-count.invariant.1 in
    omega (arith, counted_room read c.loop-count-test.true, turn_small read c.loop-count-test.true (sym c.group_at.ensures ∙ c.in-Some.is))

pub loop-count-preserved : goal.loop-count-preserved
loop-count-preserved c =
    let read = c.loop-count.invariant.1 in
    let room = c.loop-count-test.true in
    let is = sym c.group_at.ensures ∙ c.in-Some.is in
    (c.loop-count.invariant.0 ∙ turn_answer read room is, turn_counted read room is)

pub returns-then-not-numeral_ends : goal.returns-then-not-numeral_ends
returns-then-not-numeral_ends c =
    let line = c.args.line.now in
    let loop = c.loop-count in
    sym
    (loop.invariant.0
    ∙ elim c.loop-count-test.branch [
      | else-loop-count-test w ↦ groups_full loop.value loop.count loop.next (drop loop.next line) (omega arith)
      | then-loop-count-test+in_default w ↦ groups_over loop.value loop.count loop.next (drop loop.next line) (sym w.group_at.ensures ∙ w.in_default.is)
    ]
    ∙ ended_on loop.value loop.next (drop loop.next line) (sym c.numeral_ends.ensures ∙ c.if-not-numeral_ends.true))

pub returns : goal.returns
returns c =
    let line = c.args.line.now in
    let loop = c.loop-count in
    sym
    (loop.invariant.0
    ∙ elim c.loop-count-test.branch [
      | else-loop-count-test w ↦ groups_full loop.value loop.count loop.next (drop loop.next line) (omega arith)
      | then-loop-count-test+in_default w ↦ groups_over loop.value loop.count loop.next (drop loop.next line) (sym w.group_at.ensures ∙ w.in_default.is)
    ]
    ∙ ended_here loop.value loop.next (drop loop.next line) (sym c.numeral_ends.ensures ∙ c.if-not-numeral_ends.false))
