-- Each byte is told to be what a group has there, or no group stands there.
use Rattle.std.proofs.Common.{sym, arith}
use Rattle.numeral.proofs.GroupReading.{group_short, group_no_underscore, group_first, group_second, group_third, group_here}
use Rattle.numeral.proofs.groups.group_at.Goals as goal
use Rattle.numeral.proofs.groups.group_at.Goals.{then-line-at-lt4-via-then-line-at-lt4, then-line-at-lt4-via-else-line-at-lt4+then-line-at-ne95, then-a-gt9-via-then-a-gt9, then-a-gt9-via-else-a-gt9+then-b-gt9, then-a-gt9-via-else-a-gt9+else-b-gt9+then-c-gt9}

pub returns-then-line-at-lt4 : goal.returns-then-line-at-lt4
returns-then-line-at-lt4 c =
    let line = c.args.line.now in
    sym
    (elim c.then-line-at-lt4.branch [
      | then-line-at-lt4-via-then-line-at-lt4 w ↦ group_short line c.args.at w.if-line-at-lt4.true
      | then-line-at-lt4-via-else-line-at-lt4+then-line-at-ne95 w ↦ group_no_underscore line c.args.at (omega arith) w.if-line-at-ne95.true
    ])

pub returns-then-a-gt9 : goal.returns-then-a-gt9
returns-then-a-gt9 c =
    let line = c.args.line.now in
    sym
    (elim c.then-a-gt9.branch [
      | then-a-gt9-via-then-a-gt9 w ↦ group_first line c.args.at (omega arith) c.if-line-at-ne95.false c.digit-a.ensures c.digit-b.ensures c.digit-c.ensures w.if-a-gt9.true
      | then-a-gt9-via-else-a-gt9+then-b-gt9 w ↦ group_second line c.args.at (omega arith) c.if-line-at-ne95.false c.digit-a.ensures c.digit-b.ensures c.digit-c.ensures w.if-a-gt9.false w.if-b-gt9.true
      | then-a-gt9-via-else-a-gt9+else-b-gt9+then-c-gt9 w ↦ group_third line c.args.at (omega arith) c.if-line-at-ne95.false c.digit-a.ensures c.digit-b.ensures c.digit-c.ensures w.if-a-gt9.false w.if-b-gt9.false w.if-c-gt9.true
    ])

pub returns : goal.returns
returns c =
    sym (group_here c.args.line.now c.args.at (omega arith) c.if-line-at-ne95.false c.digit-a.ensures c.digit-b.ensures c.digit-c.ensures c.if-a-gt9.false c.if-b-gt9.false c.if-c-gt9.false)
