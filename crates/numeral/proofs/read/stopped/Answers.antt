-- The numeral ends there, or goes on.
use Rattle.std.proofs.Common.{sym, ◌∙◌}
use Rattle.numeral.proofs.read.stopped.Goals as goal

pub ended-requires : goal.ended-requires
ended-requires c = record { progress = c.requires.progress; ends = sym c.numeral_ends.ensures ∙ c.if-numeral_ends.true }

pub returns-then-numeral_ends : goal.returns-then-numeral_ends
returns-then-numeral_ends c = c.ended.ensures

pub first_group-requires : goal.first_group-requires
first_group-requires c =
    let read = c.requires in
    let on = sym c.numeral_ends.ensures ∙ c.if-numeral_ends.false in
    record { progress = read.progress; on = on; with_underscore = λ h. read.with_underscore h on }

pub returns-else-numeral_ends : goal.returns-else-numeral_ends
returns-else-numeral_ends c = c.first_group.ensures
