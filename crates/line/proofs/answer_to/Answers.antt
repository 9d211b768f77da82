-- What the line is read as picks the case of `answered`.
use mathlib.Core.Path.{sym, ◌∙◌}
use Rattle.line.specs.Call.{answered}
use Rattle.line.proofs.answer_to.Goals as goal

pub returns-in-Ok : goal.returns-in-Ok
unfolding answered
returns-in-Ok c = rw (sym c.read_command.ensures ∙ c.in-Ok.is) c.apply_tested.ensures

pub returns-in-Err : goal.returns-in-Err
unfolding answered
returns-in-Err c = rw (sym c.read_command.ensures ∙ c.in-Err.is, c.number.ensures)
