-- The window's own refusals, then 3, then the word.
use mathlib.Core.Path.{sym, ◌∙◌}
use Rattle.keeper.proofs.WindowLaws.{answer_refused, answer_not_started, answer_heater}
use Rattle.keeper.proofs.windows.window_answer.Goals as goal

pub returns-in-Err : goal.returns-in-Err
returns-in-Err c = rw c.number.ensures (answer_refused _ _ _ _ _ _ (sym c.window_span.ensures ∙ c.in-Err.is))

pub returns-in-Ok : goal.returns-in-Ok
returns-in-Ok c = rw c.number-in-Ok.ensures (answer_not_started _ _ _ _ _ c.if-not-started.true (sym c.window_span.ensures ∙ c.in-Ok.is))

pub returns-in-Ok-2 : goal.returns-in-Ok-2
returns-in-Ok-2 c = rw c.window_state.ensures (answer_heater _ _ _ _ _ c.if-not-started.false (sym c.window_span.ensures ∙ c.in-Ok.is))
