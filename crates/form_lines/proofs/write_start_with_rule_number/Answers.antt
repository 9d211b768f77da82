-- By whether a rule has the number.
use mathlib.Core.Path.{sym, ◌∙◌}
use Rattle.form_lines.proofs.WrittenLaws.{by_rule_ok, by_rule_err}
use Rattle.form_lines.proofs.write_start_with_rule_number.Goals as goal

pub returns-in-Ok : goal.returns-in-Ok
returns-in-Ok c = by_rule_ok _ _ _ (sym c.try_from.ensures ∙ c.in-Ok.is) c.write_start.ensures

pub returns-in-Err : goal.returns-in-Err
returns-in-Err c = by_rule_err _ _ _ (sym c.try_from.ensures ∙ c.in-Err.is) c.refuse_with.ensures
