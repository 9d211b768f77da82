-- In each arm the text is that of the rule.
use Rattle.form_lines.proofs.rule_word.Goals as goal

pub returns-in-Im : goal.returns-in-Im
returns-in-Im c = rw c.in-Im.is

pub returns-in-Mm : goal.returns-in-Mm
returns-in-Mm c = rw c.in-Mm.is
