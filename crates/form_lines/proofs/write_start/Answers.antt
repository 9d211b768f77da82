-- The layout with edges, with the word and the limits of `start` and the text of its rule.
use mathlib.Core.Path.{refl, ◌∙◌}
use Rattle.command.specs.Forms as F
use Rattle.form_lines.proofs.WrittenLaws.{edged_form, rule_most}
use Rattle.form_lines.proofs.write_start.Goals as goal

pub write_edged-requires-clause-between_len_bound : goal.write_edged-requires-clause-between_len_bound
write_edged-requires-clause-between_len_bound c = rw c.rule_word.ensures (rule_most c.args.rule)

pub returns : goal.returns
returns c =
    let x = c.args in
    (rw c.rule_word.ensures at c.write_edged.ensures)
    ∙ edged_form (F.start x.board x.rule x.claim x.edges) "(start " refl _ c.start_within-kept.ensures _ x.board (F.rule x.rule) x.claim x.edges refl
