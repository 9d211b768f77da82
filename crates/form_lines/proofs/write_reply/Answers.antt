-- The layout with edges, with the word, the space and the limits of `reply`.
use mathlib.Core.Path.{refl, ◌∙◌}
use Rattle.command.specs.Forms as F
use Rattle.form_lines.proofs.WrittenLaws.{edged_form}
use Rattle.form_lines.proofs.write_reply.Goals as goal

pub returns : goal.returns
returns c =
    let x = c.args in
    c.write_edged.ensures
    ∙ edged_form (F.reply x.peer x.tag x.edges) "(reply " refl _ c.reply_within.ensures _ x.peer (F.text " ") x.tag x.edges refl
