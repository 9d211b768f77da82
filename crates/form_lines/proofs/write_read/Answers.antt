-- A word alone.
use mathlib.Core.Path.{refl, ◌∙◌}
use mathlib.Core.Bool.{true}
use Rattle.command.specs.Forms as F
use Rattle.form_lines.proofs.WrittenLaws.{bare_form}
use Rattle.form_lines.proofs.write_read.Goals as goal

pub returns : goal.returns
returns c = c.write_bare.ensures ∙ bare_form F.read "(read)" refl true refl _ refl
