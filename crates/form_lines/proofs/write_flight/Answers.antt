-- The layout with two times, with the word and the limits of `flight`.
use mathlib.Core.Path.{refl, ◌∙◌}
use Rattle.command.specs.Forms as F
use Rattle.form_lines.proofs.WrittenLaws.{timed_form}
use Rattle.form_lines.proofs.write_flight.Goals as goal

pub returns : goal.returns
returns c =
    let x = c.args in
    c.write_timed.ensures
    ∙ timed_form (F.flight x.peer x.out_time x.back_time) "(flight " refl _ c.flight_within.ensures _ x.peer x.out_time x.back_time refl
