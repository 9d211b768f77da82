-- The dates are cut to their fields, their form is written, and handed back as one number.
use mathlib.Core.Path.{◌∙◌}
use Rattle.form_lines.proofs.WrittenLaws.{form_bounded}
use Rattle.form_lines.proofs.WindowLaws.{narrow_written}
use Rattle.boardtime_uplink.proofs.CommandLaws.{length_fits, returns_it}
use Rattle.boardtime_uplink.proofs.boardtime_write_window.Goals as goal

pub returned_of-requires : goal.returned_of-requires
returned_of-requires c = length_fits c.write_window.ensures (form_bounded _ _).1

pub returns : goal.returns
returns c =
    returns_it (c.write_window.ensures ∙ narrow_written _ _ c.date_from-start_date.ensures c.date_from-end_date.ensures) c.returned_of.ensures
