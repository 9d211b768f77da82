-- What the line is read as is written back, and handed back as one number.
use mathlib.Core.Path.{sym}
use Rattle.writer.proofs.CommandLaws.{reading_written, reading_bounded}
use Rattle.boardtime_uplink.proofs.CommandLaws.{length_fits, returns_it}
use Rattle.boardtime_uplink.proofs.boardtime_plain.Goals as goal

pub returned_of-requires : goal.returned_of-requires
returned_of-requires c = length_fits c.write_reading.ensures (reading_bounded _ _).1

pub returns : goal.returns
returns c =
    returns_it (reading_written _ (sym c.read_command.ensures) c.write_reading.ensures) c.returned_of.ensures
