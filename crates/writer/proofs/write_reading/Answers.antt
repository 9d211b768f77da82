-- In each arm the reading is the case that is written.
use Rattle.writer.specs.Written.{written_reading}
use Rattle.writer.proofs.CommandLaws.{reading_written}
use Rattle.writer.proofs.write_reading.Goals as goal

pub returns-in-Ok : goal.returns-in-Ok
unfolding written_reading
returns-in-Ok c = reading_written _ c.in-Ok.is c.write_command.ensures

pub returns-in-Err : goal.returns-in-Err
unfolding written_reading
returns-in-Err c = reading_written _ c.in-Err.is c.refuse_with.ensures
