-- Its form is written, and handed back as one number.
use Rattle.form_lines.proofs.WrittenLaws.{form_bounded}
use Rattle.boardtime_uplink.proofs.CommandLaws.{length_fits, returns_it}
use Rattle.boardtime_uplink.proofs.boardtime_write_waiting.Goals as goal

pub returned_of-requires : goal.returned_of-requires
returned_of-requires c = length_fits c.write_waiting.ensures (form_bounded _ _).1

pub returns : goal.returns
returns c = returns_it c.write_waiting.ensures c.returned_of.ensures
