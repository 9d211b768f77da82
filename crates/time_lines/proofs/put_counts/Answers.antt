-- The parts are put in the order of the definition.
use Rattle.writing.proofs.PutsLaws.{one_put, ◌then◌}
use Rattle.time_lines.proofs.put_counts.Goals as goal

pub returns : goal.returns
returns c =
    one_put c.put_bytes-at.ensures
    then one_put c.put_number-at.ensures
    then one_put c.put_bytes-at-2.ensures
    then one_put c.put_number-at-2.ensures
    then one_put c.put_bytes.ensures
