-- In each arm the word is that of the finding.
use Rattle.writing.proofs.PutsLaws.{one_put}
use Rattle.edge_lines.proofs.put_finding.Goals as goal

pub returns-in-Taken : goal.returns-in-Taken
returns-in-Taken c = rw c.in-Taken.is (one_put c.put_bytes.ensures)

pub returns-in-Kept : goal.returns-in-Kept
returns-in-Kept c = rw c.in-Kept.is (one_put c.put_bytes-in-Kept.ensures)

pub returns-in-Conflict : goal.returns-in-Conflict
returns-in-Conflict c = rw c.in-Conflict.is (one_put c.put_bytes-in-Conflict.ensures)
