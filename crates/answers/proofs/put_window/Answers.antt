-- In each arm the word is that of what is told.
use Rattle.writing.proofs.PutsLaws.{one_put}
use Rattle.answers.proofs.put_window.Goals as goal

pub returns-in-Open : goal.returns-in-Open
returns-in-Open c = rw c.in-Open.is (one_put c.put_bytes.ensures)

pub returns-in-Shut : goal.returns-in-Shut
returns-in-Shut c = rw c.in-Shut.is (one_put c.put_bytes-in-Shut.ensures)

pub returns-in-Unsure : goal.returns-in-Unsure
returns-in-Unsure c = rw c.in-Unsure.is (one_put c.put_bytes-in-Unsure.ensures)
