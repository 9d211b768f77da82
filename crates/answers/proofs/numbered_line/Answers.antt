-- A word, a number and the end.
use mathlib.Core.List.{append_assoc}
use Rattle.writing.proofs.PutsLaws.{one_put, ◌then◌, puts_same}
use Rattle.answers.proofs.numbered_line.Goals as goal

pub returns : goal.returns
returns c =
    puts_same (one_put c.put_bytes-at.ensures then one_put c.put_number-at.ensures then one_put c.put_bytes.ensures) (simp append_assoc)
