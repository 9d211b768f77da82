-- Where the bytes do not fit, nothing is put; else the part that is lent ends as the bytes.
use mathlib.Core.Path.{refl}
use native.Mathlib.Omega.{arith}
use Rattle.text.proofs.OutputLaws.{part_put, none_put}
use Rattle.text.proofs.output.put_bytes.Goals as goal
use Rattle.text.proofs.output.put_bytes.Goals.{then-out-s-via-then-out-s, then-out-s-via-else-out-s+then-out-s-2}

pub returns-then-out-s : goal.returns-then-out-s
returns-then-out-s c =
    elim c.then-out-s.branch [
      | then-out-s-via-then-out-s w ↦ none_put (omega arith)
      | then-out-s-via-else-out-s+then-out-s-2 w ↦ none_put (omega arith)
    ]

pub returns : goal.returns
returns c = part_put refl (omega arith) c.copy_from_slice.ensures.after
