-- The bytes of the word are the two digits.
use native.Mathlib.Omega.{arith}
use lib.ListN.{length-set}
use Rattle.digits.proofs.WidthLaws.{two_put}
use Rattle.digits.proofs.width.put_two.Goals as goal

pub bounds-part-at-2 : goal.bounds-part-at-2
bounds-part-at-2 c = rw (length-set _ _ _) (omega arith)

pub returns : goal.returns
returns c = two_put c.args.part.now c.args.at _ _ c.requires.at_in_bounds c.args.two (omega arith) (omega arith) c.requires.two_bound
