-- The power fits the mask.
use native.Mathlib.Omega.{arith}
use lib.Pow.{pow-lt}
use Rattle.keeper.proofs.steps.bit.Goals as goal

pub returns : goal.returns
returns c =
    omega (arith, pow-lt {i = c.args.peer} {j = 16} (omega arith))
