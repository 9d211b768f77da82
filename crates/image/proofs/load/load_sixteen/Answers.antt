use Rattle.std.proofs.Common.{refl}
use native.Mathlib.Omega.{arith}
use Rattle.image.proofs.LoadLaws.{loaded_none, loaded_more, loaded_all}
use Rattle.image.proofs.load.load_sixteen.Goals as goal

pub loop-p-init : goal.loop-p-init
loop-p-init g c = loaded_none _ _ _ _ _ refl

pub loop-p-preserved : goal.loop-p-preserved
loop-p-preserved g c = loaded_more c.loop-p.invariant c.loop-p-test.true c.load_number.ensures

pub returns : goal.returns
returns g c = loaded_all c.loop-p.invariant (omega arith)
