use Rattle.image.proofs.StoreLaws.{filled_none, filled_more, filled_all}
use Rattle.image.proofs.store.store_sixteen.Goals as goal

pub loop-p-init : goal.loop-p-init
loop-p-init g c = filled_none _ _ _ _ _

pub loop-p-preserved : goal.loop-p-preserved
loop-p-preserved g c = filled_more _ c.loop-p.invariant c.told-numbers c.loop-p-test.true c.store_number.ensures

pub returns : goal.returns
returns g c = filled_all c.loop-p.invariant c.told-numbers c.loop-p-test.false
