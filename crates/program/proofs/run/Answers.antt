-- `program::run` keeps what its turns so far have made, and ends with what `Served` says.
use Rattle.std.proofs.Common.{refl, arith}
use Rattle.program.proofs.ServeLaws.{used_up, begins, failed, goes_on, ends, wrote_all}
use Rattle.program.proofs.run.Goals as goal

pub loop-init : goal.loop-init
loop-init g c =
    record {
      in_order = record { order = omega arith; within = omega arith; front = λ _. (refl, omega arith) };
      so_far = rw c.fresh.ensures (begins _ _ _);
    }

pub returns-in_default : goal.returns-in_default
returns-in_default g c = failed c.loop.invariant.so_far c.in_default.ensures.read c.in_default.ensures.came refl

pub returns-then-got : goal.returns-then-got
returns-then-got g c =
    let wrote = wrote_all _ _ c.write_all.result _ _ c.is_err.ensures.value c.if-is_err.false c.write_all.ensures.bytes c.answers.ensures in
    ends c.loop.invariant.so_far c.in-Ok.ensures.read c.in-Ok.ensures.came c.turn-s.ensures wrote c.if-got.true refl

pub loop-preserved : goal.loop-preserved
loop-preserved g c =
    let wrote = wrote_all _ _ c.write_all.result _ _ c.is_err.ensures.value c.if-is_err.false c.write_all.ensures.bytes c.answers.ensures in
    record {
      in_order = c.turn-s.ensures.in_order;
      so_far =
          goes_on c.loop.invariant.so_far c.in-Ok.ensures.read c.in-Ok.ensures.came c.turn-s.ensures wrote c.if-got.false
          c.in-Ok.ensures.some;
    }

pub returns : goal.returns
returns g c = used_up c.loop.invariant.so_far (omega (arith, c.loop-test.false))
