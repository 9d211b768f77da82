-- `runs::write_runs` is safe and ends: each run has a line, and lies within the bytes.
use Rattle.std.proofs.Common.{arith}
use Rattle.runs.proofs.MarkLaws.{run_some, run_most}
use Rattle.runs.proofs.write_runs.Goals as goal

pub split_at-requires : goal.split_at-requires
split_at-requires g c = omega (arith, c.next_mark.ensures, run_most c.loop-rest.rest.now)

pub loop-rest-smaller : goal.loop-rest-smaller
loop-rest-smaller g c = omega (arith, c.next_mark.ensures, c.split_at.ensures.back_len, run_some c.loop-rest.rest.now (grind arith))
