-- `runs::write_runs` ends: each run has a line.
use Rattle.std.proofs.Common.{length}
use Rattle.runs.proofs.write_runs.Given as goal

abbrev pub decreases-loop-rest : goal.decreases-loop-rest
decreases-loop-rest g l = length l.rest
