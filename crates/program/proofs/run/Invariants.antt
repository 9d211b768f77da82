-- The loop of `run`: its keeper, its places and its buffer are those that reads and turns have made, as `program_answers` supposes.
use Rattle.program.specs.Turning.{InOrder}
use Rattle.program.proofs.ServeLaws.{SoFar}
use Rattle.program.proofs.run.Given as goal

abbrev pub invariant-loop : goal.invariant-loop
invariant-loop g l = record {
  in_order : InOrder l.s l.buffer;
  so_far : SoFar l.counter l.s l.buffer
      (g.R.Read.remaining l.initial.input) (g.R.Read.remaining l.input) (g.W.Write.contents l.initial.output) (g.W.Write.contents l.output);
}
