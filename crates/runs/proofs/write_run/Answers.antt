-- `runs::write_run` is safe: the mark lies within the run, and the answers within the output.
use Rattle.std.proofs.Common.{arith, sym}
use lib.Seq.{length-take-le}
use Rattle.runs.proofs.MarkLaws.{mark_most}
use Rattle.runs.proofs.write_run.Goals as goal

pub slice_bounds-write_all-end : goal.slice_bounds-write_all-end
slice_bounds-write_all-end g c =
    let run = c.args.run.now in
    sym (length-take-le _ run (omega (arith, c.mark_size.ensures, mark_most run)))
