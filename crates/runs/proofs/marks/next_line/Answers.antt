-- `runs::marks::next_line` meets its contract.
use Rattle.std.proofs.Common.{arith, drop, length-drop}
use Rattle.runs.proofs.MarkLaws.{whole_size, open_size}
use Rattle.runs.proofs.marks.next_line.Goals as goal

pub returns-then-end-bytes : goal.returns-then-end-bytes
returns-then-end-bytes c =
    let s = drop c.args.at c.args.bytes.now in
    omega (arith, c.line_end-end.ensures, whole_size s (simp length-drop (omega (arith, c.line_end-end.ensures))))

pub returns-else-end-bytes : goal.returns-else-end-bytes
returns-else-end-bytes c =
    let s = drop c.args.at c.args.bytes.now in
    omega (arith, c.line_end-end.ensures, open_size s (simp length-drop (omega (arith, c.line_end-end.ensures))))
