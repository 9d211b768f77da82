-- The bytes that are held stand at the front, and those behind them are as they were.
use Rattle.std.proofs.Common.{◌≡◌, length, take, drop, ◌∙◌, arith, length-drop}
use lib.Seq.{length-take-le}
use Rattle.lines.specs.Lines.{held_of}
use Rattle.lines.proofs.HoldLaws.{moved_front, held_is}
use Rattle.lines.proofs.hold.Goals as goal

pub returns-then-n-ne0 : goal.returns-then-n-ne0
returns-then-n-ne0 c =
    let a = c.args in
    let s = a.buffer.now in
    let n = c.held_count-n.result in
    let held : held_of s a.from a.end a.most ≡ take n (drop a.from s) = rw (← c.held_count-n.ensures) at (held_is s a.from a.end a.most) in
    let size : length (take n (drop a.from s)) ≡ n = length-take-le n (drop a.from s) (simp length-drop (omega arith)) in
    record {
      buffer = rw (held, size) (c.copy_within.ensures.after ∙ moved_front s a.from n);
      count = rw (held, size);
    }
