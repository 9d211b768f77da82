-- Half a block without an LF is passed over.
use Rattle.std.proofs.Common.{◌≡◌, ◌+◌, ◌-◌, ◌≤◌, length, take, drop, sym, ap, ◌∙◌, arith, length-drop}
use lib.Seq.{take_all}
use borrow.Author.Tests.{eqb-true}
use Rattle.lines.specs.Lines.{breaks}
use Rattle.lines.proofs.LineLaws.{line_along}
use Rattle.lines.proofs.half_end.Goals as goal

pub returns-in-Some : goal.returns-in-Some
returns-in-Some c =
    let a = c.args in
    let chunk = c.in-Some.ensures.cases in
    let rest = drop a.at a.bytes.now in
    let all : take (length a.bytes.now - a.at) rest ≡ rest = take_all (length a.bytes.now - a.at) rest (simp length-drop (omega arith)) in
    let half : c.in-Some.half.now ≡ take 8 rest = chunk.same ∙ ap (take 8) all in
    let none : breaks (take 8 rest) ≡ 0 = rw half at (eqb-true _ _ (sym c.is_unbroken.ensures ∙ c.if-is_unbroken.true)) in
    let room : a.at + 8 ≤ length a.bytes.now = omega (arith, rw all at chunk.enough, length-drop a.at a.bytes.now) in
    record { within = room; same = line_along 8 a.bytes.now a.at room none }
