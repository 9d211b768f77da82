-- `runs::marks::next_mark` meets its contract.
use Rattle.std.proofs.Common.{ℕ, ◌+◌, drop, length-drop, arith, sym, ap, ◌∙◌}
use Rattle.runs.proofs.MarkLaws.{size_some, line_behind, before_here, before_other, before_none}
use Rattle.runs.proofs.marks.next_mark.Goals as goal

pub loop-next-init : goal.loop-next-init
loop-next-init c = line_behind c.args.bytes.now c.args.at c.next_line-next.result c.next_line-next.ensures

pub returns-else-not-is_marked : goal.returns-else-not-is_marked
returns-else-not-is_marked c =
    let k = c.loop-next in
    omega (arith, k.invariant, before_here (drop k.next c.args.bytes.now) (sym c.is_marked.ensures ∙ c.if-not-is_marked.false))

pub loop-next-smaller : goal.loop-next-smaller
loop-next-smaller c =
    let k = c.loop-next in
    omega (arith, c.next_line-next-in-loop-next.ensures, size_some (drop k.next c.args.bytes.now) (simp length-drop (omega arith)))

pub loop-next-preserved : goal.loop-next-preserved
loop-next-preserved c =
    let k = c.loop-next in
    let s = c.args.bytes.now in
    let other = before_other (drop k.next s) (sym c.is_marked.ensures ∙ c.if-not-is_marked.true) in
    k.invariant ∙ ap (λ (n : ℕ). k.next + n) other ∙ line_behind s k.next c.next_line-next-in-loop-next.result c.next_line-next-in-loop-next.ensures

pub returns-after-loop-next : goal.returns-after-loop-next
returns-after-loop-next c =
    let k = c.loop-next in
    omega (arith, k.invariant, before_none c.args.bytes.now k.next (omega arith))
