-- Past what holds no LF, the first byte that is one.
use Rattle.std.proofs.Common.{rules, ◌≡◌, ◌-◌, eqb, length, take, drop, sym, ◌∙◌, ap, arith, length-drop}
use lib.Seq.{take_all}
use Rattle.std.proofs.lemmas.Iterator.{YieldsList-from_slice}
use Rattle.std.proofs.lemmas.Iterator.Search.{position_from_yields_List}
use Rattle.lines.specs.Lines.{lf, line_length}
use Rattle.lines.proofs.LineLaws.{line_none, line_position, found_or_all}
use Rattle.lines.proofs.line_end.Goals as goal

-- a place past the end
pub returns-then-bytes-at : goal.returns-then-bytes-at
returns-then-bytes-at c =
    let a = c.args in
    omega (arith, line_none a.bytes.now a.at (omega arith))

pub returns : goal.returns
returns c =
    let s = c.args.bytes.now in
    let i = c.half_end-start.result in
    let rest = take (length s - i) (drop i s) in
    let found = position_from_yields_List (λ b. eqb b lf) _ _ c.position.result c.position.ensures.ran (YieldsList-from_slice rest cc) (λ x b q k. search rules) in
    let all : rest ≡ drop i s = take_all (length s - i) (drop i s) (simp length-drop (omega arith)) in
    let place : c.unwrap_or-length.result ≡ line_length (drop i s) =
    c.unwrap_or-length.ensures ∙ found_or_all (λ b. eqb b lf) rest c.position.result found ∙ line_position rest ∙ ap line_length all
    in
    rw place (sym c.half_end-start.ensures.same ∙ sym c.block_end.ensures.same)
