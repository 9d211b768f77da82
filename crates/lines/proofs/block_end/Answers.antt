-- The blocks before the first that holds an LF are passed over.
use Rattle.std.proofs.Common.{rules, ◌≡◌, ◌-◌, ◌/◌, length, take, drop, ◌∙◌, ap, arith, length-drop}
use lib.Seq.{take_all}
use Rattle.std.specs.List.{position_or_len}
use Rattle.std.specs.Simd.{first_chunks}
use Rattle.std.proofs.lemmas.Iterator.{YieldsList-from_slice}
use Rattle.std.proofs.lemmas.Iterator.Search.{position_from_yields_List}
use Rattle.lines.proofs.LineLaws.{broken, found_or_all, blocks_past, same_past}
use Rattle.lines.proofs.block_end.Goals as goal

pub returns : goal.returns
returns c =
    let s = c.args.bytes.now in
    let at = c.args.at in
    let blocks = c.as_chunks.result.0.now in
    let found = position_from_yields_List broken _ _ c.position.result c.position.ensures.ran (YieldsList-from_slice blocks cc) (λ x b q k. search rules) in
    let all : take (length s - at) (drop at s) ≡ drop at s = take_all (length s - at) (drop at s) (simp length-drop (omega arith)) in
    let k = length (drop at s) / 16 in
    let front : blocks ≡ first_chunks 16 k (drop at s) = rw all at c.as_chunks.ensures.front in
    let place : c.unwrap_or-passed.result ≡ position_or_len broken (first_chunks 16 k (drop at s)) =
    c.unwrap_or-passed.ensures ∙ found_or_all broken blocks c.position.result found ∙ ap (position_or_len broken) front
    in
    rw place (same_past s at _ (omega arith) (blocks_past 16 k (drop at s) (omega arith)))
