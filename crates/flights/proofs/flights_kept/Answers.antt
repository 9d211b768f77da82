-- The fold tests each pair of times, and a pair's place is its peer.
use Rattle.std.proofs.Common.{rules, ◌∙◌}
use Rattle.std.proofs.lemmas.Iterator.{YieldsList-from_slice, YieldsList-from_zip}
use Rattle.bits.proofs.Listed.{tested_by_fold}
use Rattle.flights.proofs.FlightLaws.{pair_kept, flights_listed}
use Rattle.flights.proofs.flights_kept.Goals as goal

pub returns : goal.returns
returns c =
    let out = c.args.out.now in
    let back = c.args.back.now in
    tested_by_fold pair_kept c.fold.ensures.ran (YieldsList-from_zip (YieldsList-from_slice out cc) (YieldsList-from_slice back cc)) (λ a x b f' k. search rules)
    ∙ flights_listed out back c.told-out c.told-back
