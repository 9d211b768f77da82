-- The fold joins the bits of each pair, and a pair's place is its peer.
use Rattle.std.proofs.Common.{rules, bit_or, ◌≡◌, ◌∙◌, eqb, refl}
use Rattle.std.specs.List.{list_all}
use Rattle.std.proofs.lemmas.Iterator.{YieldsList-from_slice, YieldsList-from_zip}
use Rattle.bits.proofs.Listed.{folded}
use Rattle.peers.proofs.PeerLaws.{pair_idle, idle_more, idle_listed}
use Rattle.peers.proofs.all_idle.Goals as goal

pub returns : goal.returns
returns c =
    let tags = c.args.tags.now in
    let sent = c.args.sent_at.now in
    folded (λ ys held. eqb held 0 ≡ list_all pair_idle ys) c.fold-held.ensures.ran (YieldsList-from_zip (YieldsList-from_slice tags cc) (YieldsList-from_slice sent cc)) refl
    (λ ys a x b f' j k. let e : b ≡ bit_or (bit_or a x.0.now) x.1.now = search rules in (rw e (idle_more ys a x.0.now x.1.now j), refl))
    ∙ idle_listed tags sent c.told-tags c.told-sent_at
