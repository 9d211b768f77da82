-- The bits of both are none where both are 0.
use Rattle.peers.proofs.PeerLaws.{bits_idle}
use Rattle.peers.proofs.idle_kept.Goals as goal

pub returns : goal.returns
returns c = rw c.from.ensures (bits_idle c.args.tag c.args.sent)
