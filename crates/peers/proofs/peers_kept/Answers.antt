-- The two tests are the definition's, in two parts.
use mathlib.Core.Path.{sym, ◌∙◌}
use Rattle.peers.proofs.PeerLaws.{peers_in_parts}
use Rattle.peers.proofs.peers_kept.Goals as goal

pub returns-then-others_idle : goal.returns-then-others_idle
returns-then-others_idle c = rw (peers_in_parts, sym c.others_idle.ensures ∙ c.if-others_idle.true, c.waiters_kept.ensures)

pub returns-else-others_idle : goal.returns-else-others_idle
returns-else-others_idle c = rw (peers_in_parts, sym c.others_idle.ensures ∙ c.if-others_idle.false) c.if-others_idle.false
