-- The line and its LF are put at the front.
use Rattle.line.proofs.WroteLaws.{refused_front}
use Rattle.line.proofs.write_refusal.Goals as goal

pub returns : goal.returns
returns c =
    refused_front c.put_refusal.ensures c.requires
