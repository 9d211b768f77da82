-- The line and its LF are put at the front.
use Rattle.line.proofs.WroteLaws.{at_front}
use Rattle.line.proofs.write_answer.Goals as goal

pub returns : goal.returns
returns c =
    at_front c.put_answer.ensures c.requires.0 c.requires.1
