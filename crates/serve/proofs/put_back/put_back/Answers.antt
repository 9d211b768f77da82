-- In each arm that takes over a part of the keeper, the answer is the case that the definition has.
use Rattle.std.proofs.Common.{rules}
use Rattle.keeper.specs.Apply.{changed}
use Rattle.serve.specs.PutBack.{after_pass, after_request, after_end}
use Rattle.serve.proofs.put_back.put_back.Goals as goal

pub returns-in-At : goal.returns-in-At
unfolding after_pass changed
returns-in-At c = search rules

pub returns-in-Sent : goal.returns-in-Sent
unfolding after_request changed
returns-in-Sent c = search rules

pub returns-in-Replied : goal.returns-in-Replied
unfolding after_end changed
returns-in-Replied c = search rules
