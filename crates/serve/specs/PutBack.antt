-- The keeper that a command handed back, put in the place of the one before it. It serves the proof of a private function: what a command leaves,
-- `apply` says, and for every command this is that keeper (`put_back_is` of proofs/PutBackLaws.antt).
use Rattle.keeper.specs.Apply.{changed}
use Rattle.keeper.specs.declared.Keeper.{Keeper}
use Rattle.keeper.specs.declared.Answer.{Answer}
use Rattle.keeper.specs.declared.Answer.TheVariants as A

-- edges and ticks alone
unfoldable pub after_pass : Keeper → Keeper → Keeper
unfolding changed
after_pass k after = changed k after.edges after.ticks k.requests k.conflicts k.waiting k.tags k.sent_at

-- the requests sent, and what waits
unfoldable pub after_request : Keeper → Keeper → Keeper
unfolding changed
after_request k after = changed k k.edges k.ticks after.requests k.conflicts after.waiting after.tags after.sent_at

-- edges, conflicts, and what waits
unfoldable pub after_end : Keeper → Keeper → Keeper
unfolding changed
after_end k after = changed k after.edges k.ticks k.requests after.conflicts after.waiting after.tags after.sent_at

abbrev pub put_back : Keeper → Answer → Keeper → Keeper
put_back k (A.Started board) after = after
put_back k (A.At ticks edges) after = after_pass k after
put_back k (A.Sent peer tag) after = after_request k after
put_back k (A.Replied peer verdict) after = after_end k after
put_back k (A.Dropped peer) after = after_end k after
put_back k (A.Time edges centre error conflicts waiting) after = k
put_back k A.Waiting after = k
put_back k (A.Heater slot window) after = k
put_back k (A.Flight peer) after = after
put_back k (A.Refused n) after = k
