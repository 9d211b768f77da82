-- What is taken over for an answer is all that its command changed, so the keeper put back is the one that the command handed back.
use mathlib.Core.Path.{◌≡◌, refl, sym, subst}
use Rattle.command.specs.declared.Command.{Command}
use Rattle.keeper.specs.Apply.{changed, passed_to, asked, ended, apply}
use Rattle.keeper.specs.declared.Keeper.{Keeper}
use Rattle.keeper.specs.declared.Outcome.{Outcome}
use Rattle.keeper.specs.declared.Answer.{Answer}
use Rattle.keeper.specs.declared.Answer.TheVariants as A
use Rattle.keeper.proofs.Accepted.{Changed, changed_by}
use Rattle.serve.specs.PutBack.{after_pass, after_request, after_end, put_back}

changed_back : (a : Answer) (k l : Keeper) → Changed a k l → put_back k a l ≡ l
unfolding after_pass after_request after_end passed_to asked ended changed
changed_back (A.Started board) k l h = refl
changed_back (A.At ticks edges) k l m = rw m.next_is
changed_back (A.Sent peer tag) k l (small, m) = rw m.next_is
changed_back (A.Replied peer v) k l (small, m) = rw m.next_is
changed_back (A.Dropped peer) k l (small, m) = rw m.next_is
changed_back (A.Time edges centre error conflicts waiting) k l m = sym m.next_is
changed_back A.Waiting k l m = sym m.next_is
changed_back (A.Heater slot window) k l m = sym m.next_is
changed_back (A.Flight peer) k l h = refl
changed_back (A.Refused n) k l (some, same) = sym same

pub put_back_is : (k : Keeper) (c : Command) → let o = apply k c in put_back k o.answer o.keeper ≡ o.keeper
put_back_is k c = let o = apply k c in changed_back o.answer k o.keeper (changed_by k c)

-- the same of an outcome that was found to be the command's
pub put_back_same : (k : Keeper) (c : Command) {o : Outcome} → o ≡ apply k c → put_back k o.answer o.keeper ≡ o.keeper
put_back_same k c e = subst (λ (o : Outcome). put_back k o.answer o.keeper ≡ o.keeper) (sym e) (put_back_is k c)
