-- What accepted commands do, one law for each case: each conflict counts once, after others too, no other reply counts, each reply ends its
-- request, and each answer says what was done.
use mathlib.Core.Path.{◌≡◌, refl}
use mathlib.Core.Bool.{true, false}
use Prim.Native.Nat.{ℕ, ◌+◌, ◌-◌, ◌^◌}
use lib.IntN.{ℤ}
use lib.Signed.{◌<ℤ◌}
use lib.ListN.{set, replicate}
use Rattle.moment.specs.declared.Interval.{Interval}
use Rattle.rules.specs.Rules.{outward, conflicting, narrowed, no_wider, adopted, widened}
use Rattle.rules.specs.Verdict.{verdict, judged_by, judged}
use Rattle.rules.specs.declared.Rule.{Rule}
use Rattle.rules.specs.declared.Rule.TheVariants.{Im, Mm}
use Rattle.rules.specs.declared.Finding.TheVariants.{Conflict, Taken, Kept}
use Rattle.command.specs.declared.Command.TheVariants as C
use Rattle.rules.proofs.Sets.{empty_conflicts}
use Rattle.keeper.specs.State.{state_of, fresh}
use Rattle.keeper.specs.Refusals.{waited, reply_bracket, reply_verdict}
use Rattle.keeper.specs.Apply.{outcome_of, begun, changed, passed_to, ended, replied, accepted}
use Rattle.keeper.specs.declared.Keeper.{Keeper}
use Rattle.keeper.specs.declared.Answer.TheVariants as A

module _ (k : Keeper) (peer tag : ℕ) (reply : Interval) where
  abbrev b : Interval
  b = reply_bracket (state_of k) peer reply

  abbrev span : ℤ
  span = outward k.claim (waited (state_of k) peer)

  -- a conflict: the count gains 1, whatever it was, and the edges stay
  pub conflict_counts : conflicting b k.edges ≡ true
      → accepted k (C.Reply peer tag reply) ≡ outcome_of (A.Replied peer (verdict Conflict k.edges)) (ended k peer k.edges (k.conflicts + 1))
  unfolding accepted replied reply_verdict judged state_of
  conflict_counts e = rw e

  -- 'a bracket left empty is a conflict', whatever the rule and the edges (document 02, order 7)
  pub empty_counts : b.upper <ℤ b.lower
      → accepted k (C.Reply peer tag reply) ≡ outcome_of (A.Replied peer (verdict Conflict k.edges)) (ended k peer k.edges (k.conflicts + 1))
  empty_counts empty = conflict_counts (empty_conflicts b k.edges empty)

  -- under im a reply that does not conflict narrows, and says so; the count stays
  pub taken_narrows : conflicting b k.edges ≡ false → k.rule ≡ Im
      → accepted k (C.Reply peer tag reply)
      ≡ outcome_of (A.Replied peer (verdict Taken (narrowed b k.edges))) (ended k peer (narrowed b k.edges) k.conflicts)
  unfolding accepted replied reply_verdict judged judged_by state_of
  taken_narrows e im = rw (e, im)

  -- under mm one that is no wider takes the reply's edges, moved outward, and says so; one that is wider changes no edge, and says so
  pub adopted_taken : conflicting b k.edges ≡ false → k.rule ≡ Mm → no_wider span reply k.edges ≡ true
      → accepted k (C.Reply peer tag reply)
      ≡ outcome_of (A.Replied peer (verdict Taken (adopted span reply))) (ended k peer (adopted span reply) k.conflicts)
  unfolding accepted replied reply_verdict judged judged_by state_of
  adopted_taken e mm f = rw (e, mm, f)

  pub wider_kept : conflicting b k.edges ≡ false → k.rule ≡ Mm → no_wider span reply k.edges ≡ false
      → accepted k (C.Reply peer tag reply) ≡ outcome_of (A.Replied peer (verdict Kept k.edges)) (ended k peer k.edges k.conflicts)
  unfolding accepted replied reply_verdict judged judged_by state_of
  wider_kept e mm f = rw (e, mm, f)

-- a pass moves both edges, after conflicts too
pub pass_widens : (k : Keeper) (n : ℕ)
    → accepted k (C.Pass n) ≡ outcome_of (A.At (k.ticks + n) (widened k.claim n k.edges)) (passed_to k (widened k.claim n k.edges) (k.ticks + n))
unfolding accepted
pass_widens k n = refl

-- the request is over: its bit is taken away, and the peer holds 0 for both; the flight times stay
pub record Over (before after : Keeper) (peer : ℕ) : Type 0 where
  pub bit : after.waiting ≡ before.waiting - 2 ^ peer
  pub tag : after.tags ≡ set before.tags peer 0
  pub sent : after.sent_at ≡ set before.sent_at peer 0
  pub out : after.out ≡ before.out
  pub back : after.back ≡ before.back

-- whatever an accepted reply answers
pub reply_over : (k : Keeper) (peer tag : ℕ) (reply : Interval) → Over k (accepted k (C.Reply peer tag reply)).keeper peer
unfolding accepted replied ended changed
reply_over k peer tag reply = record { bit = refl; tag = refl; sent = refl; out = refl; back = refl }

pub drop_over : (k : Keeper) (peer : ℕ) → Over k (accepted k (C.Drop peer)).keeper peer
unfolding accepted ended changed
drop_over k peer = record { bit = refl; tag = refl; sent = refl; out = refl; back = refl }

-- after a start both flight times of every peer are 0
pub start_clears : (k : Keeper) (board : ℕ) (rule : Rule) (claim : ℕ) (edges : Interval) → let after = (accepted k (C.Start board rule claim edges)).keeper in
    (after.out ≡ replicate 16 0) × (after.back ≡ replicate 16 0)
unfolding accepted begun fresh
start_clears k board rule claim edges = (refl, refl)
