-- What a command does, from the number of its refusal; and that number, from the causes that were tried.
use mathlib.Core.Path.{◌≡◌, refl, sym, ◌∙◌}
use mathlib.Core.Bool.{true, false, ◌&&◌}
use mathlib.Core.List.{List, [], ◌∷◌, ◌++◌}
use Prim.Native.Nat.{ℕ, ◌≤◌}
use borrow.Author.Tests.{eqb-false, not-false, ltb-false}
use lib.Dec.{eqb}
use Rattle.refusal.specs.declared.Refusal.{Refusal}
use Rattle.refusal.specs.Refusal.{number}
use Rattle.refusal.proofs.Numbers.{not_zero}
use Rattle.bits.specs.Bits.{bit_of}
use Rattle.bits.proofs.Tests.{both}
use Rattle.moment.specs.declared.Interval.{Interval}
use Rattle.moment.specs.Intervals.{edges_within}
use Rattle.rules.specs.Rules.{longest_wait}
use Rattle.rules.specs.Verdict.{leaves}
use Rattle.command.specs.Limits.{board_within, tag_within, keeps, form_of}
use Rattle.command.specs.Causes.{Cause, cause, first, date_causes, own_causes}
use Rattle.command.specs.declared.Command.{Command}
use Rattle.command.specs.declared.Command.TheVariants as C
use Rattle.command.proofs.LimitLaws.{board_bound}
use Rattle.command.proofs.CauseLaws.{NoneHolds, numbered, first_front, first_rest, first_none}
use Rattle.keeper.specs.State.{State, state_of, counts_as_started}
use Rattle.keeper.specs.Refusals.{waited, reply_verdict, peer_causes, wait_causes, keeper_causes, causes, refusal}
use Rattle.keeper.specs.Apply.{outcome_of, accepted, apply}
use Rattle.keeper.specs.declared.Keeper.{Keeper}
use Rattle.keeper.specs.declared.Answer.TheVariants as A

module _ (k : Keeper) (c : Command) where
  pub apply_refused : (n : ℕ) → eqb n 0 ≡ false → refusal (state_of k) c ≡ n → apply k c ≡ outcome_of (A.Refused n) k
  unfolding apply
  apply_refused n some e = rw (e, some)

  pub apply_accepted : refusal (state_of k) c ≡ 0 → apply k c ≡ accepted k c
  unfolding apply
  apply_accepted e = rw e

  -- the same, of a refusal that was found
  pub apply_err : (r : Refusal) → number r ≡ refusal (state_of k) c → outcome_of (A.Refused (number r)) k ≡ apply k c
  apply_err r e = sym (apply_refused (number r) (not_zero r) (sym e))

-- a command's own cause, and that of one without dates
module _ (rest : List Cause) (c : Command) where
  pub own_holds : keeps (form_of c) ≡ false → first (own_causes c ++ rest) ≡ 2
  unfolding first own_causes
  own_holds e = rw e

  pub own_past : date_causes (form_of c) ≡ [] → keeps (form_of c) ≡ true → first (own_causes c ++ rest) ≡ first rest
  unfolding first own_causes
  own_past none e = rw (e, none)

-- the causes of a command that names a peer, after 3 and 4
module _ (s : State) (peer : ℕ) (rest : List Cause) where
  pub peer_holds : (first (peer_causes s peer) ≡ 0 → ⊥) → first (peer_causes s peer ++ rest) ≡ first (peer_causes s peer)
  peer_holds some = first_front (peer_causes s peer) rest some

  -- the same, of a refusal that was found
  pub peer_err : (r : Refusal) → number r ≡ first (peer_causes s peer) → number r ≡ first (peer_causes s peer ++ rest)
  peer_err r e = e ∙ sym (peer_holds (λ z. eqb-false _ _ (not_zero r) (e ∙ z)))

  pub peer_past : first (peer_causes s peer) ≡ 0 → first (peer_causes s peer ++ rest) ≡ first rest
  unfolding numbered
  peer_past none = first_rest (peer_causes s peer) rest refl none

-- those of a reply, before its verdict and with it
module _ (s : State) (peer tag : ℕ) (reply : Interval) where
  abbrev before : List Cause
  before = own_causes (C.Reply peer tag reply) ++ wait_causes s peer tag

  pub reply_holds : (first before ≡ 0 → ⊥) → refusal s (C.Reply peer tag reply) ≡ first before
  unfolding refusal causes keeper_causes own_causes
  reply_holds some = first_front before _ some

  -- the same, of a refusal that was found
  pub reply_err : (r : Refusal) → number r ≡ first before → number r ≡ refusal s (C.Reply peer tag reply)
  reply_err r e = e ∙ sym (reply_holds (λ z. eqb-false _ _ (not_zero r) (e ∙ z)))

  -- where none of them holds, the verdict decides
  none_before : first before ≡ 0 → NoneHolds before
  unfolding numbered own_causes
  none_before none = first_none before refl none

  pub reply_past : first before ≡ 0 → refusal s (C.Reply peer tag reply) ≡ first (cause 5 (leaves (reply_verdict s peer reply)) ∷ [])
  unfolding refusal causes keeper_causes own_causes numbered
  reply_past none = first_rest before _ refl none

-- A reply whose request was found, in a keeper that counts as started.
pub record Found (k : Keeper) (peer : ℕ) (reply : Interval) : Type 0 where
  pub started : counts_as_started k ≡ true
  pub small : peer ≤ 15
  pub within : edges_within reply ≡ true
  pub waits : bit_of k.waiting peer ≡ true
  pub soon : waited (state_of k) peer ≤ longest_wait

pub reply_found : (k : Keeper) (peer tag : ℕ) (reply : Interval)
    → first (own_causes (C.Reply peer tag reply) ++ wait_causes (state_of k) peer tag) ≡ 0 → Found k peer reply
unfolding own_causes state_of
reply_found k peer tag reply e =
    let none = none_before (state_of k) peer tag reply e in
    let limits = both (board_within peer && tag_within tag) (edges_within reply) (not-false _ none.0) in
    record {
      started = not-false _ none.1.0;
      small = board_bound peer (both (board_within peer) (tag_within tag) limits.0).0;
      within = limits.1;
      waits = (both _ _ (not-false _ none.1.1.1.0)).0;
      soon = ltb-false _ _ none.1.1.1.1.0;
    }
