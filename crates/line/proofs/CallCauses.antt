-- The law of the refusals for the whole call: the number returned is that of the first cause that holds, in the order 10, 1, 2 and the rest, and
-- 0 if none does.
use mathlib.Core.Path.{◌≡◌, refl, sym, ◌∙◌}
use mathlib.Core.Bool.{true}
use mathlib.Core.List.{List, ◌++◌}
use Prim.Native.Nat.{ℕ, suc}
use native.Mathlib.Omega.{arith}
use borrow.Author.Tests.{eqb-true, eqb-false}
use lib.Dec.{ltb, leb, eqb}
use lib.ListN.{length}
use Rattle.bits.specs.Choice.{choose}
use Rattle.bits.proofs.Tests.{by_test}
use Rattle.command.specs.Limits.{keeps, form_of}
use Rattle.command.specs.Causes.{first, date_causes, own_causes}
use Rattle.command.specs.declared.Command.{Command}
use Rattle.command.specs.declared.Command.TheVariants as C
use Rattle.std.specs.Prelude.{Option, Some, None, Ok, Err}
use Rattle.command.specs.Forms.{Form}
use Rattle.command.specs.Limits.{Reading, limited}
use Rattle.refusal.specs.Refusal as N
use Rattle.shapes.specs.Shapes.{read_as}
use Rattle.command.proofs.CauseLaws.{NoneHolds, FirstCause, numbered, first_made, first_found, first_none, none_first, first_front}
use Rattle.reader.specs.Reading.{longest_line, parse, reading_of}
use Rattle.reader.proofs.GrammarLaws.{reads_the_grammar}
use Rattle.keeper.specs.State.{State, state_of}
use Rattle.keeper.specs.Refusals.{keeper_causes, causes, refusal}
use Rattle.keeper.specs.Apply.{number_of}
use Rattle.keeper.specs.declared.Keeper.{Keeper}
use Rattle.keeper.proofs.Returned.{apply_number}
use Rattle.writing.specs.Puts.{least_output}
use Rattle.line.specs.Call.{by_reading, answered, number_after, is_no_shape, is_outside, command_causes, call_causes}

-- a command that was read is within its limits: its cause 2 does not hold
read_refusal : (s : State) (c : Command) → keeps (form_of c) ≡ true → refusal s c ≡ first (date_causes (form_of c) ++ keeper_causes s c)
unfolding refusal causes own_causes first
read_refusal s c e = rw e

-- the reader refuses with 1 or with 2
abbrev own_number : Reading → Type 0
own_number r = N.number_of r ≡ choose (is_no_shape r) (λ _. 1) (λ _. choose (is_outside r) (λ _. 2) (λ _. 0))

form_number : (o : Option Form) → own_number (read_as o)
unfolding limited
form_number None = refl
form_number (Some f) = by_test (keeps f) (λ t. rw t) (λ t. rw t)

reading_number : (line : List ℕ) → own_number (reading_of line)
unfolding reading_of
reading_number line = by_test (leb (length line) longest_line) (λ t. rw t (form_number (parse line))) (λ t. rw t)

pub number_first : (k : Keeper) (line : List ℕ) (room : ℕ) → number_after k line room ≡ first (call_causes k line room)
unfolding number_after call_causes answered first
number_first k line room =
    by_test (ltb room least_output)
    (λ t. rw t)
    (λ t. rw t (by_reading_lem (reading_of line) (λ c e. (((reads_the_grammar line).command c).0 e).1) (reading_number line)))
  where
    by_reading_lem : (r : Reading) → ((c : Command) → r ≡ Ok c → keeps (form_of c) ≡ true) → own_number r
        → number_of (by_reading r k).answer
        ≡ choose (is_no_shape r) (λ _. 1) (λ _. choose (is_outside r) (λ _. 2) (λ _. first (command_causes (state_of k) r)))
    by_reading_lem (Ok c) h p = apply_number k c ∙ read_refusal (state_of k) c (h c refl)
    by_reading_lem (Err r) h p = p

-- no cause has the number 0
command_numbered : (s : State) (r : Reading) → numbered (command_causes s r) ≡ true
unfolding keeper_causes numbered
command_numbered s (Ok (C.Start board rule claim edges)) = refl
command_numbered s (Ok (C.Pass ticks)) = refl
command_numbered s (Ok (C.Request peer)) = refl
command_numbered s (Ok (C.Reply peer tag edges)) = refl
command_numbered s (Ok (C.Drop peer)) = refl
command_numbered s (Ok C.Read) = refl
command_numbered s (Ok C.Waiting) = refl
command_numbered s (Ok (C.Window slot start end)) = refl
command_numbered s (Ok (C.Flight peer out back)) = refl
command_numbered s (Err r) = refl

module _ (k : Keeper) (line : List ℕ) (room : ℕ) where
  call_numbered : numbered (call_causes k line room) ≡ true
  unfolding call_causes numbered
  call_numbered = command_numbered (state_of k) (reading_of line)

  -- the number n is returned exactly if cause n holds and none before it
  pub returned_first : (n : ℕ) → number_after k line room ≡ suc n → FirstCause (call_causes k line room) (suc n)
  returned_first n e = first_found (call_causes k line room) n (sym (number_first k line room) ∙ e)

  pub first_returned : {n : ℕ} → FirstCause (call_causes k line room) n → number_after k line room ≡ n
  first_returned f = number_first k line room ∙ first_made f

  -- and 0 exactly if none holds
  pub returned_none : number_after k line room ≡ 0 → NoneHolds (call_causes k line room)
  returned_none e = first_none (call_causes k line room) call_numbered (sym (number_first k line room) ∙ e)

  pub none_returned : NoneHolds (call_causes k line room) → number_after k line room ≡ 0
  none_returned none = number_first k line room ∙ none_first (call_causes k line room) none

  -- a line for which the call returns 0, and that was read as a command: no cause of the command holds
  accepted_refusal : (c : Command) → reading_of line ≡ Ok c → number_after k line room ≡ 0 → refusal (state_of k) c ≡ 0
  unfolding number_after answered
  accepted_refusal c read e =
      by_test (ltb room least_output)
      (λ t. absurd (omega (arith, rw t at e)))
      (λ t. sym (apply_number k c) ∙ rw (t, read) at e)

  -- so none of its own does, and order 1's writer does not refuse the command of an accepted line
  pub accepted_own : (c : Command) → reading_of line ≡ Ok c → number_after k line room ≡ 0 → first (own_causes c) ≡ 0
  unfolding refusal causes
  accepted_own c read e =
      by_test (eqb (first (own_causes c)) 0)
      (λ t. eqb-true (first (own_causes c)) 0 t)
      (λ t.
      let some = eqb-false (first (own_causes c)) 0 t in
      absurd (some (sym (first_front (own_causes c) (keeper_causes (state_of k) c) some) ∙ accepted_refusal c read e)))
