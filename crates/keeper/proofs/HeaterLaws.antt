-- Document 02, order 3, of a keeper and two dates: the word of an accepted window is the one that says what is so of every moment from the
-- keeper's lower through its upper edge, as they are told (`window_told`).
use mathlib.Core.Path.{◌≡◌, sym, ap, ◌∙◌}
use mathlib.Core.Bool.{true}
use mathlib.Core.Logic.{◌↔◌}
use Prim.Native.Nat.{ℕ}
use lib.Signed.{lt_z}
use borrow.Author.Tests.{not-false}
use Rattle.moment.specs.Intervals.{interval}
use Rattle.moment.proofs.Integers.{ints}
use Rattle.moment.proofs.Within.{within_read}
use Rattle.calendar.specs.Conversion.{moment_of}
use Rattle.calendar.specs.declared.Date.{Date}
use Rattle.rules.specs.Rules.{told}
use Rattle.rules.specs.Windows.{Says}
use Rattle.rules.specs.declared.WindowState.{WindowState}
use Rattle.rules.proofs.Limits.{told_order}
use Rattle.rules.proofs.WindowLaws.{window_says}
use Rattle.command.specs.Causes.{own_causes}
use Rattle.command.specs.declared.Command.TheVariants as C
use Rattle.keeper.specs.State.{state_of, counts_as_started}
use Rattle.keeper.specs.Refusals.{keeper_causes, causes, refusal}
use Rattle.keeper.specs.Apply.{accepted, apply}
use Rattle.keeper.specs.declared.Keeper.{Keeper}
use Rattle.keeper.specs.declared.Answer.TheVariants as A
use Rattle.keeper.proofs.Causes.{accepted_none}
use Rattle.keeper.proofs.CallLaws.{apply_accepted}
use Rattle.keeper.proofs.StartedLaws.{started_read}

heater_is : {slot : ℕ} {a b : WindowState} → (A.Heater slot a ≡ A.Heater slot b) ↔ (a ≡ b)
heater_is {slot} = (λ h. cc, λ h. ap (λ (w : WindowState). A.Heater slot w) h)

pub window_told : (k : Keeper) (slot : ℕ) (begins ends : Date) → refusal (state_of k) (C.Window slot begins ends) ≡ 0
    → (w : WindowState) → ((apply k (C.Window slot begins ends)).answer ≡ A.Heater slot w) ↔ Says w (interval (moment_of begins) (moment_of ends)) (told k.claim k.edges)
unfolding accepted causes own_causes keeper_causes state_of
window_told k slot begins ends none w =
    let c = accepted_none (state_of k) (C.Window slot begins ends) none in
    let later : lt_z (moment_of begins) (moment_of ends) ≡ true = not-false _ c.1.1.0 in
    let start : counts_as_started k ≡ true = not-false _ c.1.1.1.0 in
    let s = window_says (interval (moment_of begins) (moment_of ends)) (told k.claim k.edges) (told_order k.claim k.edges (within_read k.edges (started_read k start).edges).order) (omega ints) w in
    let is = ap (λ (o : _). o.answer) (apply_accepted k (C.Window slot begins ends) none) in
    (λ h. s.0 (heater_is.0 (sym is ∙ h)), λ h. is ∙ heater_is.1 (s.1 h))
