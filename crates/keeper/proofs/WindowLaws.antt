-- The answer to a window, by its span: its own refusals, then 3, then the word; and that it is what the command does.
use mathlib.Core.Path.{◌≡◌, refl, sym, ◌∙◌}
use mathlib.Core.Bool.{Bool, true, false, not}
use mathlib.Core.List.{List, [], ◌∷◌, ◌++◌}
use Prim.Native.Nat.{ℕ}
use borrow.Author.Tests.{eqb-false}
use lib.Dec.{eqb}
use Rattle.std.specs.Prelude.{Ok, Err}
use Rattle.refusal.specs.Refusal.{number}
use Rattle.refusal.specs.declared.Refusal.{Refusal}
use Rattle.refusal.proofs.Numbers.{not_zero}
use Rattle.bits.proofs.Tests.{by_test}
use Rattle.moment.specs.declared.Interval.{Interval}
use Rattle.calendar.specs.declared.Date.{Date}
use Rattle.rules.specs.Rules.{told}
use Rattle.rules.specs.Windows.{window_state}
use Rattle.command.specs.Forms as F
use Rattle.command.specs.Causes.{Cause, cause, first, form_causes, own_causes}
use Rattle.command.specs.Windows.{span_of, window_span}
use Rattle.command.proofs.SpanLaws.{span_caused, span_uncaused}
use Rattle.command.specs.declared.Command.TheVariants as C
use Rattle.command.proofs.CauseLaws.{numbered, first_front, first_rest}
use Rattle.keeper.specs.State.{state_of, counts_as_started}
use Rattle.keeper.specs.Refusals.{keeper_causes, causes, refusal}
use Rattle.keeper.specs.Apply.{outcome_of, accepted, apply}
use Rattle.keeper.specs.Windows.{window_answer}
use Rattle.keeper.specs.declared.Keeper.{Keeper}
use Rattle.keeper.specs.declared.Answer.TheVariants as A

module _ (slot : ℕ) (begins ends : Date) where
  abbrev own : List Cause
  own = form_causes (F.window slot begins ends)

  module _ (edges : Interval) where
    pub answer_refused : (started : Bool) (r : Refusal) → window_span slot begins ends ≡ Err r → A.Refused (number r) ≡ window_answer started edges slot begins ends
    unfolding window_answer
    answer_refused started r h =
        let is : first own ≡ number r = span_caused slot begins ends r h in
        let all = first_front own (cause 3 (not started) ∷ []) (λ e. eqb-false _ _ (not_zero r) (sym is ∙ e)) in
        rw (all, is, not_zero r)

    past_own : (started : Bool) → first own ≡ 0 → first (own ++ cause 3 (not started) ∷ []) ≡ first (cause 3 (not started) ∷ [])
    unfolding numbered
    past_own started none = first_rest own (cause 3 (not started) ∷ []) refl none

    pub answer_not_started : {started : Bool} (w : Interval) → started ≡ false → window_span slot begins ends ≡ Ok w → A.Refused 3 ≡ window_answer started edges slot begins ends
    unfolding window_answer first
    answer_not_started {started} w off h =
        let (is, none) = span_uncaused slot begins ends w h in
        rw (past_own started none, off)

    pub answer_heater : {started : Bool} (w : Interval) → started ≡ true → window_span slot begins ends ≡ Ok w
        → A.Heater slot (window_state w edges) ≡ window_answer started edges slot begins ends
    unfolding window_answer first
    answer_heater {started} w on h =
        let (is, none) = span_uncaused slot begins ends w h in
        rw (past_own started none, on, is)

  -- the keeper stays as it was, whatever is answered
  pub window_applied : (k : Keeper) → apply k (C.Window slot begins ends) ≡ outcome_of (window_answer (counts_as_started k) (told k.claim k.edges) slot begins ends) k
  unfolding apply refusal causes own_causes keeper_causes state_of accepted window_answer
  window_applied k = by_test (eqb (first (own ++ cause 3 (not (counts_as_started k)) ∷ [])) 0) (λ e. rw e) (λ e. rw e)
