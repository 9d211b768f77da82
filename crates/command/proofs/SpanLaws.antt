-- Laws of a window's span: the number of its refusal is that of the form's first cause.
use mathlib.Core.Path.{◌≡◌, sym, ap, ◌∙◌}
use mathlib.Core.Bool.{◌&&◌}
use Prim.Native.Nat.{ℕ}
use lib.Signed.{lt_z}
use Rattle.std.specs.Prelude.{Ok, Err}
use Rattle.bits.proofs.Tests.{by_test}
use Rattle.calendar.specs.Calendar.{exists}
use Rattle.calendar.specs.Conversion.{moment_of}
use Rattle.calendar.specs.declared.Date.{Date}
use Rattle.moment.specs.declared.Interval.{Interval}
use Rattle.refusal.specs.Refusal.{number, number_of}
use Rattle.refusal.specs.declared.Refusal.{Refusal}
use Rattle.command.specs.Forms.{window}
use Rattle.command.specs.Limits.{slot_within}
use Rattle.command.specs.Causes.{first, form_causes}
use Rattle.command.specs.Windows.{span_of, window_span}

module _ (slot : ℕ) (begins ends : Date) where
  -- the number of the span's refusal, 0 if it has none, is that of the first cause
  pub span_number : number_of (window_span slot begins ends) ≡ first (form_causes (window slot begins ends))
  unfolding window_span first
  span_number =
      by_test (slot_within slot)
      (λ s. by_test (exists begins && exists ends)
      (λ d. by_test (lt_z (moment_of begins) (moment_of ends)) (λ l. rw (s, d, l)) (λ l. rw (s, d, l)))
      (λ d. rw (s, d)))
      (λ s. rw s)

  pub span_caused : (r : Refusal) → window_span slot begins ends ≡ Err r → first (form_causes (window slot begins ends)) ≡ number r
  span_caused r e = sym span_number ∙ ap number_of e

  pub span_uncaused : (s : Interval) → window_span slot begins ends ≡ Ok s → (s ≡ span_of begins ends) × (first (form_causes (window slot begins ends)) ≡ 0)
  unfolding window_span
  span_uncaused s e =
      let n = first (form_causes (window slot begins ends)) in
      let none : n ≡ 0 = sym span_number ∙ ap number_of e in
      let is : Ok (span_of begins ends) ≡ Ok s = rw none at e in
      (cc, none)
