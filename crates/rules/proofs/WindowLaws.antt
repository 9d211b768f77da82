-- The word that is told of a window says what is so of every moment within the edges, and no other word does: `window_says`.
use mathlib.Core.Path.{◌≡◌, refl, sym, ◌∙◌, subst}
use mathlib.Core.Logic.{◌↔◌}
use lib.IntN.{ℤ}
use lib.Signed.{lt_z, ◌≤ℤ◌, ◌<ℤ◌}
use Rattle.bits.proofs.Tests.{by_test}
use Rattle.moment.specs.Intervals.{Holds}
use Rattle.moment.specs.declared.Interval.{Interval}
use Rattle.moment.proofs.Integers.{ints, make_le_z_true, make_le_z_false, make_lt_z_true, make_lt_z_false}
use Rattle.rules.specs.Windows.{Says, window_state}
use Rattle.rules.specs.declared.WindowState.{WindowState}
use Rattle.rules.specs.declared.WindowState.TheVariants.{Open, Shut, Unsure}

module _ (w e : Interval) where
  -- by the edges
  pub shut_before : e.upper <ℤ w.lower → window_state w e ≡ Shut
  unfolding window_state
  shut_before h = rw (make_lt_z_true e.upper w.lower (omega ints))

  pub shut_after : w.lower ≤ℤ e.upper → w.upper ≤ℤ e.lower → window_state w e ≡ Shut
  unfolding window_state
  shut_after h k = rw (make_lt_z_false e.upper w.lower (omega ints), make_le_z_true w.upper e.lower (omega ints))

  pub unsure_before : w.lower ≤ℤ e.upper → e.lower <ℤ w.upper → e.lower <ℤ w.lower → window_state w e ≡ Unsure
  unfolding window_state
  unsure_before h k l =
      rw (make_lt_z_false e.upper w.lower (omega ints), make_le_z_false w.upper e.lower (omega ints), make_le_z_false w.lower e.lower (omega ints))

  pub unsure_after : w.lower ≤ℤ e.upper → e.lower <ℤ w.upper → w.lower ≤ℤ e.lower → w.upper ≤ℤ e.upper → window_state w e ≡ Unsure
  unfolding window_state
  unsure_after h k l m =
      rw (
        make_lt_z_false e.upper w.lower (omega ints),
        make_le_z_false w.upper e.lower (omega ints),
        make_le_z_true w.lower e.lower (omega ints),
        make_lt_z_false e.upper w.upper (omega ints),
      )

  pub open_within : w.lower ≤ℤ e.upper → e.lower <ℤ w.upper → w.lower ≤ℤ e.lower → e.upper <ℤ w.upper → window_state w e ≡ Open
  unfolding window_state
  open_within h k l m =
      rw (
        make_lt_z_false e.upper w.lower (omega ints),
        make_le_z_false w.upper e.lower (omega ints),
        make_le_z_true w.lower e.lower (omega ints),
        make_lt_z_true e.upper w.upper (omega ints),
      )

-- one of two orders
either : {P : Type 0} (a b : ℤ) → (a <ℤ b → P) → (b ≤ℤ a → P) → P
either a b f g = by_test (lt_z a b) (λ t. f (omega ints)) (λ t. g (omega ints))

-- for edges in order, and a window that ends after it begins
module _ (w e : Interval) (order : e.lower ≤ℤ e.upper) (ends : w.lower <ℤ w.upper) where
  lower_held : Holds e e.lower
  lower_held = record { from = omega ints; through = omega ints }

  upper_held : Holds e e.upper
  upper_held = record { from = omega ints; through = omega ints }

  -- which word it is, and that it says what is so
  record Told : Type 0 where
    word : WindowState
    is : window_state w e ≡ word
    says : Says word w e

  found : Told
  found =
      either e.upper w.lower
      (λ a. record { word = Shut; is = shut_before w e a; says = λ m h i. omega ints })
      (λ a.
      either e.lower w.upper
      (λ b.
      either e.lower w.lower
      (λ c. record { word = Unsure; is = unsure_before w e a b c; says = (λ all. (let i = all e.lower lower_held in omega ints), λ no. no w.lower (omega ints) (omega ints)) })
      (λ c.
      either e.upper w.upper
      (λ d. record { word = Open; is = open_within w e a b c d; says = λ m h. omega ints })
      (λ d. record { word = Unsure; is = unsure_after w e a b c d; says = (λ all. (let i = all e.upper upper_held in omega ints), λ no. no e.lower lower_held (omega ints)) })))
      (λ b. record { word = Shut; is = shut_after w e a b; says = λ m h i. omega ints }))

  -- no two words say what is so
  one_word : (a b : WindowState) → Says a w e → Says b w e → a ≡ b
  one_word Open Open p q = refl
  one_word Open Shut p q = absurd (q e.lower lower_held (p e.lower lower_held))
  one_word Open Unsure p q = absurd (q.0 p)
  one_word Shut Open p q = absurd (p e.lower lower_held (q e.lower lower_held))
  one_word Shut Shut p q = refl
  one_word Shut Unsure p q = absurd (q.1 p)
  one_word Unsure Open p q = absurd (p.0 q)
  one_word Unsure Shut p q = absurd (p.1 q)
  one_word Unsure Unsure p q = refl

  pub window_says : (o : WindowState) → (window_state w e ≡ o) ↔ Says o w e
  window_says o = (λ h. subst (λ a. Says a w e) (sym found.is ∙ h) found.says, λ h. found.is ∙ one_word found.word o found.says h)
