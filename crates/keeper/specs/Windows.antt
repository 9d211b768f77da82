-- The answer to a window, from what it needs of a keeper: whether it counts as started, and the edges that are told. It serves the proof of a
-- private function: what a window does, `apply` says.
use Rattle.std.specs.Prelude.{Bool, not, [], ◌∷◌, ◌++◌, ℕ, eqb}
use Rattle.bits.specs.Choice.{choose}
use Rattle.moment.specs.declared.Interval.{Interval}
use Rattle.calendar.specs.declared.Date.{Date}
use Rattle.rules.specs.Windows.{window_state}
use Rattle.command.specs.Forms.{window}
use Rattle.command.specs.Causes.{cause, first, form_causes}
use Rattle.command.specs.Windows.{span_of}
use Rattle.keeper.specs.declared.Answer.{Answer}
use Rattle.keeper.specs.declared.Answer.TheVariants as A

-- The window's own causes come before 3.
unfoldable pub window_answer : Bool → Interval → ℕ → Date → Date → Answer
window_answer started edges slot begins ends =
    let n = first (form_causes (window slot begins ends) ++ cause 3 (not started) ∷ []) in
    choose (eqb n 0) (λ _. A.Heater slot (window_state (span_of begins ends) edges)) (λ _. A.Refused n)
