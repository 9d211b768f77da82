-- What becomes of a window before a keeper is looked at: document 02, order 3.
use Rattle.std.specs.Prelude.{ℕ, eqb, Result, Ok, Err}
use Rattle.bits.specs.Choice.{choose}
use Rattle.moment.specs.Intervals.{interval}
use Rattle.moment.specs.declared.Interval.{Interval}
use Rattle.calendar.specs.Conversion.{moment_of}
use Rattle.calendar.specs.declared.Date.{Date}
use Rattle.command.specs.Forms.{window}
use Rattle.command.specs.Causes.{first, form_causes}
use Rattle.refusal.specs.declared.Refusal.{Refusal}
use Rattle.refusal.specs.declared.Refusal.TheVariants.{OutsideLimits, NoDate, EmptyWindow}

-- The moments of the two dates. 'The window holds its first moment and not its last.'
abbrev pub span_of : Date → Date → Interval
span_of begins ends = interval (moment_of begins) (moment_of ends)

-- The cause that has the number: of a window's own it is 2, 11 or 12.
abbrev pub own_cause : ℕ → Refusal
own_cause n = choose (eqb n 2) (λ _. OutsideLimits) (λ _. choose (eqb n 11) (λ _. NoDate) (λ _. EmptyWindow))

-- The span, if no cause of the form's own holds, or the first that does.
unfoldable pub window_span : ℕ → Date → Date → Result Interval Refusal
window_span slot begins ends =
    let n = first (form_causes (window slot begins ends)) in
    choose (eqb n 0) (λ _. Ok (span_of begins ends)) (λ _. Err (own_cause n))
