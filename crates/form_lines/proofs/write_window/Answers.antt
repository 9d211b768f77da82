-- Refused by its cause, or the line at the front. What no cause refuses has room, and dates that exist.
use Rattle.std.proofs.lemmas.Result.{err_from_is_err_and}
use native.Mathlib.Omega.{arith}
use Rattle.dates.proofs.FitLaws.{exists_fits}
use Rattle.writing.proofs.PutsLaws.{one_put}
use Rattle.command.specs.Forms as F
use Rattle.command.specs.Causes.{form_causes}
use Rattle.command.proofs.SpellingLaws.{uncaused_dates, plain_most}
use Rattle.form_lines.specs.Written.{write_refusal, written_form}
use Rattle.form_lines.proofs.WrittenLaws.{refusal_none, writes_err, passed, writes_put}
use Rattle.form_lines.proofs.write_window.Goals as goal

pub returns-in_err-window_refusal : goal.returns-in_err-window_refusal
unfolding written_form write_refusal
returns-in_err-window_refusal c =
    let p = err_from_is_err_and c.from_residual.result c.from_residual.ensures.1 in
    rw (p.1, p.2) (writes_err _ _ _ c.in_err-window_refusal.was c.window_refusal.ensures)

pub put_window-length-requires : goal.put_window-length-requires
unfolding write_refusal
put_window-length-requires c =
    let x = c.args in
    let (room, none) = refusal_none (form_causes (F.window x.slot x.start x.end)) x.out.now (passed (form_causes (F.window x.slot x.start x.end)) x.out.now c.in_ok-window_refusal.was c.window_refusal.ensures) in
    let (b, e, later) = uncaused_dates x.slot x.start x.end none in
    record { least_output_in_bounds = room; fits = (exists_fits _ b, exists_fits _ e) }

pub returns : goal.returns
unfolding written_form write_refusal
returns c =
    let x = c.args in
    let f = F.window x.slot x.start x.end in
    let unrefused = passed (form_causes f) x.out.now c.in_ok-window_refusal.was c.window_refusal.ensures in
    let short = plain_most f (refusal_none (form_causes f) x.out.now unrefused).1 in
    writes_put _ _ _ _ _ unrefused (omega (arith, short)) (one_put c.put_window-length.ensures)
