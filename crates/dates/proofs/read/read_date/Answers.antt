-- Each answer on the way is the next step of `date_at`.
use Rattle.std.proofs.Common.{sym, ◌∙◌}
use Rattle.dates.specs.DateReading.{date_at}
use Rattle.dates.proofs.read.read_date.Goals as goal

pub returns-in_err-hundreds : goal.returns-in_err-hundreds
unfolding date_at
returns-in_err-hundreds c = c.from_residual.ensures ∙ sym (rw (sym c.two_at.ensures ∙ c.in_err-hundreds.was))

pub returns-in_err-year : goal.returns-in_err-year
unfolding date_at
returns-in_err-year c = c.from_residual-in_err-year.ensures ∙ sym (rw (sym c.two_at.ensures ∙ c.in_ok-hundreds.was, sym c.three_at.ensures ∙ c.in_err-year.was))

pub returns-in_err-at : goal.returns-in_err-at
unfolding date_at
returns-in_err-at c = c.from_residual-in_err-at.ensures ∙ sym (rw (sym c.two_at.ensures ∙ c.in_ok-hundreds.was, sym c.three_at.ensures ∙ c.in_ok-year.was, sym c.word_at.ensures ∙ c.in_err-at.was))

pub returns-in_err-hour : goal.returns-in_err-hour
unfolding date_at
returns-in_err-hour c = c.from_residual-in_err-hour.ensures ∙ sym (rw (sym c.two_at.ensures ∙ c.in_ok-hundreds.was, sym c.three_at.ensures ∙ c.in_ok-year.was, sym c.word_at.ensures ∙ c.in_ok-at.was, sym c.three_at-2.ensures ∙ c.in_err-hour.was))

pub returns : goal.returns
unfolding date_at
returns c = sym (rw (sym c.two_at.ensures ∙ c.in_ok-hundreds.was, sym c.three_at.ensures ∙ c.in_ok-year.was, sym c.word_at.ensures ∙ c.in_ok-at.was, sym c.three_at-2.ensures ∙ c.in_ok-hour.was))
