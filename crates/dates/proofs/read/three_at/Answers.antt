-- Each answer on the way is the next step of `three_at`.
use Rattle.std.proofs.Common.{sym, ◌∙◌}
use Rattle.dates.specs.DateReading.{three_at}
use Rattle.dates.proofs.read.three_at.Goals as goal

pub returns-in_err-first : goal.returns-in_err-first
unfolding three_at
returns-in_err-first c = c.from_residual.ensures ∙ sym (rw (sym c.two_at.ensures ∙ c.in_err-first.was))

pub returns-in_err-at : goal.returns-in_err-at
unfolding three_at
returns-in_err-at c = c.from_residual-in_err-at.ensures ∙ sym (rw (sym c.two_at.ensures ∙ c.in_ok-first.was, sym c.word_at.ensures ∙ c.in_err-at.was))

pub returns-in_err-second : goal.returns-in_err-second
unfolding three_at
returns-in_err-second c = c.from_residual-in_err-second.ensures ∙ sym (rw (sym c.two_at.ensures ∙ c.in_ok-first.was, sym c.word_at.ensures ∙ c.in_ok-at.was, sym c.two_at-2.ensures ∙ c.in_err-second.was))

pub returns-in_err-at-2 : goal.returns-in_err-at-2
unfolding three_at
returns-in_err-at-2 c = c.from_residual-in_err-at-2.ensures ∙ sym (rw (sym c.two_at.ensures ∙ c.in_ok-first.was, sym c.word_at.ensures ∙ c.in_ok-at.was, sym c.two_at-2.ensures ∙ c.in_ok-second.was, sym c.word_at-2.ensures ∙ c.in_err-at-2.was))

pub returns-in_err-third : goal.returns-in_err-third
unfolding three_at
returns-in_err-third c = c.from_residual-in_err-third.ensures ∙ sym (rw (sym c.two_at.ensures ∙ c.in_ok-first.was, sym c.word_at.ensures ∙ c.in_ok-at.was, sym c.two_at-2.ensures ∙ c.in_ok-second.was, sym c.word_at-2.ensures ∙ c.in_ok-at-2.was, sym c.two_at-3.ensures ∙ c.in_err-third.was))

pub returns : goal.returns
unfolding three_at
returns c = sym (rw (sym c.two_at.ensures ∙ c.in_ok-first.was, sym c.word_at.ensures ∙ c.in_ok-at.was, sym c.two_at-2.ensures ∙ c.in_ok-second.was, sym c.word_at-2.ensures ∙ c.in_ok-at-2.was, sym c.two_at-3.ensures ∙ c.in_ok-third.was))
