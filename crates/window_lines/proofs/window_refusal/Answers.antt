-- The buffer first, then what the span says.
use mathlib.Core.Path.{sym, ◌∙◌}
use Rattle.std.proofs.lemmas.Result.{err_from_is_err_and}
use Rattle.command.specs.Causes.{first}
use Rattle.command.proofs.SpanLaws.{span_caused, span_uncaused}
use Rattle.window_lines.proofs.window_refusal.Goals as goal

pub returns-then-short : goal.returns-then-short
unfolding first
returns-then-short c = rw c.if-short.true

pub returns-in_err-window_span : goal.returns-in_err-window_span
unfolding first
returns-in_err-window_span c =
    let p = err_from_is_err_and c.from_residual.result c.from_residual.ensures.1 in
    rw (c.if-short.false, p.1, p.2) (sym (span_caused _ _ _ _ (sym c.window_span.ensures ∙ c.in_err-window_span.was)))

pub returns : goal.returns
unfolding first
returns c =
    rw c.if-short.false (sym (span_uncaused _ _ _ _ (sym c.window_span.ensures ∙ c.in_ok-window_span.was)).1)
