-- The two tests in their order.
use Rattle.command.specs.Causes.{first}
use Rattle.form_lines.proofs.layouts.tested.Goals as goal

pub returns-then-short : goal.returns-then-short
unfolding first
returns-then-short c = rw c.if-short.true

pub returns-then-not-kept : goal.returns-then-not-kept
unfolding first
returns-then-not-kept c = rw (c.if-short.false, c.if-not-kept.true)

pub returns : goal.returns
unfolding first
returns c = rw (c.if-short.false, c.if-not-kept.false)
