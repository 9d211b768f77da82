use mathlib.Core.Path.{sym, ◌∙◌}
use Rattle.peers.specs.Parts.{tags_alone}
use Rattle.places.proofs.Passed.{passed_all, passed_more, next_among}
use Rattle.peers.proofs.Waiters.{each_made, each_broken}
use Rattle.peers.proofs.tags_alone.Goals as goal

pub returns-then-not-tag_alone : goal.returns-then-not-tag_alone
unfolding tags_alone
returns-then-not-tag_alone c =
    let given = c.in-Some.ensures.steps in
    sym (each_broken _ _ _ given.0.within (next_among c.loop-p.invariant.2 given) (sym c.tag_alone.ensures ∙ c.if-not-tag_alone.true))

pub loop-p-preserved : goal.loop-p-preserved
loop-p-preserved c =
    (tt, tt, passed_more c.loop-p.invariant.2 c.in-Some.ensures.steps (λ q h. h) (sym c.tag_alone.ensures ∙ c.if-not-tag_alone.false))

pub returns : goal.returns
unfolding tags_alone
returns c = sym (each_made _ _ (passed_all c.loop-p.invariant.2 c.in-None.ensures.steps.0))
