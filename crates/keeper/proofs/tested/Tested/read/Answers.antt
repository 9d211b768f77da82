-- The edges of a keeper that counts as started are in order, so centre and error fit.
use mathlib.Core.Path.{◌≡◌, refl, sym, ◌∙◌}
use mathlib.Core.Bool.{true}
use Rattle.command.specs.declared.Command.TheVariants as C
use Rattle.keeper.specs.State.{state_of}
use Rattle.command.specs.Causes.{first, own_causes}
use Rattle.keeper.specs.Refusals.{refusal, causes, keeper_causes}
use Rattle.keeper.specs.Apply.{accepted}
use Rattle.keeper.proofs.CallLaws.{apply_refused, apply_accepted}
use Rattle.moment.specs.Intervals.{edges_within}
use Rattle.moment.proofs.Integers.{got}
use Rattle.keeper.proofs.StartedLaws.{started_read}
use Rattle.keeper.proofs.tested.Tested.read.Goals as goal

pub returns-then-not-started : goal.returns-then-not-started
unfolding refusal first causes own_causes keeper_causes state_of
returns-then-not-started c =
    let x = c.args in
    c.refused.ensures
    ∙ sym
    (apply_refused x.self.keeper (C.Read) 3 refl
    (rw (sym c.args.self.counted ∙ c.if-not-started.true)))

pub told_of-requires : goal.told_of-requires
told_of-requires c =
    let own-edges : edges_within c.args.self.keeper.edges ≡ true =
    (started_read c.args.self.keeper (sym c.args.self.counted ∙ c.if-not-started.false)).edges
    in
    own-edges

pub centre_of-requires : goal.centre_of-requires
centre_of-requires c =
    let own-edges : edges_within c.args.self.keeper.edges ≡ true =
    (started_read c.args.self.keeper (sym c.args.self.counted ∙ c.if-not-started.false)).edges
    in
    own-edges

pub error_of-requires : goal.error_of-requires
error_of-requires c =
    let own-edges : edges_within c.args.self.keeper.edges ≡ true =
    (started_read c.args.self.keeper (sym c.args.self.counted ∙ c.if-not-started.false)).edges
    in
    own-edges

pub returns : goal.returns
unfolding refusal first causes own_causes keeper_causes state_of accepted
returns c =
    let x = c.args in
    let m = c.centre_of in
    let e = c.error_of in
    rw (c.told_of.ensures, c.count_of.ensures, got m.result m.type_inv, got e.result e.type_inv, m.ensures, e.ensures)
    (sym (apply_accepted x.self.keeper C.Read (rw (sym c.args.self.counted ∙ c.if-not-started.false))))
