-- Past the causes before it, the verdict is that of the definition, and refusal 5 goes by it.
use mathlib.Core.Path.{◌≡◌, refl, sym, ap, ◌∙◌}
use native.Mathlib.Omega.{arith}
use Rattle.moment.proofs.Integers.{got}
use Rattle.rules.specs.Verdict.{leaves}
use Rattle.rules.proofs.Fits.{wait_span}
use Rattle.command.specs.Causes.{first}
use Rattle.command.specs.declared.Command.TheVariants as C
use Rattle.keeper.specs.State.{state_of}
use Rattle.keeper.specs.Refusals.{reply_bracket, reply_verdict}
use Rattle.keeper.specs.Apply.{replied, accepted}
use Rattle.keeper.proofs.CallLaws.{apply_refused, apply_accepted, apply_err, reply_err, reply_past, reply_found}
use Rattle.keeper.proofs.StartedLaws.{started_read, sent_by}
use Rattle.keeper.proofs.tested.Tested.reply.Goals as goal

pub returns-in-Err : goal.returns-in-Err
returns-in-Err c =
    let x = c.args in
    c.refused.ensures ∙ apply_err x.self.keeper (C.Reply x.peer x.tag x.edges) _ (reply_err (state_of x.self.keeper) x.peer x.tag x.edges _ c.in-Err.ensures)

pub bounds-sent_at-peer : goal.bounds-sent_at-peer
bounds-sent_at-peer c =
    let x = c.args in
    let f = reply_found x.self.keeper x.peer x.tag x.edges (sym c.in_default.ensures) in
    omega (arith, f.small)

pub overflow_sub-w : goal.overflow_sub-w
overflow_sub-w c =
    let x = c.args in
    let f = reply_found x.self.keeper x.peer x.tag x.edges (sym c.in_default.ensures) in
    sent_by x.self.keeper x.peer (started_read x.self.keeper f.started) f.small f.waits

pub overflow_cast-w-2 : goal.overflow_cast-w-2
unfolding state_of
overflow_cast-w-2 c =
    let x = c.args in
    let f = reply_found x.self.keeper x.peer x.tag x.edges (sym c.in_default.ensures) in
    omega (arith, f.soon)

pub bounds-out-peer : goal.bounds-out-peer
bounds-out-peer c =
    let x = c.args in
    let f = reply_found x.self.keeper x.peer x.tag x.edges (sym c.in_default.ensures) in
    omega (arith, f.small)

pub bounds-back-peer : goal.bounds-back-peer
bounds-back-peer c =
    let x = c.args in
    let f = reply_found x.self.keeper x.peer x.tag x.edges (sym c.in_default.ensures) in
    omega (arith, f.small)

pub bracket_of-bracket-requires : goal.bracket_of-bracket-requires
unfolding state_of
bracket_of-bracket-requires c =
    let x = c.args in
    let f = reply_found x.self.keeper x.peer x.tag x.edges (sym c.in_default.ensures) in
    record { w_le_longest_wait = f.soon; reply_value = f.within }

pub judge-verdict-requires : goal.judge-verdict-requires
unfolding state_of
judge-verdict-requires c =
    let x = c.args in
    let f = reply_found x.self.keeper x.peer x.tag x.edges (sym c.in_default.ensures) in
    let o = c.outward_span-span in
    rw (got o.result o.type_inv, o.ensures) (record { span = wait_span _ x.self.keeper.claim f.soon (omega arith); reply_value = f.within; edges_value = (started_read x.self.keeper f.started).edges })

pub returns-then-leaves_the_range : goal.returns-then-leaves_the_range
unfolding first reply_verdict reply_bracket state_of
returns-then-leaves_the_range c =
    let verdict-is : c.judge-verdict.result ≡ reply_verdict (state_of c.args.self.keeper) c.args.peer c.args.edges =
    let o = c.outward_span-span in
    rw (c.judge-verdict.ensures, got o.result o.type_inv, o.ensures, c.bracket_of-bracket.ensures)
    in
    let x = c.args in
    let past = reply_past (state_of x.self.keeper) x.peer x.tag x.edges (sym c.in_default.ensures) in
    let leaves-it = ap leaves (sym verdict-is) ∙ sym c.leaves_the_range.ensures ∙ c.if-leaves_the_range.true in
    c.refused-then-leaves_the_range.ensures ∙ sym (apply_refused x.self.keeper (C.Reply x.peer x.tag x.edges) 5 refl (past ∙ rw leaves-it))

pub replied_with-requires : goal.replied_with-requires
replied_with-requires c =
    let x = c.args in
    let f = reply_found x.self.keeper x.peer x.tag x.edges (sym c.in_default.ensures) in
    let s = started_read x.self.keeper f.started in
    record { peer_bound = f.small; peer_value = f.waits; conflicts_le_most_requests = omega (arith, s.count, s.requests) }

pub returns : goal.returns
unfolding first accepted reply_verdict reply_bracket state_of
returns c =
    let verdict-is : c.judge-verdict.result ≡ reply_verdict (state_of c.args.self.keeper) c.args.peer c.args.edges =
    let o = c.outward_span-span in
    rw (c.judge-verdict.ensures, got o.result o.type_inv, o.ensures, c.bracket_of-bracket.ensures)
    in
    let x = c.args in
    let past = reply_past (state_of x.self.keeper) x.peer x.tag x.edges (sym c.in_default.ensures) in
    let stays = ap leaves (sym verdict-is) ∙ sym c.leaves_the_range.ensures ∙ c.if-leaves_the_range.false in
    c.replied_with.ensures
    ∙ ap (replied x.self.keeper x.peer) verdict-is
    ∙ sym (apply_accepted x.self.keeper (C.Reply x.peer x.tag x.edges) (past ∙ rw stays))
