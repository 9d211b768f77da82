-- A tick, the wait and the flight times are short, so the edges with them fit.
use native.Mathlib.Omega.{arith}
use mir.Facts.{to_z-of_z}
use Rattle.moment.proofs.Integers.{got, widened}
use Rattle.rules.specs.Rules.{bracket}
use Rattle.moment.proofs.Within.{lower_fits, upper_fits, within_read}
use Rattle.rules.proofs.Fits.{one_tick, tick_bound, wait_bound, trailing_fits, leading_fits, later_fits, sooner_fits}
use Rattle.rules.proofs.edges.bracket_of.Goals as goal

pub returns : goal.returns
unfolding bracket
returns c =
    let x = c.args in
    let h = within_read x.reply c.requires.reply_value in
    let n = wait_bound x.w x.claim (omega arith) (omega arith) in
    let one = tick_bound x.claim (omega arith) in
    let t = c.longest_span in
    let l = c.longest_span-2 in
    rw (
      to_z-of_z (lower_fits x.reply h),
      to_z-of_z (upper_fits x.reply h),
      got t.result t.type_inv,
      got l.result l.type_inv,
      one_tick x.claim t.ensures,
      l.ensures,
      to_z-of_z (trailing_fits x.reply h _ one),
      to_z-of_z (leading_fits x.reply h _ n),
      widened x.back (omega arith),
      widened x.out (omega arith),
      to_z-of_z (later_fits x.reply h _ x.back one (omega arith)),
      to_z-of_z (sooner_fits x.reply h _ x.out n (omega arith)),
    )
