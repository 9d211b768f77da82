-- A moment of the range moved by a span fits.
use mir.Facts.{to_z-of_z}
use Rattle.moment.proofs.Within.{within_read, lower_fits, upper_fits}
use Rattle.rules.specs.Rules.{adopted}
use Rattle.rules.proofs.Fits.{span_fits, lower_out_fits, upper_out_fits}
use Rattle.rules.proofs.edges.adopt.Goals as goal

pub returns : goal.returns
unfolding adopted
returns c =
    let x = c.args in
    let s = c.requires.span in
    let e = c.requires.reply_value in
    let h = within_read x.reply e in
    rw (
      to_z-of_z (lower_fits x.reply h),
      to_z-of_z (upper_fits x.reply h),
      to_z-of_z (span_fits x.span s),
      to_z-of_z (lower_out_fits x.reply h x.span s),
      to_z-of_z (upper_out_fits x.reply h x.span s),
    )
