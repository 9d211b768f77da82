-- Both widths fit, so the test is the definition's.
use mir.Facts.{to_z-of_z}
use Rattle.moment.proofs.Within.{within_read, lower_fits, upper_fits, width_fits}
use Rattle.rules.specs.Rules.{no_wider}
use Rattle.rules.proofs.Fits.{span_fits, twice_fits, wide_fits}
use Rattle.rules.proofs.edges.no_wider.Goals as goal

pub overflow_add-wide-2 : goal.overflow_add-wide-2
overflow_add-wide-2 c =
    let x = c.args in
    let s = c.requires.span in
    let h = within_read x.reply c.requires.reply_value in
    rw (
      to_z-of_z (upper_fits x.reply h),
      to_z-of_z (lower_fits x.reply h),
      to_z-of_z (width_fits x.reply h),
      to_z-of_z (span_fits x.span s),
      to_z-of_z (twice_fits x.span s),
    ) (wide_fits x.reply h x.span s)

pub returns : goal.returns
unfolding no_wider
returns c =
    let x = c.args in
    let s = c.requires.span in
    let h = within_read x.reply c.requires.reply_value in
    let k = within_read x.edges c.requires.edges_value in
    rw (
      to_z-of_z (upper_fits x.reply h),
      to_z-of_z (lower_fits x.reply h),
      to_z-of_z (width_fits x.reply h),
      to_z-of_z (span_fits x.span s),
      to_z-of_z (twice_fits x.span s),
      to_z-of_z (wide_fits x.reply h x.span s),
      to_z-of_z (upper_fits x.edges k),
      to_z-of_z (lower_fits x.edges k),
      to_z-of_z (width_fits x.edges k),
    )
