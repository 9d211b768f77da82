-- The parts are put in the order of the definition. The numbers are passed on by their bits, which are read back as they were.
use mathlib.Core.Path.{ap}
use Rattle.text.proofs.OutputLaws.{put_same}
use Rattle.numeral.specs.Digits.{signed_digits}
use mir.Facts.{to_z-of_z}
use Rattle.writing.specs.Puts.{pair}
use Rattle.writing.proofs.PutsLaws.{one_put, ◌then◌, pair_most}
use Rattle.writing.proofs.put_pair.Goals as goal

pub returns : goal.returns
unfolding pair
returns c = (
  one_put c.put_bytes-at.ensures
      then one_put (put_same c.put_signed-at.ensures (ap signed_digits (to_z-of_z c.ranges.first)))
      then one_put c.put_bytes-at-2.ensures
      then one_put (put_same c.put_signed-at-2.ensures (ap signed_digits (to_z-of_z c.ranges.second)))
      then one_put c.put_bytes.ensures,
  pair_most c.args.first c.args.second c.ranges.first.sfits c.ranges.second.sfits,
)
