-- The parts are put in the order of the grammar. Before each date at most 50 bytes stand, so
-- that it has room.
use native.Mathlib.Omega.{arith}
use mathlib.Core.List.{append_assoc, append-nil}
use borrow.Author.Rules.{rules}
use lib.ListN.{length-append}
use Rattle.numeral.proofs.Digits.{digits_most}
use Rattle.dates.proofs.PlacedLaws.{date_length}
use Rattle.text.proofs.OutputLaws.{put_same}
use Rattle.writing.proofs.PutsLaws.{one_put, ◌then◌}
use Rattle.command.specs.Spelling.{plain_parts, plain_spelling}
use Rattle.window_lines.proofs.WindowLaws.{front_room}
use Rattle.window_lines.proofs.put_window.Goals as goal

pub put_date-at-requires : goal.put_date-at-requires
put_date-at-requires c =
    let x = c.args in
    let numeral = digits_most 19 x.slot (omega (arith, c.ranges)) in
    let front = one_put c.put_bytes-at.ensures then one_put c.put_number-at.ensures then one_put c.put_bytes-at-2.ensures in
    record { at_in_bounds = front_room 19 front (simp length-append (omega (arith, numeral, c.requires.least_output_in_bounds))); fits = search rules }

pub put_date-at-requires-2 : goal.put_date-at-requires-2
put_date-at-requires-2 c =
    let x = c.args in
    let numeral = digits_most 19 x.slot (omega (arith, c.ranges)) in
    let front = one_put c.put_bytes-at.ensures then one_put c.put_number-at.ensures then one_put c.put_bytes-at-2.ensures then one_put c.put_date-at.ensures then one_put c.put_bytes-at-3.ensures in
    record { at_in_bounds = front_room 19 front (simp length-append (omega (arith, numeral, date_length x.start, date_length x.end, c.requires.least_output_in_bounds))); fits = search rules }

pub returns : goal.returns
unfolding plain_spelling plain_parts
returns c =
    let x = c.args in
    let numeral = digits_most 19 x.slot (omega (arith, c.ranges)) in
    let all = one_put c.put_bytes-at.ensures then one_put c.put_number-at.ensures then one_put c.put_bytes-at-2.ensures then one_put c.put_date-at.ensures then one_put c.put_bytes-at-3.ensures then one_put c.put_date-at-2.ensures then one_put c.put_bytes.ensures in
    put_same
    (all.put (simp length-append (omega (arith, numeral, date_length x.start, date_length x.end, c.requires.least_output_in_bounds))))
    (simp (append_assoc, append-nil))
