-- The form by the number of its rule, and handed back as one number.
use mir.Facts.{to_z-of_z}
use Rattle.command.specs.Forms as F
use Rattle.form_lines.specs.Written.{written_by_rule}
use Rattle.form_lines.proofs.WrittenLaws.{by_rule_bounded}
use Rattle.boardtime_uplink.proofs.CommandLaws.{length_fits, returns_it, same_edges}
use Rattle.boardtime_uplink.proofs.boardtime_write_start.Goals as goal

pub returned_of-requires : goal.returned_of-requires
returned_of-requires c = length_fits c.write_start_with_rule_number.ensures (by_rule_bounded _ _ _).1

pub returns : goal.returns
returns c =
    let x = c.args in
    returns_it
    (same_edges (λ e. written_by_rule x.rule (λ r. F.start x.board r x.claim e) x.out.now) (to_z-of_z c.ranges.lower) (to_z-of_z c.ranges.upper) c.write_start_with_rule_number.ensures)
    c.returned_of.ensures
