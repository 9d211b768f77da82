-- Its form is written, and handed back as one number.
use mir.Facts.{to_z-of_z}
use Rattle.command.specs.Forms as F
use Rattle.form_lines.specs.Written.{written_form}
use Rattle.form_lines.proofs.WrittenLaws.{form_bounded}
use Rattle.boardtime_uplink.proofs.CommandLaws.{length_fits, returns_it, same_edges}
use Rattle.boardtime_uplink.proofs.boardtime_write_reply.Goals as goal

pub returned_of-requires : goal.returned_of-requires
returned_of-requires c = length_fits c.write_reply.ensures (form_bounded _ _).1

pub returns : goal.returns
returns c =
    let x = c.args in
    returns_it
    (same_edges (λ e. written_form (F.reply x.peer x.tag e) x.out.now) (to_z-of_z c.ranges.trailing) (to_z-of_z c.ranges.leading) c.write_reply.ensures)
    c.returned_of.ensures
