-- The answer is the command's, and the keeper is handed back as it was.
use mathlib.Core.Path.{sym, ◌∙◌}
use Rattle.keeper.proofs.StartedLaws.{started_read}
use Rattle.keeper.proofs.WindowLaws.{window_applied}
use Rattle.keeper.proofs.tested.Tested.window.Goals as goal

pub window_answer-requires : goal.window_answer-requires
window_answer-requires c on = (started_read c.args.self.keeper (sym c.args.self.counted ∙ on)).edges

pub returns : goal.returns
returns c =
    let x = c.args in
    rw (c.window_answer.ensures, c.args.self.counted) (sym (window_applied x.slot x.start x.end x.self.keeper))
