-- A word, a number and the end.
use native.Mathlib.Omega.{arith}
use mathlib.Core.List.{append_assoc}
use Rattle.writing.proofs.PutsLaws.{one_put, ◌then◌, puts_same}
use Rattle.answers.specs.Answers.{window_word, line_of}
use Rattle.answers.proofs.LineLaws.{numbered_short, window_most}
use Rattle.answers.proofs.heater_line.Goals as goal

pub returns : goal.returns
unfolding line_of
returns c k =
    let x = c.args in
    numbered_short (window_word x.window) x.slot (window_most x.window) (omega (arith, c.ranges))
    (puts_same (c.put_window-at.ensures then one_put c.put_number-at.ensures then one_put c.put_bytes.ensures) (simp append_assoc))
