-- `program::turn::turn` meets its contract: the lines are those that `answer_lines` answered, and what is left is what it left, or what `hold`
-- moved to the front.
use Rattle.std.proofs.Common.{◌≡◌, ℕ, suc, ◌+◌, take, arith, refl}
use lib.ListN.{length-take}
use Rattle.reader.specs.Reading.{longest_line}
use Rattle.serve.proofs.TurnLaws.{beyond_kept, filled_most, place_within, turned_full, turned_held}
use Rattle.program.proofs.StreamLaws.{held_front, held_within, held_most}
use Rattle.program.proofs.turn.turn.Goals as goal

pub returns-then-l : goal.returns-then-l
returns-then-l c =
    let l = c.answer_lines-l in
    let a = c.args in
    let inside = place_within (take (a.s.end + a.got) a.buffer.now) l.result.from (l.ensures.more c.if-l.true).0 in
    record {
      turn = turned_full l.ensures c.if-l.true (omega (arith, c.requires.2));
      beyond = beyond_kept l.ensures.answered;
      filled = filled_most l.ensures.answered;
      in_order =
          record {
            order = omega (arith, inside, length-take (a.s.end + a.got) a.buffer.now);
            within = omega (arith, c.requires.1);
            front = λ f. absurd (let z : ◌≡◌ {A = ℕ} 0 1 = cc in omega arith);
          };
    }

pub returns : goal.returns
returns c =
    let l = c.answer_lines-l in
    let h = c.hold-held in
    let a = c.args in
    record {
      turn = turned_held l.ensures c.if-l.false (held_front h.ensures);
      beyond = beyond_kept l.ensures.answered;
      filled = filled_most l.ensures.answered;
      in_order =
          record {
            order = omega arith;
            within = held_within h.ensures;
            front = λ _. (refl, omega (arith, h.ensures.count, held_most a.buffer.now l.result.from (a.s.end + a.got) (suc longest_line)));
          };
    }
