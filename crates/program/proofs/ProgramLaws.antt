-- The program's turns are turns over its input, however it is cut into reads, and so what it writes is the answers to the lines of its input.
use mathlib.Core.Path.{◌≡◌, refl, sym, ap, ◌∙◌}
use mathlib.Core.Bool.{Bool, true, false}
use mathlib.Core.List.{List, [], ◌∷◌, ◌++◌, map}
use Prim.Native.Nat.{ℕ, ◌+◌, ◌<◌}
use native.Mathlib.Omega.{arith}
use borrow.Author.Tests.{lt-leb}
use lib.ListN.{length, take}
use lib.Seq.{take-add, drop-append-le, length-take-le}
use Rattle.std.specs.Prelude.{Err}
use Rattle.refusal.specs.declared.Refusal.TheVariants.{NoShape}
use Rattle.reader.specs.Reading.{longest_line, reading_of}
use Rattle.keeper.specs.State.{fresh}
use Rattle.keeper.specs.declared.Keeper.{Keeper}
use Rattle.line.specs.Call.{answered, keeper_after}
use Rattle.history.specs.Demand3.{keeper_through}
use Rattle.bits.proofs.Tests.{clash, by_test}
use Rattle.history.proofs.Theorem.{demand_3}
use Rattle.lines.specs.Lines.{breaks, lines_of}
use Rattle.stream.specs.Stream.{through, Step, all_got, all_written, ending, Turn, Turns, Ran, LongAlike}
use Rattle.stream.proofs.More.{got_more, written_more, turns_more}
use Rattle.stream.proofs.SoFar.{whole_lines_answered}
use Rattle.stream.proofs.Theorem.{answers_the_input}
use Rattle.serve.specs.Serving.{keeper_next, answer_to}
use Rattle.program.specs.Turning.{between, InOrder, Turned}
use Rattle.program.specs.Reading.{Values, Read}
use Rattle.program.specs.Program.{came, Program, begun, turned, input_of, AnswersTheLines, AnswersTheWholeLines}
use Rattle.program.specs.declared.turn.Stream.{Stream}

-- ---- every line that is too long is answered alike

too_long : (l : List ℕ) → longest_line < length l → reading_of l ≡ Err NoShape
unfolding reading_of
too_long l h = rw (lt-leb _ _ h)

same_answered : (k : Keeper) (a b : List ℕ) → longest_line < length a → longest_line < length b → answered k a ≡ answered k b
unfolding answered
same_answered k a b h i = rw (too_long a h, too_long b i)

pub long_alike : LongAlike keeper_next answer_to longest_line
unfolding keeper_after
long_alike k a b h i =
    let same = same_answered k a b h i in
    (rw same, rw same)

-- ---- the keeper is that of demand 3's run

through_is : (k : Keeper) (ls : List (List ℕ)) → through keeper_next k ls ≡ keeper_through k (map input_of ls)
unfolding through keeper_through
through_is k [] = refl
through_is k (l ∷ ls) = through_is (keeper_next k l) ls

-- ---- the turns of the loop

-- what a read brings stands behind what was left
pub between_more : {buffer : List ℕ} (s : Stream) {g : Values} {buffer₁ : List ℕ} → InOrder s buffer → Read s buffer g buffer₁
    → between buffer₁ s.from (s.end + g.count) ≡ between buffer s.from s.end ++ came s g buffer₁
between_more {buffer} s {g} {buffer₁} o r =
    let size : length (take s.end buffer) ≡ s.end = length-take-le s.end buffer o.within in
    rw (take-add s.end g.count buffer₁, r.kept, drop-append-le s.from (take s.end buffer) (came s g buffer₁) (omega (arith, size, o.order)))

-- The program's turns so far, as turns over its input.
record Reached (s : Stream) (buffer input written : List ℕ) : Type 0 where
  pub steps : List Step
  pub in_order : InOrder s buffer
  pub turns : Turns keeper_next answer_to longest_line fresh [] false steps s.keeper (between buffer s.from s.end) s.full
  pub got : input ≡ all_got steps
  pub wrote : written ≡ all_written steps

reached : {s : Stream} {buffer input written : List ℕ} → Program s buffer input written → Reached s buffer input written
reached begun =
    record {
      steps = [];
      in_order = record { order = omega arith; within = omega arith; front = λ _. (refl, omega arith) };
      turns = (refl, refl, refl);
      got = refl;
      wrote = refl;
    }
reached (turned {s} {r} {g} {buffer} {buffer₁} {buffer₂} {out} {out'} {input} {written} p read more t) =
    let before = reached p in
    let step : Step = record { got = came s g buffer₁; wrote = take r.filled out' } in
    record {
      steps = before.steps ++ step ∷ [];
      in_order = t.in_order;
      turns =
          turns_more keeper_next answer_to longest_line fresh [] false before.steps step s.keeper (between buffer s.from s.end) s.full
          before.turns (rw (between_more s before.in_order read) at t.turn);
      got = ap (λ (l : List ℕ). l ++ step.got) before.got ∙ sym (got_more before.steps step);
      wrote = ap (λ (l : List ℕ). l ++ step.wrote) before.wrote ∙ sym (written_more before.steps step);
    }

-- ---- the end of the input

whole_run : (steps : List Step) (k : Keeper) (left : List ℕ) (full : Bool) (input written : List ℕ) {k' : Keeper} {after o : List ℕ} {full' : Bool}
    → Turns keeper_next answer_to longest_line fresh [] false steps k left full → full ≡ false → input ≡ all_got steps → written ≡ all_written steps
    → Turn keeper_next answer_to longest_line k (left ++ ending left) k' after o full' → AnswersTheLines input (written ++ o) k'
whole_run steps k left full input written {k'} {after} {o} {full'} turns none got wrote t =
    let ran : Ran keeper_next answer_to longest_line fresh steps o k' =
    record { before = k; left = left; turns = rw none at turns; after = after; full = full'; ended = t }
    in
    let all = answers_the_input keeper_next answer_to longest_line long_alike fresh steps o k' ran in
    record {
      answers = rw (got, wrote) all.written;
      keeper_is = rw got (all.state ∙ through_is fresh (lines_of (all_got steps)));
      demand = demand_3 (map input_of (lines_of input));
    }

module _
    {s r : Stream} {g : Values} {buffer buffer₁ buffer₂ out out' input written : List ℕ}
    (p : Program s buffer input written) (read : Read s buffer g buffer₁) (last : g.last ≡ true) (whole : g.failed ≡ false)
    (t : Turned s g.count buffer₁ out r buffer₂ out')
  where
    -- the end is seen only where no whole line is left
    none_waits : s.full ≡ false
    none_waits = by_test s.full (λ f. absurd (clash {t = g.last} last (read.waits f).1)) (λ f. f)

    -- what is left stands at the front, and the last turn is over it and its ending
    at_end : between buffer₁ s.from (s.end + g.count) ≡ between buffer s.from s.end ++ ending (between buffer s.from s.end)
    at_end = rw ((reached p).in_order.front none_waits).0 (read.ended last whole)

    -- However the input was cut into reads, and also where a line is longer than the program holds: what was written is the answers to the
    -- lines of the input, in turn, a last line without LF included if it is not empty.
    pub program_answers : AnswersTheLines input (written ++ take r.filled out') r.keeper
    program_answers =
        let before = reached p in
        whole_run before.steps s.keeper (between buffer s.from s.end) s.full input written before.turns none_waits before.got
        before.wrote (rw at_end at t.turn)

-- ---- before the end

whole_lines : (steps : List Step) (k : Keeper) (left : List ℕ) (full : Bool) (input written : List ℕ)
    → Turns keeper_next answer_to longest_line fresh [] false steps k left full → full ≡ false → input ≡ all_got steps → written ≡ all_written steps
    → AnswersTheWholeLines input written k
whole_lines steps k left full input written turns none got wrote =
    let all = whole_lines_answered keeper_next answer_to longest_line long_alike fresh steps k left (rw none at turns) in
    record {
      answers = rw (got, wrote) all.0;
      keeper_is = rw got (all.1 ∙ through_is fresh (take (breaks (all_got steps)) (lines_of (all_got steps))));
    }

pub program_so_far : {s : Stream} {buffer input written : List ℕ} → Program s buffer input written → s.full ≡ false
    → AnswersTheWholeLines input written s.keeper
program_so_far {s} {buffer} {input} {written} p none =
    let before = reached p in
    whole_lines before.steps s.keeper (between buffer s.from s.end) s.full input written before.turns none before.got before.wrote
