-- Laws of lines that are answered one after the other: none, and one more.
use mathlib.Core.Path.{◌≡◌, refl, sym, ap, ◌∙◌}
use mathlib.Core.Bool.{true, false}
use mathlib.Core.List.{List, [], ◌∷◌, ◌++◌, append_assoc, append-nil}
use Prim.Native.Nat.{ℕ, suc, ◌+◌, ◌-◌, ◌≤◌, ◌<◌}
use native.Mathlib.Omega.{arith}
use lib.ListN.{length, take, drop, length-append, length-drop, drop_of_length-le}
use lib.Seq.{take_all, take_at, drop_at, drop-drop}
use Rattle.keeper.specs.declared.Keeper.{Keeper}
use Rattle.keeper.specs.declared.Answer.{Answer}
use Rattle.line.specs.Call.{answered, keeper_after, answer_line, Wrote}
use Rattle.line.proofs.ResponseLaws.{wrote_within}
use Rattle.lines.specs.Lines.{lf, breaks, line_length, joined}
use Rattle.lines.proofs.LineLaws.{joined_append, unbroken_append, line_whole, line_unbroken, whole_breaks, open_breaks}
use Rattle.stream.specs.Stream.{through, answers_to}
use Rattle.stream.proofs.Answering.{through_append, answers_append}
use Rattle.serve.specs.Serving.{keeper_next, answer_to, answers, Answered, LinesAnswered}
use Rattle.writing.specs.Puts.{least_output}

-- A line is answered: the keeper after it, and its answer at the front of an output that has room for one.
pub record Step (k : Keeper) (l before : List ℕ) (next : Keeper) (after : List ℕ) (n : ℕ) : Type 0 where
  pub keeper_is : next ≡ (answered k l).keeper
  pub wrote : Wrote (answered k l).answer (answered k l).keeper before after n

-- the keeper after a line that is given enough output
next_is : (k : Keeper) (l : List ℕ) → (answered k l).keeper ≡ keeper_next k l
unfolding keeper_after
next_is k l = refl

pub none_answered : (k : Keeper) (bytes out : List ℕ) → Answered k bytes out k bytes 0 out
unfolding through answers_to joined
none_answered k bytes out =
    record {
      lines = [];
      bytes_are = refl;
      whole = tt;
      keeper_is = refl;
      output = refl;
      filled_is = refl;
    }

-- bytes and an LF written behind what was written before
more_written : (w before out b : List ℕ) (filled : ℕ) → out ≡ w ++ drop (length w) before → filled ≡ length w
    → take filled out ++ (b ++ lf ∷ drop (length b + 1) (drop filled out)) ≡ w ++ (b ++ lf ∷ []) ++ drop (length (w ++ (b ++ lf ∷ []))) before
more_written w before out b filled e f =
    let front : take filled out ≡ w = ap (λ (o : List ℕ). take filled o) e ∙ take_at w (drop (length w) before) filled (sym f) in
    let behind : drop filled out ≡ drop (length w) before = ap (λ (o : List ℕ). drop filled o) e ∙ drop_at w (drop (length w) before) filled (sym f) in
    let size : length (w ++ (b ++ lf ∷ [])) ≡ length w + (length b + 1) = rw (length-append w (b ++ lf ∷ []), length-append b (lf ∷ [])) in
    rw (front, behind, drop-drop (length b + 1) (length w) before, size, append_assoc w (b ++ lf ∷ []), append_assoc b (lf ∷ []))

-- One more line: `l` ends at an LF, it was answered behind what was written, and `more` follows.
pub one_answered : (l more : List ℕ) {k now next : Keeper} {bytes before rest out part out' : List ℕ} {filled n : ℕ}
    → Answered k bytes before now rest filled out → rest ≡ l ++ lf ∷ more → breaks l ≡ 0
    → Step now l (drop filled out) next part n → out' ≡ take filled out ++ part → Answered k bytes before next more (filled + n) out'
unfolding through answers_to joined
one_answered l more {k} {now} {next} {bytes} {before} {rest} {out} {part} {out'} {filled} {n} a here unbroken step e =
    let wrote = step.wrote in
    let b = answer_line now l in
    let more_answers : answers k (a.lines ++ l ∷ []) ≡ answers k a.lines ++ (b ++ lf ∷ []) =
    answers_append keeper_next answer_to k a.lines (l ∷ []) ∙ rw (← a.keeper_is, append-nil (b ++ lf ∷ []))
    in
    record {
      lines = a.lines ++ l ∷ [];
      bytes_are =
          a.bytes_are
          ∙ ap (λ (r : List ℕ). joined a.lines ++ r) here
          ∙ sym (rw (joined_append a.lines (l ∷ []), append_assoc (joined a.lines) (l ++ lf ∷ []) more, append_assoc l (lf ∷ []) more));
      whole = unbroken_append a.lines (l ∷ []) a.whole (unbroken, tt);
      keeper_is =
          step.keeper_is
          ∙ next_is now l
          ∙ ap (λ (x : Keeper). keeper_next x l) a.keeper_is
          ∙ sym (through_append keeper_next k a.lines (l ∷ []));
      output =
          rw more_answers
          (e ∙ ap (λ (x : List ℕ). take filled out ++ x) wrote.output ∙ more_written (answers k a.lines) before out b filled a.output a.filled_is);
      filled_is =
          rw (more_answers, length-append (answers k a.lines) (b ++ lf ∷ []), length-append b (lf ∷ [])) (omega (arith, a.filled_is, wrote.written));
    }

-- ---- in the buffers of the program

-- the part of an output that is lent, and that comes back
part_lent : (out : List ℕ) (filled : ℕ) → take (length out - filled) (drop filled out) ≡ drop filled out
part_lent out filled = take_all (length out - filled) (drop filled out) (simp length-drop (omega arith))

-- the part has the room that is left
pub part_room : (out : List ℕ) (filled : ℕ) → least_output ≤ length out - filled → least_output ≤ length (take (length out - filled) (drop filled out))
part_room out filled h = rw (part_lent out filled) (simp length-drop h)

part_back : (out part : List ℕ) (filled : ℕ) → take filled out ++ (part ++ drop (length out - filled) (drop filled out)) ≡ take filled out ++ part
part_back out part filled =
    let past : length (drop filled out) ≤ length out - filled = simp length-drop (omega arith) in
    rw (drop_of_length-le (drop filled out) past, append-nil part)

-- The line that begins at `from` ends at the LF at `at`: it is answered on the part of the output behind what is filled.
pub line_answered : (bytes : List ℕ) (from at : ℕ) {k now next : Keeper} {all before out part : List ℕ} {filled n : ℕ}
    → Answered k all before now (drop from bytes) filled out → at ≡ from + line_length (drop from bytes) → at < length bytes
    → Step now (take (at - from) (drop from bytes)) (take (length out - filled) (drop filled out)) next part n
    → Answered k all before next (drop (at + 1) bytes) (filled + n) (take filled out ++ (part ++ drop (length out - filled) (drop filled out)))
line_answered bytes from at {out = out} {part = part} {filled = filled} a e within step =
    let rest = drop from bytes in
    let size : at - from ≡ line_length rest = omega arith in
    let ends : line_length rest < length rest = simp length-drop (omega arith) in
    let place : from + suc (line_length rest) ≡ at + 1 = omega arith in
    let behind : drop (suc (line_length rest)) rest ≡ drop (at + 1) bytes = rw (drop-drop (suc (line_length rest)) from bytes, place) in
    one_answered (take (at - from) rest) (drop (at + 1) bytes) a
    (line_whole rest ends ∙ rw (size, behind))
    (rw size (line_unbroken rest))
    (rw (part_lent out filled) at step)
    (part_back out part filled)

-- what is written lies within the output
pub filled_within : (out : List ℕ) (filled : ℕ) {a : Answer} {k : Keeper} {part : List ℕ} {n : ℕ} → filled ≤ length out
    → length part ≡ length (take (length out - filled) (drop filled out)) → Wrote a k (take (length out - filled) (drop filled out)) part n
    → filled + n ≤ length out
filled_within out filled h same wrote = omega (arith, wrote_within wrote same, length-drop filled out, ap length (part_lent out filled))

-- the end: a whole line is left and there is no room, or none is left
pub stopped_full : (bytes : List ℕ) (from at : ℕ) {k now : Keeper} {all before out : List ℕ} {filled : ℕ}
    → Answered k all before now (drop from bytes) filled out → at ≡ from + line_length (drop from bytes) → at < length bytes
    → length before < filled + least_output → LinesAnswered k all before now (drop from bytes) filled true out
stopped_full bytes from at a e within room =
    record {
      answered = a;
      more = λ _. (whole_breaks (drop from bytes) (simp length-drop (omega arith)), room);
      done = λ t. absurd (let z : ◌≡◌ {A = ℕ} 0 1 = cc in omega arith);
    }

pub stopped_done : (bytes : List ℕ) (from at : ℕ) {k now : Keeper} {all before out : List ℕ} {filled : ℕ}
    → Answered k all before now (drop from bytes) filled out → at ≡ from + line_length (drop from bytes) → length bytes ≤ at
    → LinesAnswered k all before now (drop from bytes) filled false out
stopped_done bytes from at a e past =
    record {
      answered = a;
      more = λ t. absurd (let z : ◌≡◌ {A = ℕ} 0 1 = cc in omega arith);
      done = λ _. open_breaks (drop from bytes) (simp length-drop (omega arith));
    }
