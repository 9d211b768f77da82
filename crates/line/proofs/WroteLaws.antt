-- A line and its LF that are put at the front of the output are the answer written.
use mathlib.Core.Path.{◌≡◌, refl, ◌∙◌}
use mathlib.Core.Bool.{true}
use mathlib.Core.List.{List, [], ◌∷◌, ◌++◌, append_assoc}
use Prim.Native.Nat.{ℕ, ◌+◌, ◌≤◌}
use native.Mathlib.Nat.{zero-add}
use native.Mathlib.Omega.{arith}
use lib.ListN.{length, length-append}
use Rattle.text.proofs.OutputLaws.{put_room}
use Rattle.keeper.specs.State.{counts_as_started}
use Rattle.keeper.specs.declared.Answer.{Answer}
use Rattle.keeper.specs.declared.Answer.TheVariants.{Waiting, Refused}
use Rattle.keeper.specs.declared.Keeper.{Keeper}
use Rattle.writing.specs.Puts.{least_output}
use Rattle.answers.specs.Answers.{line_of}
use Rattle.answers.specs.Writing.{PutShort, LinePut}
use Rattle.answers.proofs.LineLaws.{by_line}
use Rattle.line.specs.Call.{Wrote}

pub at_front : {a : Answer} {k : Keeper} {b x : List ℕ} {n : ℕ} → LinePut a k b 0 x n → least_output ≤ length b → (a ≡ Waiting → counts_as_started k ≡ true) → Wrote a k b x n
at_front {a = a} {k = k} l room listed =
    let s = line_of a k in
    let put = l.put listed in
    let short = put.short in
    let long : length (s ++ 10 ∷ []) ≡ length s + 1 = length-append s (10 ∷ []) in
    let (out, place) = put_room {at = 0} (omega (arith, short)) (put.puts.put (omega (arith, short))) in
    record { output = out ∙ rw (append_assoc s (10 ∷ []), long, zero-add); written = omega arith; short = omega (arith, short) }

-- a refusal's line lists nothing of the keeper
pub refused_front : {b x : List ℕ} {n r : ℕ} → ((k : Keeper) → PutShort b 0 (line_of (Refused n) k) x r) → least_output ≤ length b → (k : Keeper) → Wrote (Refused n) k b x r
refused_front {n = n} p room k = at_front {a = Refused n} {k = k} (by_line refl p) room (λ h. absurd (let z : ◌≡◌ {A = ℕ} 0 1 = cc in omega arith))
