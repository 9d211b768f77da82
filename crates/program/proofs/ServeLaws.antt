-- The bytes of a reader and of a writer over the turns of the program, and what a run promises when it ends.
use Rattle.std.proofs.Common.{Bool, true, false, ◌≡◌, refl, sym, ◌∙◌, List, [], ◌∷◌, ◌++◌, ℕ, ◌+◌, ◌-◌, ◌^◌, ◌≤◌, ◌<◌, length, take, drop, append_assoc, append-nil, rules, arith}
use Rattle.std.proofs.Common.{length-append, length-drop}
use lib.Seq.{length-take-le}
use Rattle.bits.proofs.Tests.{clash, by_test}
use Rattle.std.specs.declared.option.Option.{Option}
use Rattle.std.specs.declared.option.Option.TheVariants.{None, Some}
use Rattle.std.specs.Prelude.{Result, Ok, Err, OnOk}
use Rattle.std.specs.Result.{is_err}
use Rattle.std.specs.Io.KnownBytes.{Consumes, Appends, Keeps}
use Rattle.keeper.specs.declared.Keeper.{Keeper}
use Rattle.line.specs.Call.{answer_line}
use Rattle.lines.specs.Lines.{lf}
use Rattle.stream.specs.Stream.{answers_to}
use Rattle.serve.specs.Serving.{keeper_next, answer_to, answers}
use Rattle.program.specs.Turning.{Turned}
use Rattle.program.specs.Reading.{Values, Read, Came}
use Rattle.program.specs.Program.{Program, start, begun, turned, came}
use Rattle.program.specs.Served.{Flow, Served}
use Rattle.program.specs.declared.turn.Stream.{Stream}
use Rattle.program.specs.declared.Ended.TheVariants.{InputEnded, ReadingFailed, TurnsUsedUp}
use Rattle.program.proofs.ProgramLaws.{program_answers, program_so_far}

-- ---- known bytes

consumes_none : (a : Option (List ℕ)) → Consumes a a []
consumes_none None = tt
consumes_none (Some s) = refl

consumes_more : (a b c : Option (List ℕ)) (xs ys : List ℕ) → Consumes a b xs → Consumes b c ys → Consumes a c (xs ++ ys)
consumes_more None b c xs ys h i = tt
consumes_more (Some s) None c xs ys h i = absurd h
consumes_more (Some s) (Some t) None xs ys h i = absurd i
consumes_more (Some s) (Some t) (Some u) xs ys h i = rw (h, i) (sym (append_assoc xs ys u))

-- a reader that kept its bytes
consumes_kept : (a b c : Option (List ℕ)) (xs : List ℕ) → Consumes a b xs → Keeps b c → Consumes a c xs
consumes_kept None b c xs h i = tt
consumes_kept (Some s) None c xs h i = absurd h
consumes_kept (Some s) (Some t) None xs h i = absurd i
consumes_kept (Some s) (Some t) (Some u) xs h i = rw i h

appends_none : (a : Option (List ℕ)) → Appends a a []
appends_none None = tt
appends_none (Some s) = sym (append-nil s)

appends_more : (a b c : Option (List ℕ)) (xs ys : List ℕ) → Appends a b xs → Appends b c ys → Appends a c (xs ++ ys)
appends_more None b c xs ys h i = tt
appends_more (Some s) None c xs ys h i = absurd h
appends_more (Some s) (Some t) None xs ys h i = absurd i
appends_more (Some s) (Some t) (Some u) xs ys h i = rw (i, h) (append_assoc s xs ys)

-- a write of all the bytes that did not fail
pub wrote_all : {T E : Type 0} {t : Bool} (old new : Option (List ℕ)) (r : Result T E) (xs ys : List ℕ) → t ≡ is_err r → t ≡ false
    → OnOk r (Appends old new xs) → xs ≡ ys → Appends old new ys
wrote_all old new (Ok x) xs ys e f h same = rw same at h
wrote_all old new (Err x) xs ys e f h same = absurd (clash {t = true} refl (sym e ∙ f))

-- ---- the turns so far, with the bytes that came and those that were written

-- a turn that leaves a whole line has written something
some_answers : (k : Keeper) (ls : List (List ℕ)) → 0 < length ls → 0 < length (answers k ls)
unfolding answers_to
some_answers k [] h = absurd (omega arith)
some_answers k (l ∷ ls) h =
    omega (arith, length-append (answer_to k l) (answers_to keeper_next answer_to (keeper_next k l) ls), length-append (answer_line k l) (lf ∷ []))

some_written : {s r : Stream} {got : ℕ} {buffer buffer' out out' : List ℕ} → Turned s got buffer out r buffer' out' → r.full ≡ true
    → 0 < length (take r.filled out')
some_written {s} {r} t full = rw t.turn.answers (some_answers s.keeper t.turn.lines (t.turn.more full).2)

-- Each turn takes a byte, or the one before it wrote one and left a whole line: `n` turns have taken and written as many bytes.
pub record SoFar (n : ℕ) (s : Stream) (buffer : List ℕ) (unread unread' held held' : Option (List ℕ)) : Type 0 where
  pub flow : Flow unread unread' held held'
  pub program : Program s buffer flow.input flow.written
  pub turns : n ≤ length flow.input + length flow.written
  pub more : s.full ≡ true → n < length flow.input + length flow.written

pub begins : (buffer : List ℕ) (unread held : Option (List ℕ)) → SoFar 0 start buffer unread unread held held
begins buffer unread held =
    record {
      flow = record { input = []; written = []; came = consumes_none unread; went = appends_none held };
      program = begun;
      turns = omega arith;
      more = λ t. absurd (clash {t = false} t refl);
    }

-- no turn is left
pub used_up : {n : ℕ} {s : Stream} {buffer : List ℕ} {unread unread' held held' : Option (List ℕ)} → SoFar n s buffer unread unread' held held'
    → 2 ^ 64 - 1 ≤ n → Served TurnsUsedUp unread unread' held held'
used_up p most =
    record {
      at_end = λ e. absurd (let z = e in search rules);
      before_end = λ e. absurd (let z = e in search rules);
      used_up = λ _. (p.flow, omega (arith, most, p.turns));
    }

module _
    {n : ℕ} {s : Stream} {g : Values} {buffer buffer₁ : List ℕ} {unread unread₁ unread₂ held held₁ : Option (List ℕ)}
    (p : SoFar n s buffer unread unread₁ held held₁) (read : Read s buffer g buffer₁) (new : Came unread₁ unread₂ s g buffer₁)
  where
    -- a read that failed: no whole line waits, and nothing came
    pub failed : g.failed ≡ true → Served ReadingFailed unread unread₂ held held₁
    failed bad =
        let f = p.flow in
        let none : s.full ≡ false = by_test s.full (λ t. absurd (clash {t = g.failed} bad (read.waits t).2)) (λ t. t) in
        record {
          at_end = λ e. absurd (let z = e in search rules);
          before_end =
              λ _. (
                record {
                  input = f.input;
                  written = f.written;
                  came = consumes_kept unread unread₁ unread₂ f.input f.came (new.none (read.failure bad).0);
                  went = f.went;
                },
                s.keeper,
                program_so_far p.program none,
              );
          used_up = λ e. absurd (let z = e in search rules);
        }

    module _
        {r : Stream} {buffer₂ out out' : List ℕ} {held₂ : Option (List ℕ)}
        (t : Turned s g.count buffer₁ out r buffer₂ out') (went : Appends held₁ held₂ (take r.filled out'))
      where
        -- a turn, and what it wrote
        pub goes_on : g.last ≡ false → (s.full ≡ false → g.last ≡ false → 0 < g.count) → SoFar (n + 1) r buffer₂ unread unread₂ held held₂
        goes_on more some =
            let f = p.flow in
            let fits : g.count ≤ length (drop s.end buffer₁) = omega (arith, length-drop s.end buffer₁, read.within, read.size) in
            let input : length (f.input ++ came s g buffer₁) ≡ length f.input + g.count =
            omega (arith, length-append f.input (came s g buffer₁), length-take-le g.count (drop s.end buffer₁) fits) in
            let wrote = length-append f.written (take r.filled out') in
            record {
              flow =
                  record {
                    input = f.input ++ came s g buffer₁;
                    written = f.written ++ take r.filled out';
                    came = consumes_more unread unread₁ unread₂ f.input (came s g buffer₁) f.came (new.bytes more);
                    went = appends_more held held₁ held₂ f.written (take r.filled out') f.went went;
                  };
              program = turned p.program read more t;
              turns =
                  by_test s.full
                  (λ h. omega (arith, input, wrote, p.more h))
                  (λ h. omega (arith, input, wrote, p.turns, some h more));
              more =
                  λ full.
                  by_test s.full
                  (λ h. omega (arith, input, wrote, some_written t full, p.more h))
                  (λ h. omega (arith, input, wrote, some_written t full, p.turns, some h more));
            }

        -- the last turn
        pub ends : g.last ≡ true → g.failed ≡ false → Served InputEnded unread unread₂ held held₂
        ends last whole =
            let f = p.flow in
            record {
              at_end =
                  λ _. (
                    record {
                      input = f.input;
                      written = f.written ++ take r.filled out';
                      came = consumes_kept unread unread₁ unread₂ f.input f.came (new.none last);
                      went = appends_more held held₁ held₂ f.written (take r.filled out') f.went went;
                    },
                    r.keeper,
                    new.ended last whole,
                    program_answers p.program read last whole t,
                  );
              before_end = λ e. absurd (let z = e in search rules);
              used_up = λ e. absurd (let z = e in search rules);
            }
