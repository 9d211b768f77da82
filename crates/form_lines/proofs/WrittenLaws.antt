-- Laws of what a call that writes a line returns and leaves: by its number, and by the layout of its line.
use mathlib.Core.Path.{◌≡◌, refl, sym, ap, ◌∙◌}
use mathlib.Core.Bool.{Bool, true, false, not}
use mathlib.Core.List.{List, [], ◌∷◌, ◌++◌, append_assoc, append-nil}
use mathlib.Core.Logic.{◌↔◌}
use Prim.Native.Nat.{ℕ, ◌+◌, ◌≤◌, ◌<◌}
use Prim.Native.String.{String}
use native.Mathlib.Nat.{zero-add}
use native.Mathlib.Omega.{arith}
use borrow.Author.Tests.{ltb-false, lt-ltb, le-ltb, ne_eqb, eqb-true, eqb-false}
use lib.Dec.{eqb, leb, ltb}
use lib.ListN.{length, drop}
use Rattle.std.specs.Prelude.{Result, Ok, Err}
use Rattle.refusal.specs.declared.Refusal.{Refusal}
use Rattle.refusal.specs.declared.Refusal.TheVariants as R
use Rattle.refusal.specs.declared.Refusal.TheVariants.{OutsideLimits}
use Rattle.refusal.specs.Refusal.{number, number_of}
use Rattle.refusal.proofs.Numbers.{not_zero}
use Rattle.bits.specs.Choice.{choose}
use Rattle.bits.proofs.Tests.{by_test}
use Rattle.text.specs.Words.{bytes}
use Rattle.text.proofs.OutputLaws.{put_room}
use Rattle.writing.specs.Puts.{Puts, least_output, pair}
use Rattle.moment.specs.declared.Interval.{Interval}
use Rattle.rules.specs.Rules.{rule_numbered}
use Rattle.rules.specs.declared.Rule.{Rule}
use Rattle.rules.specs.declared.Rule.TheVariants.{Im, Mm}
use Rattle.command.specs.Forms as F
use Rattle.command.specs.Forms.{Form, Part, parts}
use Rattle.command.specs.Spelling.{plain_part, plain_parts, plain_spelling}
use Rattle.command.specs.Limits.{keeps}
use Rattle.command.specs.Causes.{Cause, cause, first, most_number, form_causes}
use Rattle.command.proofs.CauseLaws.{small, first_most}
use Rattle.command.proofs.SpellingLaws.{plain_most}
use Rattle.form_lines.specs.Written.{WriteResult, write_result, write_refusal, writes, refused, written_form, written_by_rule}
use Rattle.form_lines.specs.Lines.{edged_end, edged_line, timed_end, timed_line, numbered_line}

-- ---- by the number

-- what is not refused has room, and no cause of its own
pub refusal_none : (causes : List Cause) (out : List ℕ) → write_refusal causes out ≡ 0 → (least_output ≤ length out) × (first causes ≡ 0)
unfolding write_refusal first
refusal_none causes out e = go (ltb (length out) least_output) refl e
  where
    go : (t : Bool) → ltb (length out) least_output ≡ t → choose t (λ _. 10) (λ _. first causes) ≡ 0 → (least_output ≤ length out) × (first causes ≡ 0)
    go true h k = absurd (omega (arith, k))
    go false h k = (ltb-false (length out) least_output h, k)

pub none_refusal : (causes : List Cause) (out : List ℕ) → least_output ≤ length out → first causes ≡ 0 → write_refusal causes out ≡ 0
unfolding write_refusal first
none_refusal causes out room none = rw (le-ltb (length out) least_output room, none)

-- a refusal: the buffer as it was
pub writes_refused : (causes : List Cause) (line out : List ℕ) (n : ℕ) → n ≡ write_refusal causes out → (n ≡ 0 → ⊥) → write_result n 0 out ≡ writes causes line out
unfolding writes
writes_refused causes line out n e some = rw (← e, ne_eqb n 0 some)

-- a refusal by its cause, and a test that was passed
pub writes_err : {T : Type 0} {r : Result T Refusal} {x : Refusal} (causes : List Cause) (line out : List ℕ) → r ≡ Err x → number_of r ≡ write_refusal causes out
    → write_result (number x) 0 out ≡ writes causes line out
writes_err {x = x} causes line out is e = writes_refused causes line out (number x) (sym (ap number_of is) ∙ e) (eqb-false (number x) 0 (not_zero x))

pub passed : {T : Type 0} {r : Result T Refusal} {x : T} (causes : List Cause) (out : List ℕ) → r ≡ Ok x → number_of r ≡ write_refusal causes out
    → write_refusal causes out ≡ 0
passed causes out is e = sym e ∙ ap number_of is

-- no refusal: the line at the front
pub writes_line : (causes : List Cause) (line out : List ℕ) → write_refusal causes out ≡ 0 → writes causes line out ≡ write_result 0 (length line) (line ++ drop (length line) out)
unfolding writes
writes_line causes line out e = rw e

pub writes_put : (causes : List Cause) (line out after : List ℕ) (n : ℕ) → write_refusal causes out ≡ 0 → length line ≤ least_output → Puts out 0 line after n
    → write_result 0 n after ≡ writes causes line out
writes_put causes line out after n e short p =
    let enough : least_output ≤ length out = (refusal_none causes out e).0 in
    let room : 0 + length line ≤ length out = omega arith in
    let (bytes_are, place_is) = put_room {at = 0} room (p.put room) in
    rw (writes_line causes line out e, bytes_are, place_is, zero-add (length line))

-- no line, in a buffer that is too short and in one that is not
pub refused_short : (n : ℕ) (out : List ℕ) → length out < least_output → write_result 10 0 out ≡ refused n out
unfolding refused writes write_refusal first
refused_short n out h = rw (lt-ltb (length out) least_output h)

pub refused_long : (n : ℕ) (out : List ℕ) → least_output ≤ length out → write_result n 0 out ≡ refused n out
unfolding refused writes write_refusal first
refused_long n out h = rw (le-ltb (length out) least_output h) (by_test (eqb n 0) (λ e. rw (eqb-true n 0 e)) (λ e. rw e))

-- ---- the line of each layout is the plain spelling of its parts

abbrev edged_parts : String → ℕ → Part → ℕ → Interval → List Part
edged_parts word m between n e =
    F.text word ∷ F.number m ∷ between ∷ F.number n ∷ F.text " (" ∷ F.edge e.lower ∷ F.text " " ∷ F.edge e.upper ∷ F.text "))" ∷ []

abbrev numbered_parts : String → ℕ → List Part
numbered_parts word n = F.text word ∷ F.number n ∷ F.text ")" ∷ []

abbrev timed_parts : String → ℕ → ℕ → ℕ → List Part
timed_parts word n first second =
    F.text word ∷ F.number n ∷ F.text " (" ∷ F.number first ∷ F.text " " ∷ F.number second ∷ F.text "))" ∷ []

edged_line_lem : (word : String) (m : ℕ) (between : Part) (n : ℕ) (e : Interval)
    → edged_line (bytes word) m (plain_part between) n e ≡ plain_parts (edged_parts word m between n e)
unfolding plain_parts edged_line edged_end pair
edged_line_lem word m between n e = simp append_assoc

timed_line_lem : (word : String) (n first second : ℕ) → timed_line (bytes word) n first second ≡ plain_parts (timed_parts word n first second)
unfolding plain_parts timed_line timed_end
timed_line_lem word n first second = simp append_assoc

numbered_line_lem : (word : String) (n : ℕ) → numbered_line (bytes word) n ≡ plain_parts (numbered_parts word n)
unfolding plain_parts numbered_line
numbered_line_lem word n = simp append_assoc

bare_line : (word : String) → bytes word ≡ plain_parts (F.text word ∷ [])
unfolding plain_parts
bare_line word = sym (append-nil (bytes word))

-- what is written of a form that has these parts and no cause but its limits, `kept` telling whether it keeps them
module _ (f : Form) (word : String) (limits : form_causes f ≡ cause 2 (not (keeps f)) ∷ []) (kept : Bool) (keeps-it : kept ≡ keeps f) (out : List ℕ) where
  form_written : (line : List ℕ) (ps : List Part) → line ≡ plain_parts ps → parts f ≡ ps → writes (cause 2 (not kept) ∷ []) line out ≡ written_form f out
  unfolding written_form plain_spelling
  form_written line ps spelt are =
      ap (λ (t : Bool). writes (cause 2 (not t) ∷ []) line out) keeps-it
      ∙ ap (λ (causes : List Cause). writes causes line out) (sym limits)
      ∙ ap (λ (s : List ℕ). writes (form_causes f) s out) (spelt ∙ ap plain_parts (sym are))

  pub edged_form : (m : ℕ) (between : Part) (n : ℕ) (e : Interval) → parts f ≡ edged_parts word m between n e
      → writes (cause 2 (not kept) ∷ []) (edged_line (bytes word) m (plain_part between) n e) out ≡ written_form f out
  edged_form m between n e are = form_written _ _ (edged_line_lem word m between n e) are

  pub timed_form : (n first second : ℕ) → parts f ≡ timed_parts word n first second
      → writes (cause 2 (not kept) ∷ []) (timed_line (bytes word) n first second) out ≡ written_form f out
  timed_form n first second are = form_written _ _ (timed_line_lem word n first second) are

  pub numbered_form : (n : ℕ) → parts f ≡ numbered_parts word n → writes (cause 2 (not kept) ∷ []) (numbered_line (bytes word) n) out ≡ written_form f out
  numbered_form n are = form_written _ _ (numbered_line_lem word n) are

  pub bare_form : parts f ≡ F.text word ∷ [] → writes (cause 2 (not kept) ∷ []) (bytes word) out ≡ written_form f out
  bare_form are = form_written _ _ (bare_line word) are

-- the text of a rule has room where a short text has
pub rule_most : (r : Rule) → length (plain_part (F.rule r)) ≤ 16
rule_most Im = omega arith
rule_most Mm = omega arith

-- ---- a start by the number of its rule

pub by_rule_ok : (n : ℕ) (form : Rule → Form) (out : List ℕ) {r : Rule} {w : WriteResult} → rule_numbered n ≡ Ok r → w ≡ written_form (form r) out → w ≡ written_by_rule n form out
unfolding written_by_rule
by_rule_ok n form out {r} h k =
    by_test
    (eqb n 0)
    (λ a.
    let e : ◌≡◌ {A = Result Rule Refusal} (Ok Im) (Ok r) = rw a at h in
    let same : Im ≡ r = cc in
    rw (a, same) k)
    (λ a.
    by_test
    (eqb n 1)
    (λ b.
    let e : ◌≡◌ {A = Result Rule Refusal} (Ok Mm) (Ok r) = rw (a, b) at h in
    let same : Mm ≡ r = cc in
    rw (a, b, same) k)
    (λ b.
    let e : ◌≡◌ {A = Result Rule Refusal} (Err OutsideLimits) (Ok r) = rw (a, b) at h in cc))

pub by_rule_err : (n : ℕ) (form : Rule → Form) (out : List ℕ) {x : Refusal} {w : WriteResult} → rule_numbered n ≡ Err x → w ≡ refused (number x) out → w ≡ written_by_rule n form out
unfolding written_by_rule
by_rule_err n form out {x} h k =
    by_test
    (eqb n 0)
    (λ a. let e : ◌≡◌ {A = Result Rule Refusal} (Ok Im) (Err x) = rw a at h in cc)
    (λ a.
    by_test
    (eqb n 1)
    (λ b. let e : ◌≡◌ {A = Result Rule Refusal} (Ok Mm) (Err x) = rw (a, b) at h in cc)
    (λ b.
    let e : ◌≡◌ {A = Result Rule Refusal} (Err OutsideLimits) (Err x) = rw (a, b) at h in
    let same : x ≡ OutsideLimits = cc in
    rw (a, b) (rw same at k)))

-- ---- no number is above the greatest of the table, and no length above the least output

number_refusal : (causes : List Cause) (line out : List ℕ) → (writes causes line out).number ≡ write_refusal causes out
unfolding writes
number_refusal causes line out = by_test (eqb (write_refusal causes out) 0) (λ e. rw e (sym (eqb-true (write_refusal causes out) 0 e))) (λ e. rw e)

-- number 0 exactly if there is room and no cause holds
pub form_accepts : (f : Form) (out : List ℕ) → ((written_form f out).number ≡ 0) ↔ ((least_output ≤ length out) × (first (form_causes f) ≡ 0))
unfolding written_form
form_accepts f out =
    let same : (writes (form_causes f) (plain_spelling f) out).number ≡ write_refusal (form_causes f) out = number_refusal (form_causes f) (plain_spelling f) out in
    (λ e. refusal_none (form_causes f) out (sym same ∙ e), λ h. same ∙ none_refusal (form_causes f) out h.0 h.1)

abbrev pub Bounded : WriteResult → Type 0
Bounded w = (w.number ≤ most_number) × (w.length ≤ least_output)

refusal_most : (causes : List Cause) (out : List ℕ) → small causes ≡ true → write_refusal causes out ≤ most_number
unfolding write_refusal
refusal_most causes out few = first_most (cause 10 (ltb (length out) least_output) ∷ causes) few

length_most : (causes : List Cause) (line out : List ℕ) → (first causes ≡ 0 → length line ≤ least_output) → (writes causes line out).length ≤ least_output
unfolding writes
length_most causes line out short =
    by_test
    (eqb (write_refusal causes out) 0)
    (λ e. rw e (short (refusal_none causes out (eqb-true (write_refusal causes out) 0 e)).1))
    (λ e. rw e (omega arith))

writes_bounded : (causes : List Cause) (line out : List ℕ) → small causes ≡ true → (first causes ≡ 0 → length line ≤ least_output) → Bounded (writes causes line out)
writes_bounded causes line out few short = (rw (number_refusal causes line out) (refusal_most causes out few), length_most causes line out short)

causes_small : (f : Form) → small (form_causes f) ≡ true
causes_small (F.start board r claim edges) = refl
causes_small (F.pass ticks) = refl
causes_small (F.request peer) = refl
causes_small (F.reply peer tag edges) = refl
causes_small (F.drop peer) = refl
causes_small F.read = refl
causes_small F.waiting = refl
causes_small (F.window slot begins ends) = refl
causes_small (F.flight peer out back) = refl

pub form_bounded : (f : Form) (out : List ℕ) → Bounded (written_form f out)
unfolding written_form
form_bounded f out = writes_bounded (form_causes f) (plain_spelling f) out (causes_small f) (λ e. omega (arith, plain_most f e))

pub refused_bounded : (n : ℕ) (out : List ℕ) → leb n most_number ≡ true → Bounded (refused n out)
unfolding refused
refused_bounded n out h = writes_bounded (cause n true ∷ []) [] out (rw h) (λ e. omega arith)

number_most : (r : Refusal) → leb (number r) most_number ≡ true
number_most R.NoShape = refl
number_most R.OutsideLimits = refl
number_most R.OutOfTurn = refl
number_most R.OwnBoard = refl
number_most R.LeavesRange = refl
number_most R.PeerWaits = refl
number_most R.NoRequest = refl
number_most R.TooLate = refl
number_most R.TagsUsedUp = refl
number_most R.NoRoom = refl
number_most R.NoDate = refl
number_most R.EmptyWindow = refl

pub cause_bounded : (r : Refusal) (out : List ℕ) → Bounded (refused (number r) out)
cause_bounded r out = refused_bounded (number r) out (number_most r)

pub by_rule_bounded : (n : ℕ) (form : Rule → Form) (out : List ℕ) → Bounded (written_by_rule n form out)
unfolding written_by_rule
by_rule_bounded n form out =
    by_test
    (eqb n 0)
    (λ a. rw a (form_bounded (form Im) out))
    (λ a. rw a (by_test (eqb n 1) (λ b. rw b (form_bounded (form Mm) out)) (λ b. rw b (refused_bounded 2 out refl))))
