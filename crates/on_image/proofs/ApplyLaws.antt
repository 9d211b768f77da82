-- What is stored after a command makes the image that of the keeper which the command gives: an image whose keeper counts as started is its
-- keeper's image to the byte, and the stores are what the answer changes.
use mathlib.Core.Path.{◌≡◌, refl, sym, ap, ◌∙◌}
use mathlib.Core.Bool.{Bool, true, false}
use mathlib.Core.List.{List}
use Prim.Native.Nat.{ℕ, ◌≤◌}
use borrow.Author.Tests.{eq-eqb, ne_eqb}
use lib.ListN.{length}
use Rattle.bits.specs.Choice.{choose}
use Rattle.bits.proofs.Tests.{clash}
use Rattle.moment.specs.declared.Interval.{Interval}
use Rattle.rules.specs.Verdict.{conflicts_after}
use Rattle.command.specs.declared.Command.{Command}
use Rattle.command.specs.declared.Command.TheVariants as C
use Rattle.keeper.specs.State.{fresh, counts_as_started}
use Rattle.keeper.specs.Apply.{begun, apply, number_of, changed, passed_to, asked, ended, with_flight}
use Rattle.keeper.specs.declared.Keeper.{Keeper}
use Rattle.keeper.specs.declared.Answer.{Answer}
use Rattle.keeper.specs.declared.Answer.TheVariants as A
use Rattle.keeper.proofs.StartedLaws.{fresh_not_started}
use Rattle.keeper.proofs.Accepted.{Moved, Changed, changed_by, pass_changes}
use Rattle.lent.specs.Lent.{PassLent}
use Rattle.image.specs.Layout.{image_length, image_of, image_after, AllBelow, readable, keeper_at, keeper_in}
use Rattle.image.proofs.ReadBack.{read_is_image}
use Rattle.changes.specs.Changes.{passed_image, asked_image, ended_image, flight_image}
use Rattle.changes.proofs.ChangeLaws.{passed_image_lem, asked_image_lem, ended_image_lem, flight_image_lem}
use Rattle.on_image.specs.Apply.{image_left, stored_after}

-- what is stored into a buffer of an image's length
pub store_whole : (image : List ℕ) → length image ≡ image_length → {image' : List ℕ} (k : Keeper) → image' ≡ image_after image k → image' ≡ image_of k
unfolding image_after
store_whole image whole k e = rw (eq-eqb _ _ whole) at e

-- a refused call
pub left_refused : (image : List ℕ) (number : ℕ) (k : Keeper) → (number ≡ 0 → ⊥) → image ≡ image_left image number k
unfolding image_left
left_refused image number k h = rw (ne_eqb _ _ h)

-- a keeper that counts as started stands in an image that can be read
readable_is : (image : List ℕ) → counts_as_started (keeper_in image) ≡ true → readable image ≡ true
unfolding keeper_in
readable_is image e = go (readable image) refl e
  where
    go : (t : Bool) → readable image ≡ t → counts_as_started (choose t (λ _. keeper_at image) (λ _. fresh)) ≡ true → readable image ≡ true
    go true r e = r
    go false r e = absurd (clash e fresh_not_started)

module _
    (image : List ℕ)
    (whole : length image ≡ image_length)
    (bytes : AllBelow 256 image)
    (tags : length (keeper_in image).tags ≡ 16)
    (sent : length (keeper_in image).sent_at ≡ 16)
    (outs : length (keeper_in image).out ≡ 16)
    (backs : length (keeper_in image).back ≡ 16)
  where
    image_is : counts_as_started (keeper_in image) ≡ true → image ≡ image_of (keeper_in image)
    image_is e = sym (read_is_image image bytes (readable_is image e))

    -- a store that makes the image of the keeper before into that of the keeper after makes the image so
    stored_into : {l next : Keeper} → Moved (keeper_in image) l next → (store : List ℕ → List ℕ) → store (image_of (keeper_in image)) ≡ image_of next → store image ≡ image_of l
    stored_into m store e = ap store (image_is m.started) ∙ e ∙ ap image_of (sym m.next_is)

    pass_left : (l : Keeper) → Moved (keeper_in image) l (passed_to (keeper_in image) l.edges l.ticks) → passed_image image l.edges l.ticks ≡ image_of l
    pass_left l m = stored_into m (λ i. passed_image i l.edges l.ticks) (passed_image_lem (keeper_in image) tags sent outs backs l.edges l.ticks)

    ended_left : (l : Keeper) (peer : ℕ) (edges : Interval) (conflicts : ℕ) → peer ≤ 15 → Moved (keeper_in image) l (ended (keeper_in image) peer edges conflicts)
        → ended_image image l.waiting l.edges l.conflicts peer ≡ image_of l
    unfolding ended changed
    ended_left l peer edges conflicts small m =
        stored_into m (λ i. ended_image i l.waiting l.edges l.conflicts peer)
        (rw m.next_is (ended_image_lem (keeper_in image) tags sent outs backs peer edges conflicts small))

    stored_left : (a : Answer) (l : Keeper) → Changed a (keeper_in image) l → stored_after a l image ≡ image_left image (number_of a) l
    unfolding image_left passed_to asked changed with_flight
    stored_left (A.Started board) l h = store_whole image whole (begun l.board l.rule l.claim l.edges) refl ∙ ap image_of (sym h)
    stored_left (A.At ticks edges) l m =
        stored_into m (λ i. passed_image i l.edges l.ticks) (rw m.next_is (passed_image_lem (keeper_in image) tags sent outs backs edges ticks))
    stored_left (A.Sent peer tag) l (small, m) =
        stored_into m (λ i. asked_image i l.waiting l.requests peer l.ticks) (rw m.next_is (asked_image_lem (keeper_in image) tags sent outs backs peer small))
    stored_left (A.Replied peer v) l (small, m) = ended_left l peer v.edges (conflicts_after (keeper_in image).conflicts v.finding) small m
    stored_left (A.Dropped peer) l (small, m) = ended_left l peer (keeper_in image).edges (keeper_in image).conflicts small m
    stored_left (A.Time edges centre error conflicts waiting) l m = stored_into m (λ i. i) refl
    stored_left A.Waiting l m = stored_into m (λ i. i) refl
    stored_left (A.Heater slot window) l m = stored_into m (λ i. i) refl
    stored_left (A.Flight peer) l (small, out, back, m) =
        stored_into m (λ i. flight_image i peer l.out l.back) (rw m.next_is (flight_image_lem (keeper_in image) tags sent outs backs peer out back small))
    stored_left (A.Refused n) l (some, same) = left_refused image n l some

    pub command_stored : (c : Command) → let o = apply (keeper_in image) c in stored_after o.answer o.keeper image ≡ image_left image (number_of o.answer) o.keeper
    command_stored c = let o = apply (keeper_in image) c in stored_left o.answer o.keeper (changed_by (keeper_in image) c)

    -- of a pass that was accepted, edges and ticks are all that is to be stored
    pub pass_kept : {image' : List ℕ} {k next : Keeper} {n number : ℕ} → k ≡ keeper_in image → PassLent k n number next → number ≡ 0
        → image' ≡ passed_image image next.edges next.ticks → image' ≡ image_left image 0 next
    unfolding image_left
    pass_kept {next = next} {n = n} e lent zero stored =
        let is : next ≡ (apply (keeper_in image) (C.Pass n)).keeper = lent.keeper_is ∙ ap (λ (x : Keeper). (apply x (C.Pass n)).keeper) e in
        let none : number_of (apply (keeper_in image) (C.Pass n)).answer ≡ 0 =
        ap (λ (x : Keeper). number_of (apply x (C.Pass n)).answer) (sym e) ∙ sym lent.number_is ∙ zero
        in
        stored ∙ pass_left next (rw is (pass_changes (keeper_in image) n none))
