-- What a command does to an image.
use Rattle.std.specs.Prelude.{◌≡◌, List, ℕ, ◌+◌, ◌*◌, ◌≤◌, eqb, length}
use Rattle.bits.specs.Choice.{choose}
use Rattle.command.specs.declared.Command.{Command}
use Rattle.keeper.specs.Apply.{begun, apply, number_of}
use Rattle.keeper.specs.declared.Keeper.{Keeper}
use Rattle.keeper.specs.declared.Answer.{Answer}
use Rattle.keeper.specs.declared.Answer.TheVariants as A
use Rattle.writing.specs.Puts.{least_output}
use Rattle.answers.specs.Answers.{line_of}
use Rattle.line.specs.Call.{over}
use Rattle.image.specs.Layout.{image_of, image_after, keeper_in}
use Rattle.changes.specs.Changes.{passed_image, asked_image, ended_image, flight_image}

-- The image after a call: that of the keeper that the call gives; a refused call leaves every byte as it was.
unfoldable pub image_left : List ℕ → ℕ → Keeper → List ℕ
image_left before number k = choose (eqb number 0) (λ _. image_of k) (λ _. before)

-- The image after an answer was given: what the answered command changes is stored, from the keeper that it handed back. It serves the proof of
-- a private function: what a command leaves, `CommandImage` says.
abbrev pub stored_after : Answer → Keeper → List ℕ → List ℕ
stored_after (A.Started board) k image = image_after image (begun k.board k.rule k.claim k.edges)
stored_after (A.At ticks edges) k image = passed_image image k.edges k.ticks
stored_after (A.Sent peer tag) k image = asked_image image k.waiting k.requests peer k.ticks
stored_after (A.Replied peer verdict) k image = ended_image image k.waiting k.edges k.conflicts peer
stored_after (A.Dropped peer) k image = ended_image image k.waiting k.edges k.conflicts peer
stored_after (A.Time edges centre error conflicts waiting) k image = image
stored_after A.Waiting k image = image
stored_after (A.Heater slot window) k image = image
stored_after (A.Flight peer) k image = flight_image image peer k.out k.back
stored_after (A.Refused n) k image = image

-- The line that answers a command on the keeper that stands in the image.
abbrev pub command_line : List ℕ → Command → List ℕ
command_line image c = line_of (apply (keeper_in image) c).answer (apply (keeper_in image) c).keeper

-- A command on the keeper that stands in the image: its answer is written, for which the least output has room, and the image becomes that of the
-- keeper which it gives; a refused one leaves every byte of it as it was.
pub record CommandImage (image : List ℕ) (c : Command) (out : List ℕ) (r : ℕ) (image' out' : List ℕ) : Type 0 where
  pub returned : r ≡ number_of (apply (keeper_in image) c).answer + 256 * (length (command_line image c) + 1)
  pub output_is : out' ≡ over (command_line image c) out
  pub short : length (command_line image c) + 1 ≤ least_output
  pub image_is : image' ≡ image_left image (number_of (apply (keeper_in image) c).answer) (apply (keeper_in image) c).keeper
