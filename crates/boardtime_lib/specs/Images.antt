-- What the library promises of a lent image, for every image, line, output and number.
use Rattle.std.specs.Prelude.{◌≡◌, List, ℕ, ◌+◌, ◌*◌, ◌≤◌, length}
use Rattle.command.specs.declared.Command.TheVariants as C
use Rattle.keeper.specs.State.{fresh}
use Rattle.keeper.specs.Apply.{apply, number_of}
use Rattle.keeper.specs.declared.Keeper.{Keeper}
use Rattle.writing.specs.Puts.{least_output}
use Rattle.line.specs.Call.{number_after, keeper_after, output_after, length_after}
use Rattle.image.specs.Layout.{image_length, image_of, keeper_in}
use Rattle.on_image.specs.Apply.{image_left}

-- The number for a buffer that has not the length of an image.
abbrev pub wrong_length : ℕ
wrong_length = 255

-- A buffer that has not the length of an image is refused and touched by nothing.
pub record Refused (image : List ℕ) (number : ℕ) (after : List ℕ) : Type 0 where
  pub number_is : number ≡ wrong_length
  pub image_is : after ≡ image

pub record FreshImage (image : List ℕ) (r : ℕ) (image' : List ℕ) : Type 0 where
  pub other_length : (length image ≡ image_length → ⊥) → Refused image r image'
  pub stored : length image ≡ image_length → (r ≡ 0) × (image' ≡ image_of fresh)

-- What a call with a line returns: the number is the result's lowest byte, and the length written the bytes above it.
abbrev pub result_after : Keeper → List ℕ → ℕ → ℕ
result_after k line room = number_after k line room + 256 * length_after k line room

-- The keeper is the one that stands in the image; result, image and output are those of the call with a line, and the least output has room for
-- what is written.
pub record Answered (image line out : List ℕ) (r : ℕ) (image' out' : List ℕ) : Type 0 where
  pub returned : r ≡ result_after (keeper_in image) line (length out)
  pub image_is : image' ≡ image_left image (number_after (keeper_in image) line (length out)) (keeper_after (keeper_in image) line (length out))
  pub output_is : out' ≡ output_after (keeper_in image) line out
  pub short : length_after (keeper_in image) line (length out) ≤ least_output

pub record LineImage (image line out : List ℕ) (r : ℕ) (image' out' : List ℕ) : Type 0 where
  pub other_length : (length image ≡ image_length → ⊥) → Refused image r image' × (out' ≡ out)
  pub answered : length image ≡ image_length → Answered image line out r image' out'

pub record PassImage (image : List ℕ) (ticks r : ℕ) (image' : List ℕ) : Type 0 where
  pub other_length : (length image ≡ image_length → ⊥) → Refused image r image'
  pub number_is : length image ≡ image_length → r ≡ number_of (apply (keeper_in image) (C.Pass ticks)).answer
  pub image_is : length image ≡ image_length → image' ≡ image_left image r (apply (keeper_in image) (C.Pass ticks)).keeper
