-- The image of the example keeper is the example image, and is read as that keeper.
use mathlib.Core.Path.{◌≡◌, refl}
use Rattle.image.specs.Bytes.{number, numbers, lowest_first, each_lowest_first}
use Rattle.image.specs.Layout.{image_of, readable, keeper_at, keeper_in}
use Rattle.image.specs.Example.{example_keeper, example_image}

pub worked : (image_of example_keeper ≡ example_image) × (keeper_in example_image ≡ example_keeper)
unfolding image_of lowest_first each_lowest_first keeper_in keeper_at readable number numbers
worked = (refl, refl)
