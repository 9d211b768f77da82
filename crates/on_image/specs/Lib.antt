-- What the contracts of `on_image` cite.
pub mod Apply
