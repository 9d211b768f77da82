-- What the contracts of `shapes` cite.
pub mod Shapes
pub mod Parts
