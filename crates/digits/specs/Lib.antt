-- What the contracts of `digits` cite.
pub mod Width
pub mod Front
