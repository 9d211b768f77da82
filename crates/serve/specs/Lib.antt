-- What the contracts of `serve` cite.
pub mod Serving
pub mod PutBack
