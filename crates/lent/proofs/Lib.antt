-- Laws of a lent keeper.
pub mod LentLaws
