-- Laws of writes.
pub mod PutsLaws
