-- Laws of the writer of a window.
pub mod WindowLaws
