-- Laws of the writer.
pub mod LineLaws
pub mod WaitersLaws
pub mod PlainAnswers
