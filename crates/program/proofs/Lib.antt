-- Laws of a turn, of the program and of the bytes that it takes and gives.
pub mod StreamLaws
pub mod ProgramLaws
pub mod ServeLaws
