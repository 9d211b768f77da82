-- Laws of the lines that end in edges.
pub mod EdgeLaws
