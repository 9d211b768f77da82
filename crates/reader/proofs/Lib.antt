-- Laws about the definitions of specs/, and the grammar theorem.
pub mod GrammarLaws
