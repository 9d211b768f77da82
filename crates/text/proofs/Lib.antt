-- Laws about the definitions of specs/.
pub mod OutputLaws
pub mod WordLaws
