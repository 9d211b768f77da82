-- Laws about the definitions of specs/.
pub mod WrittenLaws
pub mod WindowLaws
