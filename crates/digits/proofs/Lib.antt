-- Laws about the definitions of specs/.
pub mod WidthLaws
pub mod FrontLaws
