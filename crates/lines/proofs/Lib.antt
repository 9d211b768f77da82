-- Laws about the definitions of specs/.
pub mod LineLaws
pub mod HoldLaws
