-- Laws about the definitions of specs/.
pub mod ByteLaws
pub mod LoadLaws
pub mod LayoutLaws
pub mod StoreLaws
pub mod RoundTrip
pub mod ReadBack
pub mod StartedFits
pub mod Worked
