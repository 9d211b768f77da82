-- The marked examples follow from the definitions; laws of what is written and of what is returned.
pub mod Marked
pub mod WroteLaws
pub mod ResponseLaws
pub mod CallCauses
pub mod AnsweredLaws
