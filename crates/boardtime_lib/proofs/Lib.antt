-- Laws about the definitions of specs/.
pub mod ImageLaws
pub mod Replayed
