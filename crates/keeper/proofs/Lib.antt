-- Laws about the definitions of specs/.
pub mod StartedLaws
pub mod Causes
pub mod Outcomes
pub mod WindowLaws
pub mod Listing
pub mod CallLaws
pub mod Returned
pub mod Accepted
pub mod HeaterLaws
