-- Laws about the definitions of specs/.
pub mod ServingLaws
pub mod TurnLaws
pub mod PutBackLaws
