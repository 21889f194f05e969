pub mod Reachable
pub mod Selections
pub mod ToCome
pub mod TurnByTurn
pub mod Turns
pub mod WalkOrder
pub mod Whole
pub mod WorkedWalk
