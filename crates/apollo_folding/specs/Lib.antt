pub mod Adopting
pub mod DeclaredParts
pub mod HeldRoots
pub mod Joins
pub mod KindParts
pub mod Noting
pub mod Refusals
pub mod RootTables
