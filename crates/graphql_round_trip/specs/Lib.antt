pub mod Nesting
pub mod Printed
pub mod ReadAgain
pub mod Trees
