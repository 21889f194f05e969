pub mod TypeEquality
