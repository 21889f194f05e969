-- The words of the libraries below in which these proofs speak. `Definition` is the origin.
pub mod Lists
pub mod Syntax
pub mod Types
pub mod Meaning
pub mod Faults
pub mod Written
unfoldable pub use Lists.*
unfoldable pub use Syntax.*
pub use Types.*
pub use Meaning.*
pub use Faults.*
pub use Written.*
pub use Types.{Definition}
