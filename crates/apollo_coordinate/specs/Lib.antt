pub mod BareLookups
pub mod CoordinateLookups
pub mod CoordinateText
pub mod Parts
pub mod Readings
pub mod Refusals
