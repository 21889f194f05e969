pub mod Places
pub mod SpentIds
