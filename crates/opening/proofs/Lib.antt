pub mod Progress
pub mod Unique
pub mod Units
pub mod Laws
