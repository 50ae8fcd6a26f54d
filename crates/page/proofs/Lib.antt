pub mod Laws
pub mod Checks
pub mod Plans
pub mod Unique
