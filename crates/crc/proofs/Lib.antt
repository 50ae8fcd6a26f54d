pub mod Laws
pub mod Nibbles
pub mod Unique
mod Examples
