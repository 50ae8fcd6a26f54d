pub mod Unique
pub mod Words
