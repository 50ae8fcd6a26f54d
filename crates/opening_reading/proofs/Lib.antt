pub mod Verdicts
pub mod Midway
pub mod Entries
pub mod Steps
