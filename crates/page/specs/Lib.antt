pub mod Record
pub mod Writing
