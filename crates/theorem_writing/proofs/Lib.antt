pub mod Answers
pub mod Order
pub mod Promises
pub mod FitRecords
mod Examples
