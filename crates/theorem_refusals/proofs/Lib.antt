pub mod Refusals
pub mod UnknownType
pub mod Examples
