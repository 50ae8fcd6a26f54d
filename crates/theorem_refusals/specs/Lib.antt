pub mod Refusals
pub mod UnknownType
