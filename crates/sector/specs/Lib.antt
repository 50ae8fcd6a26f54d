pub mod Layout
pub mod Answers
pub mod Map
pub mod Types
pub mod Item
pub mod Header
