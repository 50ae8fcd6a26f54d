pub mod Arrays
pub mod FreeTail
pub mod Passes
