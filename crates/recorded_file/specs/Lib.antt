pub mod Buffers
pub mod Numbers
pub mod Names
pub mod Frames
pub mod Requests
