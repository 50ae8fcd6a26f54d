pub mod Going
mod Examples
