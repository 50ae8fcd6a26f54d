pub mod Nibble
