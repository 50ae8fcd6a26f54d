pub mod Flash
