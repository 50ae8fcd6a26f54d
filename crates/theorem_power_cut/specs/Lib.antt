pub mod History
pub mod PowerCut
