pub mod Frozen
pub mod Windows
