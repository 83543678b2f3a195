pub mod Cuts
pub mod Ends
pub mod Folds
pub mod Hex
pub mod Places
pub mod Spaces
pub mod Steps
