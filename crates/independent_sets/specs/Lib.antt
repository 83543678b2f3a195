pub mod Independent
pub mod Sets
pub mod Laws
pub mod Apart
pub mod Beside
pub mod Members
pub mod Checkerboards
