pub mod Lead
pub mod Windows
pub mod Ends
pub mod Shares
