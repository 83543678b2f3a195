pub mod Filled
pub mod Outcomes
pub mod Samples
pub mod Laws
pub mod Sandwich
pub mod Shares
pub mod Stationary
pub mod Sums
