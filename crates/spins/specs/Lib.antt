pub mod Table
pub mod Spin
pub mod Faults
pub mod Spins
pub mod Laws
