pub mod Faults
pub mod Sources
pub mod SplitMix
pub mod Recordings
pub mod Readings
