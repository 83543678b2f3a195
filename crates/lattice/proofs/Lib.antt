pub mod Cells
pub mod Extents
pub mod Halves
pub mod Listed
pub mod Loads
pub mod Neighbours
