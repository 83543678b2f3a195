pub mod Heights
pub mod Partitions
pub mod Laws
pub mod HeightsLemmas
pub mod Sides
