pub mod Answers
pub mod Fields
pub mod Laws
pub mod Lines
pub mod Text
