pub mod Indices
pub mod Split
pub mod Front
pub mod Broken
pub mod Once
