pub mod Closure
pub mod Transients
pub mod Gate
pub mod Once
