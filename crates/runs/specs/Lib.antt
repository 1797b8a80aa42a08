pub mod Faults
pub mod Stored
pub mod inner
