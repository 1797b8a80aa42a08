pub mod Marking
pub mod inner
