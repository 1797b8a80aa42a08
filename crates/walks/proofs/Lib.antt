pub mod Finish
pub mod Walking
