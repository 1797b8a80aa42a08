pub mod Along
pub mod Loops
pub mod Weights
pub mod Runs
pub mod Single
pub mod Total
pub mod Lists
pub mod Listed
