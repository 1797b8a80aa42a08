pub mod Several
pub mod Lists
pub mod Weights
pub mod inner
