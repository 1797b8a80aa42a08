pub mod Shortening
pub mod inner
