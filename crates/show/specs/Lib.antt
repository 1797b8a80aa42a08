pub mod Digits
pub mod Sheet
pub mod Written
pub mod inner
