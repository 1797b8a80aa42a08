pub mod Members
pub mod Arrays
pub mod Once
