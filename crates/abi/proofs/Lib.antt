pub mod Alike
pub mod Only
