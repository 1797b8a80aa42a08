pub mod Demand3
pub mod Applies
pub mod Shortened
pub mod KeepsOff
pub mod Beyond
pub mod Apart
pub mod Several
