pub mod Demand3
pub mod KeepsOff
pub mod Several
