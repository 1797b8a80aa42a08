pub mod Differing
pub mod Soundness
pub mod Cases
pub mod Only
pub mod History
pub mod Lent
pub mod Chains
