-- What proofs and private contracts cite, and no public promise.
pub mod Flips
pub mod Trails
pub mod Model
