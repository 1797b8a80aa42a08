-- What proofs and private contracts cite, and no public promise.
pub mod Private
pub mod Outcomes
