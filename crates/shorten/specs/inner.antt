-- What proofs and private contracts cite, and no public promise.
pub mod Passing
pub mod Marked
