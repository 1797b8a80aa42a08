-- What proofs and private contracts cite, and no public promise.
pub mod Writing
pub mod Choosing
pub mod Both
pub mod Marks
