-- What proofs and private contracts cite, and no public promise.
pub mod Levels
pub mod Queue
pub mod Engine
pub mod Lent
pub mod Parts
