pub mod Expected
pub mod inner
