pub mod Planning
pub mod Multi
pub mod inner
