pub mod Bounds
pub mod Files
pub mod Held
pub mod Once
pub mod Plans
pub mod Rooms
