pub mod Machines
pub mod Records
pub mod Rules
pub mod Reading
pub mod Frames
pub mod Files
pub mod Rows
