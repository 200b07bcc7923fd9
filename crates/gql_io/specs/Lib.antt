pub mod Counts
pub mod Limits
pub mod Memory
pub mod Reading
pub mod Sure
pub mod Writing
