pub mod Builder
pub mod Federation
pub mod Limits
pub mod Settings
