pub mod Desks
pub mod Journals
pub mod Turns
