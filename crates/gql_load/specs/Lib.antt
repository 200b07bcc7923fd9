pub mod Form
pub mod Numbers
pub mod Rows
pub mod Schema
pub mod Turns
