pub mod Completion
pub mod Counted
pub mod Laws
pub mod Outcomes
pub mod PlaceResponse
pub mod Responses
pub mod Served
