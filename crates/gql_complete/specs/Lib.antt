pub mod CompleteAbstract
pub mod CompleteValue
pub mod Data
pub mod FillShape
pub mod FoundObjects
pub mod ObjectLists
