pub mod AccessFault
pub mod Accessor
pub mod Iterators
pub mod InputType
pub mod InputValueError
pub mod EnumType
