pub mod FoundLemmas
pub mod KindLemmas
pub mod NumberLemmas
pub mod SendLemmas
pub mod SessionLemmas
pub mod StartLemmas
pub mod TextLemmas
