pub mod CompleteLemmas
pub mod FillLemmas
pub mod DataLemmas
pub mod ListingLemmas
pub mod ObjectListLemmas
