pub mod AllLemmas
pub mod AnyLemmas
pub mod FirstLemmas
pub mod OrderLemmas
pub mod ReachLemmas
pub mod SetLemmas
pub mod SliceLemmas
