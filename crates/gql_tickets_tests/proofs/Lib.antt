pub mod SendLemmas
pub mod SigningLemmas
