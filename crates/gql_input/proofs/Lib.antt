mod EnumLemmas
pub mod LeftLemmas
