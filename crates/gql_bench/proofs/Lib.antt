mod BenchRows
mod BumpLemmas
mod CellLemmas
mod FreshLemmas
mod PlainRuleLemmas
mod ReadingLemmas
pub mod SendLemmas
mod SumLemmas
