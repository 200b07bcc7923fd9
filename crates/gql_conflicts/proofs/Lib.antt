mod BelowLemmas
pub mod ClassLemmas
mod CleanLemmas
pub mod EachLemmas
mod FittingLemmas
mod GroupLemmas
mod ListedLemmas
mod MarkLemmas
mod MergedLemmas
mod NestedLemmas
mod Rows
mod SameFieldLemmas
mod WalkLemmas
mod WalkedLemmas
