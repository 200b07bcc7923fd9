pub mod CompletionLemmas
pub mod DocumentRows
pub mod ExecutionLemmas
pub mod FragmentRows
pub mod LawProofs
pub mod MutationRows
pub mod Rows
pub mod Written
