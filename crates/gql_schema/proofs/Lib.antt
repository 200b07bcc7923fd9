mod ByNameLemmas
mod CovarianceRows
mod Example
mod FaultRows
mod FinishedLemmas
mod FitsLemmas
mod FitsRows
pub mod GraphRankLemmas
mod NameSetLemmas
mod PossibleLemmas
mod RankLemmas
mod ReachLemmas
pub mod SendLemmas
mod SoundLemmas
