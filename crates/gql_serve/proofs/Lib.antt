pub mod ExecutingLemmas
pub mod JournalLemmas
pub mod RoomLemmas
pub mod SeatLemmas
pub mod SendLemmas
pub mod ServedLemmas
pub mod WorldLemmas
