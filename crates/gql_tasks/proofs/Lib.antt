pub mod AdvanceLemmas
pub mod AimLemmas
pub mod ArenaLemmas
pub mod BlockLemmas
pub mod CountLemmas
pub mod GivenLemmas
pub mod InTurnLemmas
pub mod KeepsLemmas
pub mod NearerLemmas
pub mod PaceLemmas
pub mod PhaseLemmas
mod PhaseRows
pub mod PickLemmas
pub mod ProgressLemmas
pub mod RecordLemmas
mod RecordRows
pub mod RootLemmas
pub mod RootWorld
pub mod RoundLemmas
pub mod RunLemmas
pub mod SoFarLemmas
pub mod SoundLemmas
pub mod StepLemmas
pub mod TurnLemmas
pub mod TurningSteps
pub mod UponLemmas
