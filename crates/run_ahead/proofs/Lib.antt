mod Words
pub mod RunningOn
pub mod SavedStates
pub mod StepTurns
pub mod Stretches
pub mod TickTurns
pub mod TurnExists
pub mod TurnLaws
pub mod TurnRuns
pub mod TurnTests
pub mod TurnsAreOne
mod FewBytes
mod StateSizes
