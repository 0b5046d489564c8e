mod Words
mod KeyScripts
mod OneAnswer
mod Outcomes
mod ResumeOutcomes
pub mod Answering
pub mod Resuming
pub mod Running
pub mod Viewing
mod GoingOn
mod Written
