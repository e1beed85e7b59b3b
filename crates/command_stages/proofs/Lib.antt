pub mod StageLaws
mod ModelStages
pub mod FaultlessReading
