mod FaultlessStages
mod ServedStages
pub mod LoggedStages
mod CommandStages
mod ConsumingStages
mod UsageStages
pub mod UnseenStages
mod RunLaws
mod OpeningStages
mod CountLaws
mod StormStages
mod FaultlessConsuming
