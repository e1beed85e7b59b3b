pub mod ThingLaws
pub mod LastValues
pub mod TargetLaws
pub mod KnownObservers
pub mod StepParts
pub mod EndOfEvent
pub mod TurnLaws
pub mod EndsLaws
pub mod SeenLaws
pub mod RunLaws
pub mod ExampleLaws
mod AtOnce
mod ReadExample
mod ValueExample
mod WriteExample
