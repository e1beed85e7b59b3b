pub mod Outcomes
pub mod Children
pub mod Values
pub mod Gathering
pub mod Putting
pub mod OneThing
pub mod WholeDerivation
mod SegmentsBelow
pub mod NoFaults
pub mod EnoughBelow
