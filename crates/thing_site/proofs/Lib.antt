pub mod Fitting
pub mod Judging
pub mod VerbLaws
mod RisingLaws
mod Halving
mod IndexLaws
mod InputLaws
