pub mod Fields
pub mod Script
pub mod Print
pub mod Merging
