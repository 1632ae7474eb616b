pub mod Steps
pub mod Arrays
pub mod Outcomes
