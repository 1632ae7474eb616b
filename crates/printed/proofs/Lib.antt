pub mod Outcomes
pub mod Printing
