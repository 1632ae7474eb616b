pub mod Numbered
pub mod Outcomes
