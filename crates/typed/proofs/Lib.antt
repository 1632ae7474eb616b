pub mod Spelling
pub mod Outcomes
