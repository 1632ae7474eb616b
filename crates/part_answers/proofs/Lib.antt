pub mod MostParts
pub mod Outcomes
