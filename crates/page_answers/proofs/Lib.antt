pub mod MostPages
pub mod Outcomes
