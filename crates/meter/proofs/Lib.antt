pub mod Outcomes
pub mod Theorems
