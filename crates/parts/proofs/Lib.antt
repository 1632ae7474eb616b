pub mod Settled
pub mod Outcomes
