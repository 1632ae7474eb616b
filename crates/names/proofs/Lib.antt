pub mod Named
pub mod Parting
pub mod Settled
pub mod Outcomes
mod Fields
