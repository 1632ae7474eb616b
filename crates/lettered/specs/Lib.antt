pub mod Successes
pub mod LetteredPage
