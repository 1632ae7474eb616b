pub mod Counts
pub mod Settled
pub mod Refusing
pub mod PageRefusing
pub mod PartRefusing
pub mod Outcomes
pub mod MeterRefusing
pub mod Room
