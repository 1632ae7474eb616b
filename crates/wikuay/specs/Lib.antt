pub mod Calls
pub mod PageCalls
pub mod PartCalls
pub mod Refusing
pub mod MeterCalls
