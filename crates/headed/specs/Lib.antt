pub mod Successes
pub mod Header
pub mod Inner
