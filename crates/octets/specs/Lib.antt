pub mod Smallest
pub mod Inner
