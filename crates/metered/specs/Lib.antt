pub mod Metered
pub mod Typed
pub mod Inner
