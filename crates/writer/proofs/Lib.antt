pub mod Settling
pub mod Outcomes
pub mod Refusing
pub mod Chosen
