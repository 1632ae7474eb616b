pub mod Names
pub mod Joined
pub mod Said
pub mod Inner
