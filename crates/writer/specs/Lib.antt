pub mod Settled
pub mod Coded
