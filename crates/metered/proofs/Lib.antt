pub mod Keys
pub mod Theorems
pub mod Examples
