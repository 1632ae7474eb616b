pub mod Texts
pub mod Bits
pub mod Pages
pub mod Spare
pub mod Theorems
pub mod Examples
