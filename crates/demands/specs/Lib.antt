pub mod Successes
pub mod MessageRead
pub mod MessageWritten
pub mod Reports
pub mod Demands
pub mod Inner
