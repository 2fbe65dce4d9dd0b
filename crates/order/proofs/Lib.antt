pub mod Ordering
pub mod Ranges
