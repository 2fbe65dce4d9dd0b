pub mod Counting
pub mod Outcomes
pub mod Texts
