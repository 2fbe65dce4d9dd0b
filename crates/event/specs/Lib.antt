pub mod Figures
pub mod Questions
pub mod Refusals
