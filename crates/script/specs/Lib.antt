pub mod Commands
pub mod Readings
pub mod Fields
pub mod Scripts
pub mod Tokens
