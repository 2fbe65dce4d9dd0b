pub mod Layout
pub mod Plans
pub mod Reading
pub mod Channels
pub mod Codes
