pub mod Seeing
pub mod Made
pub mod Whole
pub mod OneFile
