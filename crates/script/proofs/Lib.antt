pub mod Decimals
pub mod OneReading
pub mod Pieces
pub mod Rows
pub mod Splits
