pub mod Truth
pub mod Options
pub mod Rows
pub mod Pairs
