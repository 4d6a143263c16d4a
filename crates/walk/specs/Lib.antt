pub mod Printing
pub mod Walking
