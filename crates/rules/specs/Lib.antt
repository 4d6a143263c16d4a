pub mod Limits
pub mod Refusals
pub mod Votes
pub mod Tables
pub mod Closing
pub mod Partial
pub mod Lending
