pub mod Changes
pub mod Readers
pub mod Counts
