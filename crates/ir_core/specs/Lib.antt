pub mod Blocks
pub mod Walks
pub mod Reads
pub mod Names
pub mod Assigned
pub mod Checks
pub mod Run
pub mod Refines
