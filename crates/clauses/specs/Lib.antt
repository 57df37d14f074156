pub mod Literal
pub mod Propagation
pub mod ClauseSet
pub mod Settings
