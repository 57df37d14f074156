pub mod Common
pub mod Counted
