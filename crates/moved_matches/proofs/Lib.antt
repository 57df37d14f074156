pub mod Common
pub mod Staying
