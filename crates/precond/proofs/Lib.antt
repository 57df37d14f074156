pub mod Common
pub mod Numbered
pub mod Ready
pub mod Stored
