pub mod Common
pub mod Pairs
pub mod Proving
pub mod Rechecking
pub mod Storing
