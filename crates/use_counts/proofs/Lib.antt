pub mod Common
pub mod OneCount
pub mod Rows
pub mod Places
