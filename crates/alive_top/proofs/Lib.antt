pub mod Common
pub mod Limits
pub mod Files
pub mod Endings
pub mod Asking
pub mod Following
pub mod Reading
pub mod Taking
