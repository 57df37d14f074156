pub mod Common
pub mod Lines
