pub mod Common
pub mod Choices
pub mod ConstantLists
mod Readiness
mod Reading
