pub mod Common
pub mod Numbers
pub mod Refining
pub mod Deciding
