pub mod Common
mod Passing
mod Correspondence
mod Counting
