pub mod Common
pub mod Folded
mod Names
mod Widths
mod Rewritten
mod Numbers
mod Optimised
mod Counted
