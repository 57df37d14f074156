pub mod Common
pub mod Numbers
pub mod Lists
pub mod Differences
pub mod Taken
pub mod Steps
