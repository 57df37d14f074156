pub mod Asks
pub mod Parts
pub mod Stored
pub mod AskedAgain
