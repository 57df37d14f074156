pub mod Uses
pub mod Tables
pub mod Counting
pub mod Laws
