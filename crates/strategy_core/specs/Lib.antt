pub mod PlainStrategy
pub mod Decided
pub mod Countable
pub mod Laws
pub mod Asked
