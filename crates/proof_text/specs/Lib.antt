pub mod Limits
pub mod Numerals
pub mod Texts
pub mod WellFormed
pub mod Faults
pub mod Laws
pub mod Reading
