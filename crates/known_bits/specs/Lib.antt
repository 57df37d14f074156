pub mod KnownBits
pub mod Words
pub mod Gates
pub mod Widths
pub mod Laws
