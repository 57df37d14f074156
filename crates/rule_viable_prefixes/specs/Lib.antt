pub mod Fits
pub mod Laws
pub mod Misfits
pub mod Passed
pub mod WiderLimits
