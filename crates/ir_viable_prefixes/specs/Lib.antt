pub mod Calls
pub mod Fits
pub mod Laws
pub mod Misfits
