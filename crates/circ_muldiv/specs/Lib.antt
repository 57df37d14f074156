pub use Rattle.circuits.specs.Circuit
pub use Rattle.circuits.specs.Word
pub mod Division
pub mod Gates
pub mod Overflow
