pub use Rattle.circuits.specs.Circuit
pub mod Literal
pub mod Gate
pub mod Graph
pub mod Folding
pub mod Choices
pub mod Parts
pub mod Stands
