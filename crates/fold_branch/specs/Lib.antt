pub use Rattle.ir_core.specs.Checks
pub use Rattle.ir_core.specs.Refines
pub mod Choices
pub mod Folded
pub mod Laws
pub mod Marks
pub mod Walks
