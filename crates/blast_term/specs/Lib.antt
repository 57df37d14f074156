pub use Rattle.circuits.specs.Circuit
pub use Rattle.blast_value.specs.Effect
pub use Rattle.ops.specs.Integer
pub use Rattle.circuits.specs.Word
pub use Rattle.blast_value.specs.Words
pub mod Scope
pub mod Terms
pub mod Gates
