pub use Rattle.aig.specs.Graph
pub use Rattle.clauses.specs.Literal
pub use Rattle.clauses.specs.Settings
pub mod Definitions
pub mod NeededGates
pub mod Names
