pub use Rattle.clauses.specs.ClauseSet
pub use Rattle.clauses.specs.Literal
pub mod Table
pub mod OpenLiterals
