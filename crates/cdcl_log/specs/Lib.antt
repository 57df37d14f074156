pub use Rattle.clauses.specs.ClauseSet
pub use Rattle.depth_first.specs.Found
