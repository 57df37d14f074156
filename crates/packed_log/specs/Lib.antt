pub use Rattle.clauses.specs.Literal
pub mod Numbers
pub mod Steps
pub mod Words
