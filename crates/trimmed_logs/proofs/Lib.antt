pub mod Common
pub mod Clauses
