pub mod Common
pub mod DistinctCount
