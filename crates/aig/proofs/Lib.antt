pub mod Common
pub mod Truth
pub mod LiteralLemmas
pub mod Keys
pub mod Ordered
pub mod GraphLemmas
pub mod Growth
pub mod Standing
