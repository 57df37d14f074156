pub mod Circuit
pub mod Evaluation
pub mod Extreme
pub mod Gates
pub mod Kleene
pub mod KnownSum
pub mod Move
pub mod Word
