pub mod Common
pub mod Framing
pub mod FunctionReadings
pub mod FunctionSpellings
pub mod ShorterParts
pub mod TakingParts
pub mod Verdicts
