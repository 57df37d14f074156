pub mod Common
pub mod LoadLemmas
pub mod SmallTexts
