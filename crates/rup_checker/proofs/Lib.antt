pub mod Common
pub mod TableLemmas
pub mod HintLemmas
pub mod UsedLemmas
pub mod LogLemmas
