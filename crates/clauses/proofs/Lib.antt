pub mod Common
pub mod Held
pub mod Units
pub mod Soundness
pub mod LogSoundness
pub mod Derivations
pub mod Closed
pub mod SettingLemmas
