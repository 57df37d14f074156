pub mod Common
pub mod ArgumentLemmas
pub mod NamedLemmas
pub mod RunningLemmas
pub mod LawLemmas
pub mod Misnaming
