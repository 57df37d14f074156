pub mod Common
pub mod Knowing
pub mod NameSlots
pub mod Widths
pub mod SourceSlots
pub mod Candidates
pub mod OneBinding
pub mod Ordered
