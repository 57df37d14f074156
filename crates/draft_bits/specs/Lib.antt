pub use Rattle.known_bits.specs.KnownBits
pub use Rattle.draft.specs.Whole
pub mod DraftBits
pub mod Laws
pub mod Updates
