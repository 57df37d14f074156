-- What the proofs of this crate cite of definitions, of other crates and of the libraries, passed on from one place.
pub use Rattle.std.proofs.Common.{length, ◌<◌, ◌≡◌}
pub use Rattle.circuits.specs.Circuit.{Keeps}
