-- What the proofs of this crate cite of definitions, of other crates and of the libraries, passed on from one place.
pub use Rattle.std.proofs.Common.{ap, arith, drop, length, subst, sym, take, vec_len, ℕ, ◌-◌, ◌≤◌}
pub use Rattle.outside.specs.MemoryFiles.{MemoryFilesState}
pub use Rattle.std.proofs.KnownBytes.{Appends-trans}
pub use Rattle.std.proofs.Math.Seq.{take-add}
pub use Rattle.std.proofs.lemmas.List.{take_rest}
pub use Rattle.std.specs.Io.KnownBytes.{Appends, Keeps, prepend_known}
