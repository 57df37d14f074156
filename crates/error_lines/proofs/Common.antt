-- What the proofs of this crate cite of definitions, of other crates and of the libraries, passed on from one place.
pub use Rattle.std.proofs.Common.{List, ap, append_assoc, codes, decimal, ℕ, ◌++◌, ◌∙◌, ◌≡◌}
pub use Rattle.error_lines.specs.Lines.{register_text}
