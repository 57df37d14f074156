-- What the proofs of this crate cite of definitions, of other crates and of the libraries, passed on from one place.
pub use Rattle.std.proofs.Common.{All, List, [], ap, arith, cond, drop, drop-cons, false, get_or, length, subst, suc, sym, true, zero-add, ℕ, ◌+◌, ◌-◌, ◌<◌, ◌∙◌, ◌∷◌, ◌≡◌, ◌≤◌}
pub use Rattle.clauses.specs.Literal.{IsVariable}
pub use Rattle.depth_first.proofs.Leaves.{among_already, either, is_among}
pub use Rattle.depth_first.specs.Found.{distinct_count}
pub use Rattle.std.proofs.lemmas.List.{get_or_read}
