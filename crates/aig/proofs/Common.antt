-- What the proofs of this crate cite of definitions, of other crates and of the libraries, passed on from one place.
pub use Rattle.std.proofs.Common.{Bool, List, None, Option, Some, [], ap, append-nil, append_assoc, arith, cond, drop, false, fold, get_or, if◌then◌else◌, inl, inr, length, length-drop, nat_lt, not, position, refl, replicate, slice_get, subst, suc, sym, true, zero, ℕ, ◌&&◌, ◌*◌, ◌++◌, ◌+◌, ◌/◌, ◌∙◌, ◌∷◌, ◌≡◌, ◌≤◌, ◌⊎◌}
pub use Rattle.aig.specs.Folding.{IsAnd, IsOver, IsXor}
pub use Rattle.aig.specs.Gate.{IsProper, ordered_and, ordered_xor}
pub use Rattle.aig.specs.Graph.{AreProper, Graph, HasNoTwice, IsAmong, IsInOrder, IsOwn, OperandsAmong, gate_value, gate_values, graph_state, literal_value, node_value, value_of}
pub use Rattle.aig.specs.Literal.{Literal, code_of, literal_at, negation_of, node_at, place_of, value_under}
pub use Rattle.aig.specs.Parts.{HasParts, IsAndOfParts, IsOverParts, PartsAmong}
pub use Rattle.aig.specs.Stands.{Stands}
pub use Rattle.aig.specs.declared.gate.Gate.{Gate}
pub use Rattle.aig.specs.declared.gate.Gate.TheVariants.{And, Mux, Xor}
pub use Rattle.aig.specs.declared.literal.Node.{Node}
pub use Rattle.aig.specs.declared.literal.Node.TheVariants.{Input, One, Output}
pub use Rattle.aig.specs.declared.two_levels.Parts.{Parts}
pub use Rattle.aig.specs.declared.two_levels.Parts.TheVariants.{NotBoth, Whole}
pub use Rattle.circuits.proofs.Truth.{certain_xor}
pub use Rattle.circuits.specs.Circuit.{Adds, Keeps}
pub use Rattle.circuits.specs.Kleene.{certain}
pub use Rattle.indexmap.specs.IndexSet.{insert_key}
pub use Rattle.std.proofs.lemmas.Bool.{eqb-true}
pub use Rattle.std.proofs.lemmas.Bool.Decides.{nat_tests}
pub use Rattle.std.proofs.lemmas.List.{get_or_append_left, get_or_at, length-replicate, length_push}
pub use Rattle.std.proofs.lemmas.List.Quantifiers.{position-Some}
pub use Rattle.std.proofs.lemmas.List.Sums.{fold-append}
pub use Rattle.std.proofs.lemmas.Option.{slice_get-get_or, slice_get_read, slice_get_within}
pub use Rattle.std.proofs.lemmas.Result.{IfOk-weaker}
pub use Rattle.std.specs.Bool.{beq, xor}
unfoldable pub use Rattle.std.specs.List.{IsDistinct}
pub use Rattle.std.specs.List.{AllByRecursion, list_any}
pub use Rattle.std.specs.Option.{IfSome}
