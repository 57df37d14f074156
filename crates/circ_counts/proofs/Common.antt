-- What the proofs of this crate cite of definitions, of other crates and of the libraries, passed on from one place.
pub use Rattle.std.proofs.Common.{Bool, List, [], ap, arith, cond, false, filter, get_or, length, map, not, refl, reverse, subst, suc, sym, take, true, zero, ℕ, ◌&&◌, ◌*◌, ◌++◌, ◌+◌, ◌<◌, ◌^◌, ◌∙◌, ◌∷◌, ◌≡◌, ◌≤◌}
pub use Rattle.circ_counts.specs.Gates.{count_gates, zeros_gates}
pub use Rattle.circuits.proofs.Kept.{Adds-none, Adds-trans, Adds-weaken, All-kept, map-kept, own_at}
pub use Rattle.circuits.proofs.Stages.{stages-enough, stages-is, stages-least, stages-none}
pub use Rattle.circuits.proofs.Words.{number-all_zero}
pub use Rattle.circuits.specs.Circuit.{Adds, Keeps}
pub use Rattle.circuits.specs.Gates.{adder_gates, stages}
pub use Rattle.circuits.specs.Word.{bit, number, number_of}
pub use Rattle.circuits.specs.declared.state.State.{Ghosts}
pub use Rattle.std.proofs.Math.Nat.{mul-le-mul_left, pow-succ'}
pub use Rattle.std.proofs.lemmas.List.{length-replicate, length-take-le, length_push, take_all, take_more}
pub use Rattle.std.proofs.lemmas.List.Elements.{All-push, All-replicate}
pub use Rattle.std.proofs.lemmas.Result.{IfOk-weaker}
pub use Rattle.std.specs.List.{All, list_all, prefix_len}
