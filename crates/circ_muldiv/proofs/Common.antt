-- What the proofs of this crate cite of definitions, of other crates and of the libraries, passed on from one place.
pub use Rattle.std.proofs.Common.{Bool, Err, IfOk, List, Ok, Result, [], add-one, ap, arith, drop, false, get_or, if◌then◌else◌, int_le, int_lt, length, length-append, length-drop, map, nat_le, nat_lt, neg_ℤ, negsuc, not, pos, refl, replicate, reverse, subst, suc, sym, take, true, unsigned_abs, zero, ℕ, ℤ, ⊎_elim, ◌%◌, ◌&&◌, ◌*ℤ◌, ◌*◌, ◌++◌, ◌+ℤ◌, ◌+◌, ◌-ℤ◌, ◌-◌, ◌/◌, ◌<◌, ◌^◌, ◌||◌, ◌∙◌, ◌∷◌, ◌≡◌, ◌≢◌, ◌≤◌}
unfoldable pub use Rattle.circ_muldiv.specs.Division.{residue}
pub use Rattle.circ_muldiv.specs.Division.{quotient}
pub use Rattle.circ_muldiv.specs.Gates.{absolute_gates, division_gates, division_step_gates, overflow_mul_gates, product_gates, row_gates, signed_division_gates}
pub use Rattle.circ_muldiv.specs.Overflow.{fits, whole}
pub use Rattle.circuits.proofs.Kept.{Adds-refl, Adds-trans, Adds-weaken, All-kept, Keeps-trans, map-kept, own_at}
pub use Rattle.circuits.proofs.Words.{bit-le_one, map-replicate, number-all_zero, number-append, number-below, number-cut, number-map_not, number-push, number-replicate, number-take_more, remainder}
pub use Rattle.circuits.specs.Circuit.{Adds}
pub use Rattle.circuits.specs.Gates.{adder_gates, comparison_gates, select_gates}
pub use Rattle.circuits.specs.Word.{bit, number, number_of, signed}
pub use Rattle.circuits.specs.declared.state.State.{Ghosts}
pub use Rattle.std.proofs.Math.Nat.{mod-add-div, mod-eq_of_lt, pow-succ'}
pub use Rattle.std.proofs.lemmas.Bool.{cases_lt}
pub use Rattle.std.proofs.lemmas.Bool.Decides.{nat_tests}
pub use Rattle.std.proofs.lemmas.Grind.{reverse_onto}
pub use Rattle.std.proofs.lemmas.Int.{ints}
pub use Rattle.std.proofs.lemmas.List.{drop_all, drop_more, length-map, length-replicate, length-reverse, length-take-le, length_push, map-append, reverse-append, take-append-drop, take_all}
pub use Rattle.std.proofs.lemmas.List.Elements.{All-append, All-cons, All-drop, All-push, All-replicate, All-take}
pub use Rattle.std.proofs.lemmas.List.Sorted.{All-permutation, IsPermutation-reverse}
pub use Rattle.std.proofs.lemmas.Nat.{div-mul-add, mod-mul-add, pow-add, pow_pos}
pub use Rattle.std.proofs.lemmas.Result.{IfOk-weaker}
pub use Rattle.std.specs.Bool.{xor}
pub use Rattle.std.specs.List.{All}
