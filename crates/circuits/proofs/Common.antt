-- What the proofs of this crate cite of definitions, of other crates and of the libraries, passed on from one place.
pub use Rattle.std.proofs.Common.{Bool, List, [], add-one, ap, append-nil, append_assoc, arith, drop, false, get_or, if◌then◌else◌, int_lt, length, length-append, length-drop, map, min, nat_le, nat_lt, not, pos, refl, replicate, subst, suc, sym, take, true, zero, ℕ, ℤ, ⊎_elim, ◌%◌, ◌&&◌, ◌*◌, ◌++◌, ◌+ℤ◌, ◌+◌, ◌-ℤ◌, ◌-◌, ◌/◌, ◌<◌, ◌==◌, ◌^◌, ◌||◌, ◌∙◌, ◌∷◌, ◌≡◌, ◌≤◌}
pub use Rattle.circuits.specs.Circuit.{Adds, Keeps}
unfoldable pub use Rattle.circuits.specs.Gates.{stages}
pub use Rattle.circuits.specs.Gates.{shift_gates}
pub use Rattle.circuits.specs.Kleene.{certain, known_and, known_mux, known_not, known_or, known_xor}
pub use Rattle.circuits.specs.KnownSum.{known_carry, known_sum}
pub use Rattle.circuits.specs.Move.{moved}
pub use Rattle.circuits.specs.Word.{bit, number, number_of, signed}
pub use Rattle.circuits.specs.declared.known_bit.KnownBit.{KnownBit}
pub use Rattle.circuits.specs.declared.known_bit.KnownBit.TheVariants.{One, Unknown, Zero}
pub use Rattle.circuits.specs.declared.shift.Direction.{Direction}
pub use Rattle.circuits.specs.declared.shift.Direction.TheVariants.{Down, Up}
pub use Rattle.circuits.specs.declared.state.State.{Ghosts}
pub use Rattle.std.proofs.Math.Nat.{add-mul-mod_self_left, mod-eq_of_lt, mul-le-mul_left, pow-succ'}
pub use Rattle.std.proofs.Math.Pow.{pow_mono}
pub use Rattle.std.proofs.Math.Seq.{drop-append-add, take-append-add}
pub use Rattle.std.proofs.lemmas.Bool.{cases_lt, true≢false}
pub use Rattle.std.proofs.lemmas.Bool.Decides.{nat_tests}
pub use Rattle.std.proofs.lemmas.Int.{ints}
pub use Rattle.std.proofs.lemmas.List.{drop-append-le, drop-drop, drop-map, drop-replicate, drop_all, drop_more, length-map, length-replicate, length-take-le, length_push, map-append, replicate-append-replicate, take-append-drop, take-append-le, take-map, take-replicate, take-take, take_all, take_more}
pub use Rattle.std.proofs.lemmas.List.Elements.{All-append, All-drop, All-push, All-replicate, All-take}
pub use Rattle.std.proofs.lemmas.Nat.{div-mul-add, pow-add}
pub use Rattle.std.proofs.lemmas.Result.{IfOk-weaker}
pub use Rattle.std.specs.Bool.{beq, xor}
pub use Rattle.std.specs.List.{All, list_any}
