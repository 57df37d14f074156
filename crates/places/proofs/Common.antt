-- What the proofs of this crate cite of definitions, of other crates and of the libraries, passed on from one place.
pub use Rattle.std.proofs.Common.{All, Bool, Contains, Err, IsTrue, List, None, Ok, OnErr, Result, Some, [], ap, arith, bit_or, cond, drop, eqb, get_or, get_or-set_other, get_or-set_same, inl, inr, length, length-append, length-set, refl, set, slice_get, subst, suc, sum_by, sym, take, true, zero, ℕ, ◌&&◌, ◌*◌, ◌++◌, ◌+◌, ◌-◌, ◌/◌, ◌<◌, ◌^◌, ◌↔◌, ◌∙◌, ◌∷◌, ◌≡◌, ◌≤◌, ◌⊎◌}
pub use Rattle.places.specs.Heaps.{ComesBefore, IsBelow, IsHeap, IsLeastBelow, IsNumbered, IsRising, IsSinking, nowhere, place_at, rank, rank_at}
pub use Rattle.places.specs.Links.{AreLinked, IsListing, first_node_at, linked_in, no_node, node_of, numbers_from, walked, with_after, with_label}
pub use Rattle.places.specs.Numbers.{numbers_in}
pub use Rattle.places.specs.Orders.{none, place_in, put_before}
pub use Rattle.places.specs.Spacings.{IsRun, IsSpaced, IsSpacing, IsWithin}
pub use Rattle.places.specs.Sets.{AreSameMarks, Has, IsAdded, IsPlace, IsRemoved, IsSameSet, Rows}
pub use Rattle.places.specs.Worklist.{AreMarked, IsFirst, IsWorklist, WorklistView, tally}
pub use Rattle.places.specs.declared.node.Node.{Node}
pub use Rattle.places.specs.declared.place.Place.{Place}
pub use Rattle.places.specs.declared.room.Run.{Run}
pub use Rattle.places.specs.declared.room.Spacing.{Spacing}
pub use Rattle.std.proofs.Math.Nat.{mul-le-mul_right}
pub use Rattle.std.proofs.lemmas.Bool.{and_from, and_left, and_right, cases_Bool, cases_eq, cases_lt, cases_order, cond-false, cond-true, eq-eqb, iff_false, lt-ltb, ltb-true, ne_eqb, true≢false}
pub use Rattle.std.proofs.lemmas.List.{get_or_append_left, get_or_default, get_or_past, get_or_push, length_push, set_past, take_at}
pub use Rattle.std.proofs.lemmas.List.Edits.{Swapped, swapped_from_swap}
pub use Rattle.std.proofs.lemmas.List.Elements.{All-contains, All-push, All-tail}
pub use Rattle.std.proofs.lemmas.List.FromFn.{get_or-range_with_len, length-range_with_len}
pub use Rattle.std.proofs.lemmas.List.Sorted.{All-permutation, Contains-permutation, IsPermutation-cons, IsPermutation-swap_remove, IsPermutation-sym, IsPermutation-to_front, IsPermutation-trans, length_permutation, sum_by_popped, sum_by_pushed}
pub use Rattle.std.proofs.lemmas.List.Sums.{get_or-le-sum_by, sum_by-cons}
pub use Rattle.std.proofs.lemmas.Nat.{div_below, le_or_r, or_lt, pow_pos}
pub use Rattle.std.proofs.lemmas.Option.{same_Some, slice_get-get_or, slice_get_past}
pub use Rattle.std.specs.List.{range_with_len, swap}
pub use Rattle.std.specs.List.Sorted.{IsPermutation}
