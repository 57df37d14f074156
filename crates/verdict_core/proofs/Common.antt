-- What the proofs of this crate cite of definitions, of other crates and of the libraries, passed on from one place.
pub use Rattle.std.proofs.Common.{Bor, List, None, Option, Some, [], ap, append_assoc, arith, codes, decimal, drop, flat_map, get_or, inl, inr, length, map, refl, rules, sym, take, ℕ, ◌++◌, ◌+◌, ◌<◌, ◌∙◌, ◌∷◌, ◌≡◌, ◌≤◌, ◌⊎◌}
pub use Rattle.ops.specs.declared.value.Value.TheVariants.{Bits}
pub use Rattle.std.proofs.iter.Yields.{fronts}
pub use Rattle.std.proofs.lemmas.Iterator.{zips}
pub use Rattle.std.proofs.lemmas.List.{append-nil, length-map, length-take, map-append, take_more}
pub use Rattle.std.proofs.lemmas.Slice.Zip.{Zip-more, either_empty_from_Zip}
pub use Rattle.std.specs.Iterator.Adapters.{zip_first, zip_second}
pub use Rattle.std.specs.List.{enumerate_from, join_with_byte, zip}
pub use Rattle.std.specs.Slice.Iter.{iter_rest}
pub use Rattle.std.specs.declared.iter.Zip.{Zip}
pub use Rattle.std.specs.declared.slice.Iter.{Iter}
unfoldable pub use Rattle.verdict_core.specs.Texts.{constants_text, inputs_text}
pub use Rattle.verdict_core.specs.Texts.{choices_text, line_text}
