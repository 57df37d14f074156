-- In the canonical form of a function, the identifiers that are written are those of the function's things.
use Rattle.ir_round_trip.proofs.Common.{◌≡◌, ℕ, zero, suc, List, [], ◌∷◌, ◌++◌, map, take, length, refl, sym, ap, ◌∙◌, arith, slice_get, AllZip, flat_map, length-map, map-append, Identifier, block_names, names_of, block_place, place_of, identifiers_from, identifiers_of, RawFunction, Thing, Value, given, written_in, written_names, HasThing, Calls, BlockIsOf, ParameterMeans, MeansBy, same_length, parameter_names, names_in_blocks, Identifies}
use Rattle.ir_core.specs.declared.function.Function.{Function}
use Rattle.ir_core.specs.declared.operand.Register.{Register}
use Rattle.ir_core.specs.declared.operand.Register.TheVariants as registers
use Rattle.ir_resolve.specs.Written.{Block, identifiers_of as written_identifiers, block_place as written_block_place, place_of as written_place}

zip_front : {X Y : Type 0} (R : X → Y → Type 0) (n : ℕ) (xs : List X) (ys : List Y) → AllZip R xs ys → AllZip R (take n xs) (take n ys)
zip_front R zero xs ys all = tt
zip_front R (suc n) [] [] all = tt
zip_front R (suc n) [] (y ∷ ys) all = absurd all
zip_front R (suc n) (x ∷ xs) [] all = absurd all
zip_front R (suc n) (x ∷ xs) (y ∷ ys) all = (all.0, zip_front R n xs ys all.1)

module _ (raw : RawFunction) (f : Function) (m : MeansBy (Identifies f) raw f) where
  pub names_are : names_of f ≡ map given (written_names raw)
  names_are =
      ap (λ ns. ns ++ flat_map block_names f.blocks) (parameter_names raw.parameters f.parameters m.parameters)
      ∙ ap (λ ns. map given (map (λ p. p.name) raw.parameters) ++ ns) (names_in_blocks (Identifies f) raw.blocks f.blocks m.blocks)
      ∙ sym (map-append given (map (λ p. p.name) raw.parameters) (flat_map written_in raw.blocks))

  pub identifiers_are : identifiers_of f ≡ written_identifiers raw
  identifiers_are = ap (identifiers_from 0) names_are

  -- a thing has one index

  block_stands : (b : ℕ) → block_place f b ≡ written_block_place raw b
  block_stands b =
      let before = names_in_blocks (Identifies f) (take b raw.blocks) (take b f.blocks) (zip_front (BlockIsOf (Identifies f)) b raw.blocks f.blocks m.blocks) in
      let count : length (flat_map block_names (take b f.blocks)) ≡ length (flat_map written_in (take b raw.blocks)) = ap length before ∙ length-map (flat_map written_in (take b raw.blocks)) given in
      omega (arith, same_length ParameterMeans raw.parameters f.parameters m.parameters)

  register_stands : (r : Register) → place_of f r ≡ written_place raw (Value r)
  register_stands (registers.Parameter k) = refl
  register_stands (registers.Result b k) = let block = block_stands b in omega arith

  -- the identifier of a thing refers to it, if the function as written has it
  pub calls : (x : Identifier) (thing : Thing) → HasThing raw thing → Identifies f x thing → Calls raw x thing
  calls x (Value r) has is = (has, ap (slice_get (written_identifiers raw)) (sym (register_stands r)) ∙ ap (λ names. slice_get names (place_of f r)) (sym identifiers_are) ∙ is)
  calls x (Block b) has is = (has, ap (slice_get (written_identifiers raw)) (sym (block_stands b)) ∙ ap (λ names. slice_get names (block_place f b)) (sym identifiers_are) ∙ is)
