-- Where a circuit keeps its older literals, operands, effects and words over these stand for the same as before.
use Rattle.blast_value.proofs.Common.{◌≡◌, suc, Bool, List, [], ◌∷◌, map, refl, arith, get_or, All, Ghosts, Keeps, number_of, All-kept, map-kept, Held, Blasted, held_value, effect_of, IsOwn, IsOwnEffect, number_held}

module _ {C L : Type 0} {state : Ghosts C L} {old new : C} (keeps : Keeps state old new) where
  pub IsOwn-kept : (held : Held L) → IsOwn (state.has_literal old) held → IsOwn (state.has_literal new) held
  IsOwn-kept held own = record { bits = All-kept keeps held.bits own.bits; poison = keeps.literals held.poison own.poison }

  pub AllOwn-kept : (held : List (Held L)) → All (IsOwn (state.has_literal old)) held → All (IsOwn (state.has_literal new)) held
  AllOwn-kept held own k d below = IsOwn-kept (get_or held k d) (own k d below)

  pub held_value-kept : (inputs : List Bool) → state.admits old inputs → (held : Held L) → IsOwn (state.has_literal old) held → held_value (state.value new inputs) held ≡ held_value (state.value old inputs) held
  held_value-kept inputs admitted held own = rw (keeps.values inputs held.poison admitted own.poison, map-kept keeps inputs admitted held.bits own.bits) refl

  pub values-kept : (inputs : List Bool) → state.admits old inputs → (held : List (Held L)) → All (IsOwn (state.has_literal old)) held → map (held_value (state.value new inputs)) held ≡ map (held_value (state.value old inputs)) held
  values-kept inputs admitted [] own = refl
  values-kept inputs admitted (h ∷ held) own =
      let first = held_value-kept inputs admitted h (own 0 h (omega arith)) in
      let rest = values-kept inputs admitted held (λ k d below. own (suc k) d (omega arith)) in
      cc

  pub effect_of-kept : (inputs : List Bool) → state.admits old inputs → (made : Blasted L) → IsOwnEffect (state.has_literal old) made → effect_of (state.value new inputs) made ≡ effect_of (state.value old inputs) made
  effect_of-kept inputs admitted made own =
      let held : Held L = record { bits = made.bits; poison = made.poison } in
      rw (keeps.values inputs made.undefined admitted own.undefined, held_value-kept inputs admitted held (record { bits = own.bits; poison = own.poison })) refl

  pub IsOwnEffect-kept : (made : Blasted L) → IsOwnEffect (state.has_literal old) made → IsOwnEffect (state.has_literal new) made
  IsOwnEffect-kept made own = record { bits = All-kept keeps made.bits own.bits; poison = keeps.literals made.poison own.poison; undefined = keeps.literals made.undefined own.undefined }

  pub AllAll-kept : (words : List (List L)) → All (All (state.has_literal old)) words → All (All (state.has_literal new)) words
  AllAll-kept words own k d below = All-kept keeps (get_or words k d) (own k d below)

  pub number_held-kept : (inputs : List Bool) → state.admits old inputs → (word : List L) → All (state.has_literal old) word → number_held (state.value new inputs) word ≡ number_held (state.value old inputs) word
  number_held-kept inputs admitted word own = rw (map-kept keeps inputs admitted word own) refl

  pub numbers_held-kept : (inputs : List Bool) → state.admits old inputs → (words : List (List L)) → All (All (state.has_literal old)) words → map (number_held (state.value new inputs)) words ≡ map (number_held (state.value old inputs)) words
  numbers_held-kept inputs admitted [] own = refl
  numbers_held-kept inputs admitted (w ∷ words) own =
      let first : number_held (state.value new inputs) w ≡ number_held (state.value old inputs) w = rw (map-kept keeps inputs admitted w (own 0 w (omega arith))) refl in
      let rest = numbers_held-kept inputs admitted words (λ k d below. own (suc k) d (omega arith)) in
      cc

  pub numbers_of-kept : (inputs : List Bool) → state.admits old inputs → (words : List (List L)) → All (All (state.has_literal old)) words → map (number_of (state.value new inputs)) words ≡ map (number_of (state.value old inputs)) words
  numbers_of-kept inputs admitted [] own = refl
  numbers_of-kept inputs admitted (w ∷ words) own =
      let first : number_of (state.value new inputs) w ≡ number_of (state.value old inputs) w = rw (map-kept keeps inputs admitted w (own 0 w (omega arith))) refl in
      let rest = numbers_of-kept inputs admitted words (λ k d below. own (suc k) d (omega arith)) in
      cc
