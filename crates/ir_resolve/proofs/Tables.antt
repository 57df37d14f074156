-- The symbol table as it is filled in order.
use Rattle.ir_resolve.proofs.Common.{◌≡◌, ◌↔◌, ℕ, ◌+◌, ◌<◌, Bool, false, ◌||◌, cond, IsTrue, List, [], ◌∷◌, ◌++◌, length, map, take, get_or, Option, None, Some, refl, sym, ap, subst, ◌∙◌, arith, option_map, zip, take_more, get_or-map, length-map, length-take, zip_push, Identifier, Key, Entity, Definition, IsFirst, lesser, SomeHas, RepeatsHere, HasName, IsWrittenOn, seen, seen_written, AreKeysOf, Known, same, Is}
use Rattle.ir_resolve.proofs.Repeats.{known_more}
use Rattle.ir_resolve.proofs.Lookups.{known_then}
use Rattle.ir_resolve.proofs.Keys.{length-keys, written_at, called_at}
use Rattle.ir_resolve.proofs.Renaming.{repeat_here, not_there}

abbrev pub entity : Definition → Entity
entity d = d.entity

pub none_of : (a b : Option ℕ) → lesser a b ≡ None → (a ≡ None) × (b ≡ None)
none_of None b h = (refl, h)
none_of (Some a) None h = cc
none_of (Some a) (Some b) h = cc

module _ (definitions : List Definition) (keys : List Key) (are_keys : AreKeysOf definitions keys) (i : ℕ) (k0 : Key) (lt : i < length definitions) where
  abbrev ids : List Identifier
  ids = map seen keys

  abbrev es : List Entity
  es = map entity definitions

  abbrev x : Identifier
  x = seen (get_or keys i k0)

  in_keys : i < length keys
  in_keys = subst (λ n. i < n) (sym (length-keys definitions keys are_keys)) lt

  key_at : (y : Identifier) → get_or ids i y ≡ x
  key_at y = get_or-map seen keys i k0 y in_keys

  in_ids : i < length ids
  in_ids = subst (λ n. i < n) (sym (length-map keys seen)) in_keys

  -- the identifiers in the table after one more definition
  pub known_behind : (old new : Identifier → Bool) → ((y : Identifier) → IsTrue (old y) ↔ SomeHas Is (take i ids) y) → ((y : Identifier) → new y ≡ (old y || same y x)) → (y : Identifier) → IsTrue (new y) ↔ SomeHas Is (take (i + 1) ids) y
  known_behind old new known more =
      known_more Is (λ y. IsTrue (old y)) (λ y. IsTrue (new y)) ids i x in_ids (sym (key_at x)) known (λ y. known_then y x (old y) (new y) (more y))

  -- the table after one more definition
  pub table_behind : (d0 : Definition) (old new : List Known) → old ≡ zip (take i ids) (take i es) → new ≡ old ++ (x, (get_or definitions i d0).entity) ∷ [] → new ≡ zip (take (i + 1) ids) (take (i + 1) es)
  table_behind d0 old new so_far more =
      let e = (get_or definitions i d0).entity in
      let in_es : i < length es = omega (arith, length-map definitions entity) in
      let e_at : get_or es i e ≡ e = get_or-map entity definitions i d0 e lt in
      let more_ids : take (i + 1) ids ≡ take i ids ++ x ∷ [] = take_more ids i x in_ids ∙ ap (λ y. take i ids ++ y ∷ []) (key_at x) in
      let more_es : take (i + 1) es ≡ take i es ++ e ∷ [] = take_more es i e in_es ∙ ap (λ y. take i es ++ y ∷ []) e_at in
      let lengths : length (take i es) ≡ length (take i ids) = omega (arith, length-take i es, length-take i ids, in_ids) in
      rw (more_ids, more_es) (more ∙ ap (λ t. t ++ (x, e) ∷ []) so_far ∙ sym (zip_push (take i ids) (take i es) x e lengths))

  module _ (d0 : Definition) (old : Identifier → Bool) (there : Bool) (here : Option ℕ) (known : (y : Identifier) → IsTrue (old y) ↔ SomeHas Is (take i ids) y) (was : there ≡ old x)
      (line : here ≡ cond there (option_map (λ r. r.line) (seen_written (get_or definitions i d0))) None) where
    there_iff : IsTrue there ↔ SomeHas Is (take i (map seen keys)) x
    there_iff = rw was (known x)

    pub repeats_behind : IsFirst (RepeatsHere HasName IsWrittenOn (map seen_written definitions) i) here
    repeats_behind =
        repeat_here (map seen_written definitions) i (seen_written (get_or definitions i d0)) x (written_at definitions keys are_keys i d0 k0 lt) (called_at definitions keys are_keys i d0 k0 lt) there here
        (subst (λ all. IsTrue there ↔ SomeHas Is (take i all) x) are_keys there_iff) line

    pub new_behind : here ≡ None → there ≡ false
    new_behind none =
        not_there (map seen_written definitions) i (seen_written (get_or definitions i d0)) x (written_at definitions keys are_keys i d0 k0 lt) (called_at definitions keys are_keys i d0 k0 lt) there here
        (subst (λ all. IsTrue there ↔ SomeHas Is (take i all) x) are_keys there_iff) line none
