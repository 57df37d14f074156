-- The table of the identifiers of all things says what the function's identifiers refer to.
use Rattle.ir_resolve.proofs.Common.{◌≡◌, inl, inr, ℕ, zero, suc, ◌+◌, ◌<◌, Bool, true, false, cond, List, [], ◌∷◌, map, length, Option, Some, refl, sym, ap, subst, ◌∙◌, arith, slice_get, option_map, zip, enumerate_from, lookup, place_from_lookup, length-map, length-enumerate_from, slice_get-map, slice_get_within, Identifier, Named, Numbered, Register, RawFunction, RawIdentifier, Entity, Thing, Value, Block, written_names, called_in, given, identifiers_of, HasThing, place_of, Calls, result_width, Repeats, HasName, IsWrittenOn, RegisterHasWidth, CallsRegister, Known, same, entity_in, CallsIn, CallsRegisterIn, Defined, parameter_defined, definitions_of, parameters_defined, blocks_defined, Tabulates}
use Rattle.ir_core.specs.declared.operand.Register.TheVariants as registers
use Rattle.ir_resolve.specs.declared.names.definition.Entity.TheVariants as entities
use Rattle.ir_resolve.proofs.Places.{before_place}
use Rattle.ir_resolve.proofs.Series.{numbered_lt}
use Rattle.ir_resolve.proofs.Renaming.{name_of_id}
use Rattle.ir_resolve.proofs.Lookups.{is_same, same_itself}
use Rattle.ir_resolve.proofs.Standing.{some_same, mapped, before, get_cases, get_left, get_right, parameter_at, parameter_stands, StandsFor, block, result, stands_for, block_stands, result_stands}

-- ---- the thing at an index

-- the entity is that of a thing of the function, whose index is p
abbrev IsEntityAt : RawFunction → ℕ → Entity → Type 0
IsEntityAt raw p (entities.Register r width) = HasThing raw (Value r) × (place_of raw (Value r) ≡ p) × RegisterHasWidth raw r width
IsEntityAt raw p (entities.Block b) = HasThing raw (Block b) × (place_of raw (Block b) ≡ p)

some_at : {X : Type 0} (xs : List X) (k : ℕ) → k < length xs → (x : X) × (slice_get xs k ≡ Some x)
some_at [] k lt = absurd (omega arith)
some_at (x ∷ xs) zero lt = (x, refl)
some_at (x ∷ xs) (suc k) lt = some_at xs k (omega arith)

module _ (raw : RawFunction) where
  abbrev count : ℕ
  count = length raw.parameters

  length-parameters : length (parameters_defined raw.parameters) ≡ count
  length-parameters = length-map (enumerate_from 0 raw.parameters) parameter_defined ∙ length-enumerate_from 0 raw.parameters

  entity_from_block : (p q : ℕ) (d : Defined) → p ≡ count + q → StandsFor 0 raw.blocks q d → IsEntityAt raw p d.1
  entity_from_block p q d is (block i b at place defines) =
      let number : 0 + i ≡ i = omega arith in
      let e : d.1 ≡ entities.Block i = ap (λ (x : Defined). x.1) defines ∙ ap (λ m. entities.Block m) number in
      subst (IsEntityAt raw p) (sym e) (slice_get_within raw.blocks i b at, omega arith)
  entity_from_block p q d is (result i j b inst at inst_at place defines) =
      let number : 0 + i ≡ i = omega arith in
      let e : d.1 ≡ entities.Register (registers.Result i j) (result_width inst.op) = ap (λ (x : Defined). x.1) defines ∙ ap (λ m. entities.Register (registers.Result m j) (result_width inst.op)) number in
      subst (IsEntityAt raw p) (sym e) ((inst, (b, at, inst_at)), omega arith, (inst, (b, at, inst_at), refl))

  entity_at : (p : ℕ) (d : Defined) → slice_get (definitions_of raw) p ≡ Some d → IsEntityAt raw p d.1
  entity_at p d at =
      elim (get_cases (parameters_defined raw.parameters) (blocks_defined raw.blocks) p d at) [
        | inl left ↦
            let (par, par_at, is) = parameter_at raw.parameters p d left in
            subst (IsEntityAt raw p) (ap (λ (x : Defined). x.1) is) (slice_get_within raw.parameters p par par_at, refl, (par, par_at, refl))
        | inr (q, is, right) ↦ entity_from_block p q d (omega (arith, length-parameters)) (stands_for 0 raw.blocks q d right)
      ]

  -- and each thing has an index
  register_stands : (r : Register) (width : ℕ) → RegisterHasWidth raw r width → (w : Option RawIdentifier) × (slice_get (definitions_of raw) (place_of raw (Value r)) ≡ Some (w, entities.Register r width))
  register_stands (registers.Parameter k) width (par, at, is) = (
    par.name,
    get_left (parameters_defined raw.parameters) (blocks_defined raw.blocks) k (parameter_defined (k, par)) (parameter_stands raw.parameters k par at)
        ∙ ap (λ m. Some (par.name, entities.Register (registers.Parameter k) m)) is,
  )
  register_stands (registers.Result d j) width (inst, (b, at, inst_at), is) =
      let number : 0 + d ≡ d = omega arith in
      let place : place_of raw (Value (registers.Result d j)) ≡ length (parameters_defined raw.parameters) + (before raw.blocks d + suc j) = omega (arith, length-parameters) in (
        Some inst.result,
        ap (slice_get (definitions_of raw)) place
            ∙ get_right (parameters_defined raw.parameters) (blocks_defined raw.blocks) (before raw.blocks d + suc j)
            ∙ result_stands 0 raw.blocks d j b inst (before raw.blocks d + suc j) at inst_at refl
            ∙ ap (λ m. Some (Some inst.result, entities.Register (registers.Result m j) (result_width inst.op))) number
            ∙ ap (λ m. Some (Some inst.result, entities.Register (registers.Result d j) m)) is,
      )

  block_stands_at : (b : ℕ) → HasThing raw (Block b) → (w : Option RawIdentifier) × (slice_get (definitions_of raw) (place_of raw (Block b)) ≡ Some (w, entities.Block b))
  block_stands_at b lt =
      let (c, at) = some_at raw.blocks b lt in
      let number : 0 + b ≡ b = omega arith in
      let place : place_of raw (Block b) ≡ length (parameters_defined raw.parameters) + before raw.blocks b = omega (arith, length-parameters) in (
        c.label,
        ap (slice_get (definitions_of raw)) place
            ∙ get_right (parameters_defined raw.parameters) (blocks_defined raw.blocks) (before raw.blocks b)
            ∙ block_stands 0 raw.blocks b c (before raw.blocks b) at refl
            ∙ ap (λ m. Some (c.label, entities.Block m)) number,
      )

  -- a register of the function has a width
  pub width_of_register : (r : Register) → HasThing raw (Value r) → (width : ℕ) × RegisterHasWidth raw r width
  width_of_register (registers.Parameter k) lt = let (par, at) = some_at raw.parameters k lt in (par.width, (par, at, refl))
  width_of_register (registers.Result d j) (inst, written) = (result_width inst.op, (inst, written, refl))

-- ---- lookups

unzip_at : {X Y : Type 0} (xs : List X) (ys : List Y) (i : ℕ) (x : X) (y : Y) → slice_get (zip xs ys) i ≡ Some (x, y) → (slice_get xs i ≡ Some x) × (slice_get ys i ≡ Some y)
unzip_at [] ys i x y at = cc
unzip_at (a ∷ xs) [] i x y at = cc
unzip_at {X} {Y} (a ∷ xs) (b ∷ ys) zero x y at = let one : (let p : X × Y = (a, b) in p) ≡ (x, y) = some_same at in (ap (λ (p : X × Y). Some p.0) one, ap (λ (p : X × Y). Some p.1) one)
unzip_at (a ∷ xs) (b ∷ ys) (suc i) x y at = unzip_at xs ys i x y at

found_at : (ids : List Identifier) (es : List Entity) (x : Identifier) (e : Entity) → lookup (same x) (zip ids es) ≡ Some e → (p : ℕ) × (slice_get ids p ≡ Some x) × (slice_get es p ≡ Some e)
found_at ids es x e found =
    let (p, k, at, t) = place_from_lookup (same x) (zip ids es) e found in
    let (id_at, e_at) = unzip_at ids es p k e at in
    (p, id_at ∙ ap Some (sym (is_same x k t)), e_at)

find_more : (x k : Identifier) (v : Entity) (rest : Option Entity) (e : Entity) (b : Bool) → same x k ≡ b → ¬ (k ≡ x) → rest ≡ Some e → cond b (Some v) rest ≡ Some e
find_more x k v rest e true is other found = absurd (other (sym (is_same x k is)))
find_more x k v rest e false is other found = found

find_at : (ids : List Identifier) (es : List Entity) (p : ℕ) (x : Identifier) (e : Entity) → ((q : ℕ) → q < p → ¬ (slice_get ids q ≡ Some x)) → slice_get ids p ≡ Some x → slice_get es p ≡ Some e → lookup (same x) (zip ids es) ≡ Some e
find_at [] es p x e first at e_at = cc
find_at (k ∷ ids) [] p x e first at e_at = cc
find_at (k ∷ ids) (v ∷ es) zero x e first at e_at =
    let one : k ≡ x = cc in
    ap (λ b. cond b (Some v) (lookup (same x) (zip ids es))) (ap (same x) one ∙ same_itself x) ∙ e_at
find_at (k ∷ ids) (v ∷ es) (suc p) x e first at e_at =
    find_more x k v (lookup (same x) (zip ids es)) e (same x k) refl (λ one. first 0 (omega arith) (ap Some one)) (find_at ids es p x e (λ q lt. first (suc q) (omega arith)) at e_at)

-- if no name is given twice, no two things have one identifier
pub once : (written : List (Option RawIdentifier)) → ((line : ℕ) → ¬ Repeats HasName IsWrittenOn written line) → (p q : ℕ) (x : Identifier) → q < p → slice_get (called_in written) q ≡ Some x → ¬ (slice_get (called_in written) p ≡ Some x)
once written no_repeat p q (Numbered m) lt q_at p_at = let less : m < m = numbered_lt 0 (map given written) q p m m lt q_at p_at in omega arith
once written no_repeat p q (Named name) lt q_at p_at =
    let (v, v_at, v_has) = name_of_id written q name q_at in
    let (w, w_at, (r, is, named)) = name_of_id written p name p_at in
    no_repeat r.line (p, (w, name, w_at, (r, is, named), (v, before_place p written v q lt v_at, v_has), (r, is, refl)))

-- ---- the table

module _ (raw : RawFunction) (known : List Known) (no_repeat : (line : ℕ) → ¬ Repeats HasName IsWrittenOn (written_names raw) line)
    (is : known ≡ zip (identifiers_of raw) (map (λ (d : Defined). d.1) (definitions_of raw))) where
  -- a lookup gives exactly the entity at the index of the identifier
  entity_found_at : (x : Identifier) (e : Entity) → entity_in known x ≡ Some e → (p : ℕ) × (slice_get (identifiers_of raw) p ≡ Some x) × IsEntityAt raw p e
  entity_found_at x e found =
      let (p, id_at, e_at) = found_at (identifiers_of raw) (map (λ (d : Defined). d.1) (definitions_of raw)) x e (subst (λ k. lookup (same x) k ≡ Some e) is found) in
      let (d, d_at, d_is) = mapped (λ (d : Defined). d.1) (slice_get (definitions_of raw) p) e (sym (slice_get-map (λ (d : Defined). d.1) (definitions_of raw) p) ∙ e_at) in
      (p, id_at, subst (IsEntityAt raw p) d_is (entity_at raw p d d_at))

  entity_is_found : (x : Identifier) (p : ℕ) (w : Option RawIdentifier) (e : Entity) → slice_get (identifiers_of raw) p ≡ Some x → slice_get (definitions_of raw) p ≡ Some (w, e) → entity_in known x ≡ Some e
  entity_is_found x p w e id_at at =
      ap (lookup (same x)) is
      ∙ find_at (identifiers_of raw) (map (λ (d : Defined). d.1) (definitions_of raw)) p x e (λ q lt q_at. once (written_names raw) no_repeat p q x lt q_at id_at) id_at
      (slice_get-map (λ (d : Defined). d.1) (definitions_of raw) p ∙ ap (option_map (λ (d : Defined). d.1)) at)

  register_from : (x : Identifier) (r : Register) (width : ℕ) → CallsRegisterIn known x r width → CallsRegister raw x r width
  register_from x r width found =
      let (p, id_at, (has, place, wide)) = entity_found_at x (entities.Register r width) found in
      ((has, ap (slice_get (identifiers_of raw)) place ∙ id_at), wide)

  register_to : (x : Identifier) (r : Register) (width : ℕ) → CallsRegister raw x r width → CallsRegisterIn known x r width
  register_to x r width ((has, id_at), wide) =
      let (w, at) = register_stands raw r width wide in
      entity_is_found x (place_of raw (Value r)) w (entities.Register r width) id_at at

  thing_from : (x : Identifier) (thing : Thing) → CallsIn known x thing → Calls raw x thing
  thing_from x (Value r) (width, found) = (register_from x r width found).0
  thing_from x (Block b) found =
      let (p, id_at, (has, place)) = entity_found_at x (entities.Block b) found in
      (has, ap (slice_get (identifiers_of raw)) place ∙ id_at)

  thing_to : (x : Identifier) (thing : Thing) → Calls raw x thing → CallsIn known x thing
  thing_to x (Value r) (has, id_at) = let (width, wide) = width_of_register raw r has in (width, register_to x r width ((has, id_at), wide))
  thing_to x (Block b) (has, id_at) =
      let (w, at) = block_stands_at raw b has in
      entity_is_found x (place_of raw (Block b)) w (entities.Block b) id_at at

  pub tabulates : Tabulates raw known
  tabulates = record {
    things = λ x thing. (thing_from x thing, thing_to x thing);
    registers = λ x r width. (register_from x r width, register_to x r width);
  }
