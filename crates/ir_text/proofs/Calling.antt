-- The identifiers of parameters, blocks and results, and how they are printed and read.
use Rattle.ir_text.proofs.Common.{◌≡◌, ℕ, zero, suc, ◌+◌, ◌<◌, ◌≤◌, ◌^◌, List, [], ◌∷◌, ◌++◌, Option, None, Some, map, take, length, refl, sym, ap, subst, ◌∙◌, zero-add, arith, slice_get, option_map, option_and_then, length-map, recursion_from_All, slice_get-map, Identifier, Named, Numbered, identifier_of, Parameter, Inst, IsBlock, IsFormed, Name, names_of, block_names, block_place, place_of, width_of, identifiers_from, identifiers_of, name_in, contained_at, get_right, get_left, some_same, mapped, IsName, FunctionHasForms, IsNameText, identifier_text}
use Rattle.std.specs.List.{flat_map}
use Rattle.std.proofs.lemmas.List.{length-append}
use Rattle.ir_core.specs.declared.function.Function.{Function}
use Rattle.ir_core.specs.declared.function.Block.{Block}
use Rattle.ir_core.specs.declared.operand.Register.{Register}
use Rattle.ir_core.specs.declared.operand.Register.TheVariants as registers
use Rattle.ir_text.proofs.NameForms.{AreNameBytes, name_text_form, name_text_calls, decimal_form, decimal_calls}

-- what a function needs to be printed
pub record IsPrintable (f : Function) : Type 0 where
  pub forms : FunctionHasForms f
  pub formed : IsFormed f
  pub few : length (names_of f) < 2 ^ 64

-- ---- the identifier of a thing

-- a thing with this name has an identifier, whose printed text is read as that identifier
pub record IsCalled (identified : Option Identifier) (name : Name) : Type 0 where
  pub written : Identifier
  pub is_written : identified ≡ Some written
  pub name_is : name ≡ name_in written
  pub form : IsNameText (identifier_text identified)
  pub reads : written ≡ identifier_of (identifier_text identified)

-- each byte of a name, by recursion
pub bytes_of_name : (name : List ℕ) → IsName name → AreNameBytes name
bytes_of_name name all = recursion_from_All (λ (b : ℕ). (1 ≤ b) × (b ≤ 255)) name all

pub named_is_called : (name : List ℕ) → IsName name → IsCalled (Some (Named name)) (Some name)
unfolding identifier_text
named_is_called name ok = record {
  written = Named name;
  is_written = refl;
  name_is = refl;
  form = name_text_form name (bytes_of_name name ok);
  reads = sym (name_text_calls name (bytes_of_name name ok));
}

numbered_is_called : (n : ℕ) → n < 2 ^ 64 → IsCalled (Some (Numbered n)) None
unfolding identifier_text
numbered_is_called n small = record { written = Numbered n; is_written = refl; name_is = refl; form = decimal_form n small; reads = sym (decimal_calls n small) }

called_from : (next : ℕ) (names : List Name) (p : ℕ) (name : Name) → next + length names ≤ 2 ^ 64 → ((i : ℕ) (text : List ℕ) → slice_get names i ≡ Some (Some text) → IsName text) → slice_get names p ≡ Some name
    → IsCalled (slice_get (identifiers_from next names) p) name
called_from next [] p name few ok at = absurd cc
called_from next (Some text ∷ names) zero name few ok at = subst (λ (n : Name). IsCalled (Some (Named text)) n) (some_same at) (named_is_called text (ok 0 text refl))
called_from next (None ∷ names) zero name few ok at = subst (λ (n : Name). IsCalled (Some (Numbered next)) n) (some_same at) (numbered_is_called next (omega arith))
called_from next (Some text ∷ names) (suc p) name few ok at = called_from next names p name (omega arith) (λ i t is. ok (suc i) t is) at
called_from next (None ∷ names) (suc p) name few ok at = called_from (suc next) names p name (omega arith) (λ i t is. ok (suc i) t is) at

pub is_called : (f : Function) → IsPrintable f → (p : ℕ) (name : Name) → slice_get (names_of f) p ≡ Some name → IsCalled (slice_get (identifiers_of f) p) name
is_called f fits p name at =
    called_from 0 (names_of f) p name (let few = fits.few in omega arith) (λ i text is. fits.forms.names text (contained_at (names_of f) i (Some text) is)) at

-- ---- the indices of names

flat_at : {X A : Type 0} (g : X → List A) (xs : List X) (b : ℕ) (x : X) (j : ℕ) (y : A) → slice_get xs b ≡ Some x → slice_get (g x) j ≡ Some y → slice_get (flat_map g xs) (length (flat_map g (take b xs)) + j) ≡ Some y
flat_at g [] b x j y at here = absurd cc
flat_at g (x ∷ xs) zero z j y at here =
    let start : 0 + j ≡ j = zero-add j in
    let same : x ≡ z = some_same at in
    rw start (get_left (g x) (flat_map g xs) j y (rw same here))
flat_at g (x ∷ xs) (suc b) z j y at here =
    let place : length (g x ++ flat_map g (take b xs)) + j ≡ length (g x) + (length (flat_map g (take b xs)) + j) = omega (arith, length-append (g x) (flat_map g (take b xs))) in
    rw place (get_right (g x) (flat_map g xs) (length (flat_map g (take b xs)) + j) ∙ flat_at g xs b z j y at here)

pub parameter_named : (f : Function) (k : ℕ) (p : Parameter) → slice_get f.parameters k ≡ Some p → slice_get (names_of f) k ≡ Some p.name
parameter_named f k p at = get_left (map (λ q. q.name) f.parameters) (flat_map block_names f.blocks) k p.name (slice_get-map (λ q. q.name) f.parameters k ∙ ap (option_map (λ (q : Parameter). q.name)) at)

-- thing j of block b: the block itself for 0, and then its results
in_block : (f : Function) (b : ℕ) (block : Block) (j : ℕ) (name : Name) → IsBlock f b block → slice_get (block_names block) j ≡ Some name → slice_get (names_of f) (block_place f b + j) ≡ Some name
in_block f b block j name at here =
    let before = map (λ (q : Parameter). q.name) f.parameters in
    let offset = length (flat_map block_names (take b f.blocks)) in
    let place : block_place f b + j ≡ length before + (offset + j) = omega (arith, length-map f.parameters (λ (q : Parameter). q.name)) in
    rw place (get_right before (flat_map block_names f.blocks) (offset + j) ∙ flat_at block_names f.blocks b block j name at here)

pub block_named : (f : Function) (b : ℕ) (block : Block) → IsBlock f b block → slice_get (names_of f) (block_place f b) ≡ Some block.name
block_named f b block at = let place : block_place f b ≡ block_place f b + 0 = omega arith in rw place (in_block f b block 0 block.name at refl)

pub result_named : (f : Function) (b k : ℕ) (block : Block) (inst : Inst) → IsBlock f b block → slice_get block.insts k ≡ Some inst → slice_get (names_of f) (place_of f (registers.Result b k)) ≡ Some inst.name
result_named f b k block inst at here =
    let place : block_place f b + 1 + k ≡ block_place f b + suc k = omega arith in
    rw place (in_block f b block (suc k) inst.name at (slice_get-map (λ i. i.name) block.insts k ∙ ap (option_map (λ (i : Inst). i.name)) here))

-- ---- registers that are read

and_then : {X Y : Type 0} (g : X → Option Y) (o : Option X) (y : Y) → option_and_then g o ≡ Some y → (x : X) × (o ≡ Some x) × (g x ≡ Some y)
and_then g None y h = absurd cc
and_then g (Some x) y h = (x, refl, h)

-- a register that has a width is a thing of the function
pub register_named : (f : Function) (r : Register) (width : ℕ) → width_of f r ≡ Some width → (name : Name) × (slice_get (names_of f) (place_of f r) ≡ Some name)
register_named f (registers.Parameter k) width has =
    let (p, at, is) = mapped (λ (q : Parameter). q.width) (slice_get f.parameters k) width has in
    (p.name, parameter_named f k p at)
register_named f (registers.Result b k) width has =
    let (block, at, behind) = and_then (λ (q : Block). option_map (λ (i : Inst). i.width) (slice_get q.insts k)) (slice_get f.blocks b) width has in
    let (inst, here, is) = mapped (λ (i : Inst). i.width) (slice_get block.insts k) width behind in
    (inst.name, result_named f b k block inst at here)
