-- Functions: their printed text is read as the function.
use Rattle.ir_text.proofs.Common.{◌≡◌, inl, inr, ℕ, suc, zero, ◌+◌, ◌<◌, true, List, [], ◌∷◌, ◌++◌, length, map, take, Option, Some, codes, refl, sym, ap, subst, ◌∙◌, arith, slice_get, IsSome, enumerate_from, AllZip, length-map, take_more, All-from_recursion, flat_map-append, length-enumerate_from, slice_get-map, slice_get_within, get_or_from_slice_get, Placed, Inst, IsBlock, block_names, block_place, identifiers_of, RawFunction, RawParameter, RawBlock, RawInst, RawIdentifier, Each, SpellsBlock, SpellsLabelledBlock, SpellsBlocks, SpellsFunction, ParameterMeans, BlockIsOf, written_in, written_names, get_cases, mapped, some_same, block_text, function_text, Identifies, BlockTypesFit, WritesFunction}
use Rattle.std.specs.List.{flat_map}
use Rattle.std.proofs.lemmas.List.{length-append}
use Rattle.ir_core.specs.declared.function.Function.{Function}
use Rattle.ir_core.specs.declared.function.Block.{Block as CoreBlock}
use Rattle.ir_text.proofs.Prints.{Fresh, Body, Prints, Reads, prints_map, prints_next, prints_lines}
use Rattle.ir_text.proofs.Tokens.{body_ends, ends_line, feed}
use Rattle.ir_text.proofs.Calling.{IsPrintable}
use Rattle.ir_text.proofs.Insts.{MeansInst}
use Rattle.ir_text.proofs.Items.{MeansParameter, header_prints}
use Rattle.ir_text.proofs.Blocks.{MeansBlock, block_prints, block_is_of, block_types}
use Rattle.ir_text.proofs.Numbered.{numbered_at, numbered_here, zip_at, zip_plain, zip_each, zip_length}

-- ---- the identifiers that are written for the things of a function, in text order

-- what is written for these things, of which the first has this index, are their identifiers
abbrev AreCalled : Function → ℕ → List (Option RawIdentifier) → Type 0
AreCalled f place written = (q : ℕ) (w : RawIdentifier) → slice_get written q ≡ Some (Some w) → slice_get (identifiers_of f) (place + q) ≡ Some w.identifier

called_then : (f : Function) (place next : ℕ) (xs ys : List (Option RawIdentifier)) → next ≡ place + length xs → AreCalled f place xs → AreCalled f next ys → AreCalled f place (xs ++ ys)
called_then f place next xs ys is first second = λ q w at. elim (get_cases xs ys q (Some w) at) [
  | inl here ↦ first q w here
  | inr (p, same, there) ↦ let index : place + q ≡ next + p = omega (arith, is, same) in rw index (second p w there)
]

parameters_called : (f : Function) (raws : List RawParameter) → AllZip (MeansParameter f) raws (enumerate_from 0 f.parameters) → AreCalled f 0 (map (λ p. p.name) raws)
parameters_called f raws all = λ q w at.
    let (raw, here, is) = mapped (λ (p : RawParameter). p.name) (slice_get raws q) (Some w) (sym (slice_get-map (λ (p : RawParameter). p.name) raws q) ∙ at) in
    let (p, there, means) = zip_at (MeansParameter f) raws (enumerate_from 0 f.parameters) q raw all here in
    let number = numbered_at 0 f.parameters q p there in
    let same : means.name ≡ w = some_same (sym means.is_named ∙ is) in
    let index : 0 + q ≡ p.0 = omega (arith, number.0) in
    subst (λ (v : RawIdentifier). slice_get (identifiers_of f) (0 + q) ≡ Some v.identifier) same (rw index means.identifies)

results_called : (f : Function) (b : ℕ) (insts : List Inst) (raws : List RawInst) → AllZip (MeansInst f b) raws (enumerate_from 0 insts) → AreCalled f (block_place f b + 1) (map (λ i. Some i.result) raws)
results_called f b insts raws all = λ q w at.
    let (raw, here, is) = mapped (λ (i : RawInst). Some i.result) (slice_get raws q) (Some w) (sym (slice_get-map (λ (i : RawInst). Some i.result) raws q) ∙ at) in
    let (p, there, means) = zip_at (MeansInst f b) raws (enumerate_from 0 insts) q raw all here in
    let number = numbered_at 0 insts q p there in
    let same : raw.result ≡ w = some_same is in
    let index : q ≡ p.0 = omega (arith, number.0) in
    subst (λ (v : RawIdentifier). slice_get (identifiers_of f) (block_place f b + 1 + q) ≡ Some v.identifier) same
    (subst (λ (k : ℕ). slice_get (identifiers_of f) (block_place f b + 1 + k) ≡ Some raw.result.identifier) (sym index) means.1)

block_called : (f : Function) (raw : RawBlock) (b : ℕ × CoreBlock) → MeansBlock f raw b → AreCalled f (block_place f b.0) (written_in raw)
block_called f raw b means zero w at = let index : block_place f b.0 + 0 ≡ block_place f b.0 = omega arith in rw index (means.label.identifies w (some_same at))
block_called f raw b means (suc q) w at =
    let index : block_place f b.0 + suc q ≡ block_place f b.0 + 1 + q = omega arith in
    rw index (results_called f b.0 b.1.insts raw.insts means.insts q w at)

-- the index of the next block's name
next_place : (f : Function) (b : ℕ) (block : CoreBlock) → IsBlock f b block → block_place f (b + 1) ≡ block_place f b + (1 + length block.insts)
next_place f b block at =
    let here : take (b + 1) f.blocks ≡ take b f.blocks ++ block ∷ [] = take_more f.blocks b block (slice_get_within f.blocks b block at) ∙ ap (λ (x : CoreBlock). take b f.blocks ++ x ∷ []) (get_or_from_slice_get f.blocks b block block at) in
    let before = flat_map block_names (take b f.blocks) in
    let all : flat_map block_names (take (b + 1) f.blocks) ≡ before ++ (block_names block ++ []) = ap (λ (bs : List CoreBlock). flat_map block_names bs) here ∙ flat_map-append block_names (take b f.blocks) (block ∷ []) in
    omega (arith, ap length all, length-append before (block_names block ++ []), length-append (block_names block) [], length-map block.insts (λ (i : Inst). i.name))

-- for a block as many identifiers may be written as it has things
written_count : (f : Function) (raw : RawBlock) (b : ℕ × CoreBlock) → MeansBlock f raw b → length (written_in raw) ≡ 1 + length b.1.insts
written_count f raw b means =
    omega (arith, zip_length (MeansInst f b.0) raw.insts (enumerate_from 0 b.1.insts) means.insts, length-enumerate_from 0 b.1.insts, length-map raw.insts (λ (i : RawInst). Some i.result))

blocks_called : (f : Function) (b : ℕ) (blocks : List CoreBlock) (raws : List RawBlock) → ((i : ℕ) (block : CoreBlock) → slice_get blocks i ≡ Some block → IsBlock f (b + i) block)
    → AllZip (MeansBlock f) raws (enumerate_from b blocks) → AreCalled f (block_place f b) (flat_map written_in raws)
blocks_called f b [] [] are all = λ q w at. absurd cc
blocks_called f b [] (raw ∷ raws) are all = absurd all
blocks_called f b (block ∷ blocks) [] are all = absurd all
blocks_called f b (block ∷ blocks) (raw ∷ raws) are all =
    let here : IsBlock f b block = let same : b + 0 ≡ b = omega arith in rw (← same) (are 0 block refl) in
    let next : block_place f (b + 1) ≡ block_place f b + length (written_in raw) = next_place f b block here ∙ ap (λ (n : ℕ). block_place f b + n) (sym (written_count f raw (b, block) all.0)) in
    called_then f (block_place f b) (block_place f (b + 1)) (written_in raw) (flat_map written_in raws) next (block_called f raw (b, block) all.0)
    (blocks_called f (b + 1) blocks raws (λ i x at. let same : b + 1 + i ≡ b + suc i = omega arith in rw same (are (suc i) x at)) all.1)

all_called : (f : Function) (raw : RawFunction) → AllZip (MeansParameter f) raw.parameters (enumerate_from 0 f.parameters) → AllZip (MeansBlock f) raw.blocks (enumerate_from 0 f.blocks) → AreCalled f 0 (written_names raw)
all_called f raw parameters blocks =
    let names = map (λ (p : RawParameter). p.name) raw.parameters in
    let first : block_place f 0 ≡ 0 + length names =
    omega (arith, zip_length (MeansParameter f) raw.parameters (enumerate_from 0 f.parameters) parameters, length-enumerate_from 0 f.parameters, length-map raw.parameters (λ (p : RawParameter). p.name)) in
    called_then f 0 (block_place f 0) names (flat_map written_in raw.blocks) first (parameters_called f raw.parameters parameters)
    (blocks_called f 0 f.blocks raw.blocks (λ i block at. let same : 0 + i ≡ i = omega arith in rw same at) blocks)

-- ---- functions

writes_function : (f : Function) (raw : RawFunction) → raw.name ≡ f.name → raw.before ≡ f.before → raw.width ≡ f.width → raw.after ≡ f.after
    → AllZip (MeansParameter f) raw.parameters (enumerate_from 0 f.parameters) → AllZip (MeansBlock f) raw.blocks (enumerate_from 0 f.blocks) → WritesFunction raw f
writes_function f raw name before width after parameters blocks = record {
  means = record {
    name = sym name;
    before = sym before;
    width = sym width;
    parameters = zip_plain (MeansParameter f) ParameterMeans (λ a p m. m.means) 0 raw.parameters f.parameters parameters;
    after = sym after;
    blocks = zip_plain (MeansBlock f) (BlockIsOf (Identifies f)) (block_is_of f) 0 raw.blocks f.blocks blocks;
  };
  names = λ p w at. let same : 0 + p ≡ p = omega arith in rw same at (all_called f raw parameters blocks p w at);
  registers = All-from_recursion (λ (p : RawParameter). IsSome p.name) raw.parameters (zip_each (MeansParameter f) (λ p. IsSome p.name) (λ a p m. rw m.is_named refl) raw.parameters (enumerate_from 0 f.parameters) parameters);
  first_label = λ block at some.
      let (p, there, means) = zip_at (MeansBlock f) raw.blocks (enumerate_from 0 f.blocks) 0 block blocks at in
      means.label.first (numbered_at 0 f.blocks 0 p there).0 some;
  labels = λ b block at.
      let (p, there, means) = zip_at (MeansBlock f) raw.blocks (enumerate_from 0 f.blocks) (suc b) block blocks at in
      let number = (numbered_at 0 f.blocks (suc b) p there).0 in
      means.label.further (omega (arith, number));
  types = rw width (All-from_recursion (BlockTypesFit f.width) raw.blocks (zip_each (MeansBlock f) (BlockTypesFit f.width) (block_types f) raw.blocks (enumerate_from 0 f.blocks) blocks));
}

-- each block but the first has a label
labelled : (f : Function) (b : ℕ) (raws : List RawBlock) (blocks : List CoreBlock) (tokens rest : List Placed) → 0 < b → AllZip (MeansBlock f) raws (enumerate_from b blocks) → Each SpellsBlock raws tokens rest → Each SpellsLabelledBlock raws tokens rest
labelled f b [] blocks tokens rest more all spells = spells
labelled f b (raw ∷ raws) [] tokens rest more all spells = absurd all
labelled f b (raw ∷ raws) (block ∷ blocks) tokens rest more all (between, here, behind) = (between, (all.0.label.further more, here), labelled f (b + 1) raws blocks between rest (omega arith) all.1 behind)

blocks_spell : (f : Function) (raws : List RawBlock) (blocks : List CoreBlock) (tokens rest : List Placed) → 0 < length blocks → AllZip (MeansBlock f) raws (enumerate_from 0 blocks) → Each SpellsBlock raws tokens rest → SpellsBlocks raws tokens rest
blocks_spell f raws [] tokens rest some all spells = absurd (omega arith)
blocks_spell f [] (block ∷ blocks) tokens rest some all spells = absurd all
blocks_spell f (raw ∷ raws) (block ∷ blocks) tokens rest some all (between, here, behind) = (between, here, labelled f 1 raws blocks between rest (omega arith) all.1 behind)

pub function_prints : (f : Function) → IsPrintable f → Prints Fresh Fresh true (Reads SpellsFunction WritesFunction f) (function_text f)
unfolding function_text
function_prints f fits =
    prints_map _ (λ tokens rest (m1, (m2, (m3, (m4, (m5, (m6, (m7, (m8, (m9, (m10, define, before), type), (line, name)), opened), (parameters, spell, mean)), closed), after), brace), (blocks, spells, means)), end). (
      record { line = line; name = f.name; before = f.before; width = f.width; parameters = parameters; after = f.after; blocks = blocks },
      (m10, define, (m9, before, (m8, type, (m7, name, ((m4, (m6, opened, (m5, spell, closed)), (m3, after, (m3, ([], refl), (m2, brace, (m1, blocks_spell f blocks f.blocks m2 m1 fits.formed.some_block means spells, end)))))))))),
      writes_function f (record { line = line; name = f.name; before = f.before; width = f.width; parameters = parameters; after = f.after; blocks = blocks }) refl refl refl refl mean means,
    ))
    (prints_next
    (prints_next (header_prints f fits)
    (prints_lines SpellsBlock (MeansBlock f) Body (block_text f) (enumerate_from 0 f.blocks) (λ i p at. block_prints f fits p.0 p.1 (numbered_here f.blocks i p at))))
    (ends_line 0 (codes "\n") feed refl body_ends))
