-- Blocks: their printed text is read as the block.
use Rattle.ir_text.proofs.Common.{◌≡◌, ℕ, suc, zero, ◌<◌, Bool, true, false, eqb, cond, [], ◌++◌, length, Option, None, Some, codes, refl, sym, ap, subst, ◌∙◌, append_assoc, arith, rules, tests, eq-eqb, slice_get, IsSome, enumerate_from, AllZip, All-from_recursion, Inst, Terminator, IsBlock, targets_of, CasesFit, IsInst, Name, names_of, block_place, Read, reads_of, reads_at, reads_by, reads_in, reads_at_end, IsRead, RawBlock, RawIdentifier, RawInst, SpellsInst, Maybe, SpellsLabel, SpellsBlock, InstMeans, EndMeans, BlockIsOf, given, contained_at, named_from, some_same, CasesHaveForms, NumberFits, block_identifier, identifier_text, label_text, head_text, first_head_text, inst_text, end_text, block_text, Identifies, BlockTypesFit, EndTypesFit, TypesFit}
use Rattle.ops.specs.Number.{Number}
use Rattle.ir_core.specs.declared.function.Function.{Function}
use Rattle.ir_core.specs.declared.function.Block.{Block as CoreBlock}
use Rattle.ir_core.specs.declared.terminator.Terminator.TheVariants as ends
use Rattle.ir_resolve.specs.Written.{Block}
use Rattle.ir_text.proofs.Prints.{Body, Prints, Reads, prints_as, prints_map, prints_nothing, prints_next, prints_lines, behind_space, before_space}
use Rattle.ir_text.proofs.Tokens.{label_in_body, feed, indent, line_ends}
use Rattle.ir_text.proofs.Calling.{IsPrintable, IsCalled, is_called, block_named}
use Rattle.ir_text.proofs.Operands.{Calls}
use Rattle.ir_text.proofs.Insts.{ReadFits, op_prints, MeansInst, inst_prints}
use Rattle.ir_text.proofs.Ends.{SpellsEnd, MeansEnd, CasesPrint, end_prints}
use Rattle.ir_text.proofs.Numbered.{numbered_here, all_get, get_within, get_past, zip_plain, zip_each}

-- ---- labels

label_prints : (f : Function) → IsPrintable f → (b : ℕ) (name : Name) → IsCalled (block_identifier f b) name → Prints Body Body true (Reads SpellsLabel (Calls f name) (Block b)) (label_text (block_identifier f b))
unfolding label_text
label_prints f fits b name c =
    let text = identifier_text (block_identifier f b) in
    prints_as (sym (append_assoc text (codes ":") (codes "\n")))
    (prints_map (Reads SpellsLabel (Calls f name) (Block b)) (λ tokens rest (line, is). (record { line = line; identifier = c.written }, (text, c.reads, is), (c.is_written, c.name_is)))
    (line_ends tt (label_in_body text c.form)))

-- the label is the canonical one of block b, which has this name
pub record MeansLabel (f : Function) (b : ℕ) (label : Option RawIdentifier) (name : Name) : Type 0 where
  pub name_is : name ≡ given label
  pub identifies : (w : RawIdentifier) → label ≡ Some w → Identifies f w.identifier (Block b)
  pub first : b ≡ 0 → IsSome label → IsSome (given label)
  pub further : 0 < b → IsSome label

-- a label that is written
some_label : (f : Function) (b : ℕ) (name : Name) (w : RawIdentifier) → Calls f name w (Block b) → (b ≡ 0 → IsSome name) → MeansLabel f b (Some w) name
some_label f b name w calls first = record {
  name_is = calls.1;
  identifies = λ v is. subst (λ (u : RawIdentifier). Identifies f u.identifier (Block b)) (some_same is) calls.0;
  first = λ zero some. subst IsSome calls.1 (first zero);
  further = λ more. refl;
}

no_label : (f : Function) → MeansLabel f 0 None None
no_label f = record { name_is = refl; identifies = λ w is. absurd cc; first = λ zero some. some; further = λ more. absurd (omega arith) }

first_label_prints : (f : Function) → IsPrintable f → (name : Name) → slice_get (names_of f) (block_place f 0) ≡ Some name → Prints Body Body true (Reads (Maybe SpellsLabel) (MeansLabel f 0) name) (first_head_text name)
unfolding first_head_text
first_label_prints f fits None at = prints_map (Reads (Maybe SpellsLabel) (MeansLabel f 0) None) (λ tokens rest same. (None, same, no_label f)) (prints_nothing Body true)
first_label_prints f fits (Some text) at =
    prints_as (ap label_text (sym (named_from 0 (names_of f) (block_place f 0) text at)))
    (prints_map (Reads (Maybe SpellsLabel) (MeansLabel f 0) (Some text)) (λ tokens rest (w, spells, calls). (Some w, spells, some_label f 0 (Some text) w calls (λ zero. refl)))
    (label_prints f fits 0 (Some text) (is_called f fits (block_place f 0) (Some text) at)))

first_head : (f : Function) (name : Name) → head_text f 0 name ≡ first_head_text name
unfolding head_text
first_head f name = refl

further_head : (f : Function) (b : ℕ) (name : Name) → head_text f (suc b) name ≡ codes "\n" ++ label_text (block_identifier f (suc b))
unfolding head_text
further_head f b name = let later : eqb (suc b) 0 ≡ false = search (rules, tests) in rw later refl

head_prints : (f : Function) → IsPrintable f → (b : ℕ) (name : Name) → slice_get (names_of f) (block_place f b) ≡ Some name → Prints Body Body true (Reads (Maybe SpellsLabel) (MeansLabel f b) name) (head_text f b name)
head_prints f fits zero name at = prints_as (first_head f name) (first_label_prints f fits name at)
head_prints f fits (suc b) name at =
    prints_as (further_head f b name)
    (behind_space (codes "\n") feed tt
    (prints_map (Reads (Maybe SpellsLabel) (MeansLabel f (suc b)) name) (λ tokens rest (w, spells, calls). (Some w, spells, some_label f (suc b) name w calls (λ zero. absurd (omega arith))))
    (label_prints f fits (suc b) name (is_called f fits (block_place f (suc b)) name at))))

-- ---- the operands of a block

-- each operand that is read has its width and form
fits_read : (f : Function) → IsPrintable f → (b k i : ℕ) (r : Read) → IsRead f b k i r → ReadFits f r
fits_read f fits b k i r is = record { has = fits.formed.operands b k i r is; form = fits.forms.reads b k i r is }

reads_here : (f : Function) (b k : ℕ) (block : CoreBlock) (inst : Inst) → IsBlock f b block → slice_get block.insts k ≡ Some inst → reads_at f b k ≡ reads_of f b k inst.width inst.op
reads_here f b k block inst at here = ap (λ (o : Option CoreBlock). reads_in f b k o) at ∙ ap (λ (o : Option Inst). reads_by f b k block o) here

reads_end : (f : Function) (b : ℕ) (block : CoreBlock) → IsBlock f b block → reads_at f b (length block.insts) ≡ reads_at_end f b (length block.insts) block.end
reads_end f b block at =
    let n = length block.insts in
    let same : eqb n n ≡ true = eq-eqb n n refl in
    ap (λ (o : Option CoreBlock). reads_in f b n o) at ∙ ap (λ (o : Option Inst). reads_by f b n block o) (get_past block.insts) ∙ ap (λ (t : Bool). cond t (reads_at_end f b n block.end) []) same

-- ---- instructions and terminators of a block

inst_of : (f : Function) → IsPrintable f → (b k : ℕ) (block : CoreBlock) (inst : Inst) → IsBlock f b block → slice_get block.insts k ≡ Some inst → Prints Body Body true (Reads SpellsInst (MeansInst f b) (k, inst)) (inst_text f b (k, inst))
inst_of f fits b k block inst at here =
    let is : IsInst f b k inst = record { block = block; is_block = at; is_inst = here } in
    inst_prints f fits b k block inst at here
    (op_prints f fits b k inst.width inst.op (fits.forms.insts b k inst is)
    (λ i r read. fits_read f fits b k i r (rw (reads_here f b k block inst at here) read))
    (fits.formed.insts b k inst is)
    (λ entries phi.
    let e = fits.formed.phis b k inst entries is phi in
    (e.some, λ i entry there. let names = (e.from entry.1).0 (entry.0, contained_at entries i entry there) in (names.0, names.1))))

cases_print : (end : Terminator) → CasesFit end → CasesHaveForms end → CasesPrint end
cases_print (ends.Switch a width other cases) fit forms = λ i c at. (all_get (λ (e : Number × ℕ). e.0.width ≡ width) cases i c fit.1 at, all_get (λ (e : Number × ℕ). NumberFits e.0) cases i c forms at)
cases_print (ends.Return a) fit forms = tt
cases_print (ends.Jump to) fit forms = tt
cases_print (ends.Branch c to other) fit forms = tt
cases_print ends.Unreachable fit forms = tt

end_of_block : (f : Function) → IsPrintable f → (b : ℕ) (block : CoreBlock) → IsBlock f b block → Prints Body Body false (Reads SpellsEnd (MeansEnd f) block.end) (end_text f block.end)
end_of_block f fits b block at =
    end_prints f fits b (length block.insts) block.end
    (λ i r read. fits_read f fits b (length block.insts) i r (rw (reads_end f b block at) read))
    (λ i c named. get_within f.blocks c (fits.formed.blocks b c (block, at, contained_at (targets_of block.end) i c named)))
    (cases_print block.end (fits.formed.cases b block at) (fits.forms.cases b block at))

-- ---- blocks

-- this is canonically written for block b.0
pub record MeansBlock (f : Function) (raw : RawBlock) (b : ℕ × CoreBlock) : Type 0 where
  pub label : MeansLabel f b.0 raw.label b.1.name
  pub insts : AllZip (MeansInst f b.0) raw.insts (enumerate_from 0 b.1.insts)
  pub end : EndMeans (Identifies f) raw.end b.1.end
  pub end_types : EndTypesFit f.width raw.end

pub block_prints : (f : Function) → IsPrintable f → (b : ℕ) (block : CoreBlock) → IsBlock f b block → Prints Body Body true (Reads SpellsBlock (MeansBlock f) (b, block)) (block_text f (b, block))
unfolding block_text
block_prints f fits b block at =
    prints_map _ (λ tokens rest (m1, (m2, (label, spells_label, means_label), (insts, spells_insts, means_insts)), (end, spells_end, means_end)). (
      record { label = label; insts = insts; end = end.1; end_line = end.0 },
      (m2, spells_label, (m1, spells_insts, (rest, spells_end, ([], refl)))),
      record { label = means_label; insts = means_insts; end = means_end.0; end_types = means_end.1 },
    ))
    (line_ends tt
    (prints_next
    (before_space (codes "  ") indent (λ rest. tt) tt
    (prints_next (head_prints f fits b block.name (block_named f b block at))
    (prints_lines SpellsInst (MeansInst f b) Body (inst_text f b) (enumerate_from 0 block.insts) (λ i p here. inst_of f fits b p.0 block p.1 at (numbered_here block.insts i p here)))))
    (end_of_block f fits b block at)))

-- what is written so means the block, and its types agree
pub block_is_of : (f : Function) (raw : RawBlock) (b : ℕ × CoreBlock) → MeansBlock f raw b → BlockIsOf (Identifies f) raw b.1
block_is_of f raw b m = (m.label.name_is, zip_plain (MeansInst f b.0) (InstMeans (Identifies f)) (λ i p means. means.0) 0 raw.insts b.1.insts m.insts, m.end)

pub block_types : (f : Function) (raw : RawBlock) (b : ℕ × CoreBlock) → MeansBlock f raw b → BlockTypesFit f.width raw
block_types f raw b m = (All-from_recursion (λ (i : RawInst). TypesFit i.op) raw.insts (zip_each (MeansInst f b.0) (λ i. TypesFit i.op) (λ i p means. means.2) raw.insts (enumerate_from 0 b.1.insts) m.insts), m.end_types)
