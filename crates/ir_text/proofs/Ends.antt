-- Terminators: their printed text is read as the terminator.
use Rattle.ir_text.proofs.Common.{◌≡◌, ℕ, suc, true, false, List, [], ◌∷◌, Some, codes, refl, sym, ap, subst, ◌∙◌, slice_get, option_map, slice_get-map, list_all, AllZip, AllByRecursion, All-from_recursion, begins_name, begins_word, is_blank, is_letter, is_name_byte, is_space, is_word, Terminator, IsBlock, targets_of, Read, read, reads_at_end, RawCase, RawTerminator, Return, Unreachable, Jump, Branch, Switch, SpellsCase, SpellsTerminator, Part, CaseMeans, EndMeans, IsWidth, NumberFits, case_text, end_text, Identifies, EndTypesFit}
use Rattle.ops.specs.Number.{Number}
use Rattle.ir_core.specs.declared.function.Function.{Function}
use Rattle.ir_core.specs.declared.function.Block.{Block as CoreBlock}
use Rattle.ir_core.specs.declared.terminator.Terminator.TheVariants as ends
use Rattle.ir_text.proofs.Placing.{space_stops}
use Rattle.ir_text.proofs.Prints.{Body, Prints, Reads, prints_map, prints_weak, prints_then, prints_next, prints_lines, behind_space, opens_with}
use Rattle.ir_text.proofs.Tokens.{in_body, word_in_body, open_in_body, close_in_body, blank, indent, spaced, mark_line_ends, line_ends, comma_space}
use Rattle.ir_text.proofs.Calling.{IsPrintable}
use Rattle.ir_text.proofs.Operands.{type_prints, target_prints, number_prints}
use Rattle.ir_text.proofs.Insts.{ReadFits, read_typed, opens_comma, word_spaced}

-- ---- cases

wide_indent : list_all is_space (codes "    ") ≡ true
unfolding is_space is_blank
wide_indent = refl

-- this is canonically written for a case of a switch on this width
abbrev MeansCase : Function → ℕ → RawCase → Number × ℕ → Type 0
MeansCase f width raw c = CaseMeans (Identifies f) raw c × (raw.width ≡ width)

case_prints : (f : Function) → IsPrintable f → (width : ℕ) (c : Number × ℕ) (block : CoreBlock) → IsWidth width → c.0.width ≡ width → NumberFits c.0 → IsBlock f c.1 block
    → Prints Body Body true (Reads SpellsCase (MeansCase f width) c) (case_text f c)
unfolding case_text
case_prints f fits width c block ok same number at =
    let wide : IsWidth c.0.width = subst IsWidth (sym same) ok in
    prints_map _ (λ tokens rest (m1, (m2, (m3, type, (a, spells, (literal, case_value))), comma), (w, spell, is)).
    (record { width = c.0.width; value = a; target = w }, (case_value, (m3, type, (m2, spells, (m1, comma, spell)))), ((literal, is), same)))
    (line_ends tt
    (prints_next
    (prints_then
    (prints_next (spaced tt (behind_space (codes "    ") wide_indent tt (type_prints in_body c.0.width wide))) (number_prints c.0 wide number))
    comma_space opens_comma)
    (target_prints f fits c.1 block at)))

-- what is written for the cases means them, at the width
cases_mean : (f : Function) (width : ℕ) (raws : List RawCase) (cases : List (Number × ℕ)) → AllZip (MeansCase f width) raws cases → AllZip (CaseMeans (Identifies f)) raws cases × AllByRecursion (λ c. c.width ≡ width) raws
cases_mean f width [] [] all = (tt, tt)
cases_mean f width [] (c ∷ cases) all = absurd all
cases_mean f width (raw ∷ raws) [] all = absurd all
cases_mean f width (raw ∷ raws) (c ∷ cases) ((means, same), all) = let (mean, widths) = cases_mean f width raws cases all in ((means, mean), (same, widths))

-- ---- terminators

-- a terminator with the line of its first word
abbrev pub OnLine : Type 0
OnLine = ℕ × RawTerminator

abbrev pub SpellsEnd : OnLine → Part
SpellsEnd end = SpellsTerminator end.0 end.1

abbrev pub MeansEnd : Function → OnLine → Terminator → Type 0
MeansEnd f raw end = EndMeans (Identifies f) raw.1 end × EndTypesFit f.width raw.1

-- the values of a switch's cases are numbers of its width
abbrev pub CasesPrint : Terminator → Type 0
CasesPrint (ends.Switch a width other cases) = (i : ℕ) (c : Number × ℕ) → slice_get cases i ≡ Some c → (c.0.width ≡ width) × NumberFits c.0
CasesPrint end = Unit {0}

pub end_prints : (f : Function) → IsPrintable f → (b k : ℕ) (end : Terminator) → ((i : ℕ) (r : Read) → slice_get (reads_at_end f b k end) i ≡ Some r → ReadFits f r)
    → ((i c : ℕ) → slice_get (targets_of end) i ≡ Some c → (block : CoreBlock) × IsBlock f c block) → CasesPrint end
    → Prints Body Body false (Reads SpellsEnd (MeansEnd f) end) (end_text f end)
unfolding end_text is_word begins_word begins_name is_letter is_name_byte
end_prints f fits b k (ends.Return a) reads blocks cases =
    prints_map _ (λ tokens rest (m1, (line, word), (m2, type, (x, spells, means))). ((line, Return f.width x), (m1, word, (m2, type, spells)), (means, refl)))
    (prints_next (word_spaced (codes "ret") refl) (read_typed f fits (read b k f.width a) (reads 0 (read b k f.width a) refl)))
end_prints f fits b k (ends.Jump to) reads blocks cases =
    let (block, at) = blocks 0 to refl in
    prints_map _ (λ tokens rest (m1, (line, word), (w, spells, is)). ((line, Jump w), (m1, word, spells), (is, tt)))
    (prints_next (word_spaced (codes "br") refl) (target_prints f fits to block at))
end_prints f fits b k (ends.Branch c to other) reads blocks cases =
    let (block, at) = blocks 0 to refl in
    let (other_block, other_at) = blocks 1 other refl in
    prints_map _ (λ tokens rest (m1, (m2, (m3, (m4, (m5, (line, word), (m6, type, (x, spells, means))), comma), (w, spell, is)), behind), (v, spell_other, other_is)).
    ((line, Branch 1 x w v), (m5, word, (m6, type, (m4, spells, (m3, comma, (m2, spell, (m1, behind, spell_other)))))), ((means, is, other_is), refl)))
    (prints_next
    (prints_then
    (prints_next
    (prints_then (prints_next (word_spaced (codes "br") refl) (read_typed f fits (read b k 1 c) (reads 0 (read b k 1 c) refl))) comma_space opens_comma)
    (target_prints f fits to block at))
    comma_space opens_comma)
    (target_prints f fits other other_block other_at))
end_prints f fits b k (ends.Switch a width other entries) reads blocks cases =
    let fit = reads 0 (read b k width a) refl in
    let (block, at) = blocks 0 other refl in
    prints_map _ (λ tokens rest (m1, (m2, (m3, (m4, (m5, (m6, (line, word), (m7, type, (x, spells, means))), comma), (w, spell, is)), opened), (raws, spell_cases, mean_cases)), closed).
    let (mean, widths) = cases_mean f width raws entries mean_cases in (
      (line, Switch width x w raws),
      (m6, word, (m7, type, (m5, spells, (m4, comma, (m3, spell, (m2, opened, (m1, spell_cases, closed))))))),
      ((refl, means, is, mean), All-from_recursion (λ (c : RawCase). c.width ≡ width) raws widths),
    ))
    (prints_weak
    (prints_next
    (prints_next
    (prints_then
    (prints_next
    (prints_then (prints_next (word_spaced (codes "switch") refl) (read_typed f fits (read b k width a) fit)) comma_space opens_comma)
    (target_prints f fits other block at))
    (behind_space (codes " ") blank tt (mark_line_ends tt open_in_body)) (opens_with 32 (codes "[\n") space_stops))
    (prints_lines SpellsCase (MeansCase f width) Body (case_text f) entries (λ i c here.
    let target = blocks (suc i) c.1 (slice_get-map (λ (e : Number × ℕ). e.1) entries i ∙ ap (option_map (λ (e : Number × ℕ). e.1)) here) in
    let form = cases i c here in
    case_prints f fits width c target.0 fit.form.width form.0 form.1 target.1)))
    (behind_space (codes "  ") indent tt close_in_body)))
end_prints f fits b k ends.Unreachable reads blocks cases =
    prints_map _ (λ tokens rest (line, word). ((line, Unreachable), word, (tt, tt))) (word_in_body (codes "unreachable") refl)
