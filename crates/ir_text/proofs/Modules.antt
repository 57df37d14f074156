-- Modules: their printed text is read as the module.
use Rattle.ir_text.proofs.Common.{◌≡◌, ℕ, suc, ◌+◌, true, List, [], ◌∷◌, ◌++◌, None, Some, refl, sym, subst, inl, slice_get, list_all, AllZip, is_blank, is_space, last_line, AtEntry, TokensFrom, AreTokens, Placed, End, Module, Entry, ModuleMeetsChecks, Each, SpellsEntry, IsKeptText, EntryHasForms, ModuleHasForms, placed_from, HasFewThings, PrintedTextsSpell, entry_text, between_text, entries_text, text_of, WritesEntry}
use Rattle.std.proofs.lemmas.List.{append-nil}
use Rattle.ir_core.specs.declared.module.Entry.TheVariants as entries
use Rattle.ir_tokens.specs.declared.raw.RawEntry.TheVariants as raw_entries
use Rattle.ir_text.proofs.Lexing.{lexemes_are_tokens}
use Rattle.ir_text.proofs.Placing.{first_line}
use Rattle.ir_text.proofs.Standing.{gap_is}
use Rattle.ir_text.proofs.Streams.{Streams, streams_as, streams_end}
use Rattle.ir_text.proofs.Prints.{Fresh, Prints, Reads, prints_map, prints_nothing, prints_next, before_space}
use Rattle.ir_text.proofs.Tokens.{kept_prints}
use Rattle.ir_text.proofs.Calling.{IsPrintable}
use Rattle.ir_text.proofs.Functions.{function_prints}
use Rattle.ir_text.proofs.Numbered.{all_get}

-- ---- entries

-- what an entry needs to be printed
abbrev pub IsPrintableEntry : Entry → Type 0
IsPrintableEntry (entries.Kept line) = IsKeptText line
IsPrintableEntry (entries.Function f) = IsPrintable f

entry_prints : (e : Entry) → IsPrintableEntry e → Prints Fresh Fresh true (Reads SpellsEntry WritesEntry e) (entry_text e)
unfolding entry_text
entry_prints (entries.Kept line) form = prints_map _ (λ tokens rest is. (raw_entries.Kept line, is, refl)) (kept_prints line form)
entry_prints (entries.Function f) fits = prints_map _ (λ tokens rest (raw, spells, writes). (raw_entries.Function raw, spells, writes)) (function_prints f fits)

-- what is printed between two entries is a gap
gap_between : (e d : Entry) → list_all is_space (between_text e d) ≡ true
unfolding between_text is_space is_blank
gap_between (entries.Kept line) (entries.Kept next) = refl
gap_between (entries.Kept line) (entries.Function f) = refl
gap_between (entries.Function f) (entries.Kept next) = refl
gap_between (entries.Function f) (entries.Function g) = refl

entries_print : (es : List Entry) → ((k : ℕ) (e : Entry) → slice_get es k ≡ Some e → IsPrintableEntry e) → Prints Fresh Fresh true (Reads (Each SpellsEntry) (AllZip WritesEntry) es) (entries_text es)
entries_print [] each = prints_map _ (λ tokens rest same. ([], same, tt)) (prints_nothing Fresh true)
entries_print (e ∷ []) each = prints_map _ (λ tokens rest (raw, spells, writes). (raw ∷ [], (rest, spells, refl), (writes, tt))) (entry_prints e (each 0 e refl))
entries_print (e ∷ d ∷ es) each =
    prints_map _ (λ tokens rest (between, (raw, spells, writes), (raws, spell, write)). (raw ∷ raws, (between, spells, spell), (writes, write)))
    (prints_next (before_space (between_text e d) (gap_between e d) (λ rest. tt) tt (entry_prints e (each 0 e refl))) (entries_print (d ∷ es) (λ k x at. each (suc k) x at)))

-- ---- modules

-- if these are the tokens from the start of a text on, they are the tokens of the text
has_tokens : (text : List ℕ) (tokens : List Placed) → Streams (last_line text) (AtEntry None) 1 text tokens → AreTokens text tokens
has_tokens text tokens s =
    let all = lexemes_are_tokens (AtEntry None) s.lexemes s.gap s.are (inl (gap_is s.gap s.spaces)) in
    let there = subst (λ (t : List ℕ). TokensFrom t (AtEntry None) 0 (placed_from 1 s.lexemes ++ (last_line t, End) ∷ [])) (sym s.text_is) all in
    subst (λ (ts : List Placed). TokensFrom text (AtEntry None) 0 ts) (sym s.tokens_are) there

entry_fits : (m : Module) → ModuleHasForms m → ModuleMeetsChecks m → HasFewThings m → (k : ℕ) (e : Entry) → slice_get m.entries k ≡ Some e → IsPrintableEntry e
entry_fits m forms checks few k (entries.Kept line) at = all_get EntryHasForms m.entries k (entries.Kept line) forms at
entry_fits m forms checks few k (entries.Function f) at = record {
  forms = all_get EntryHasForms m.entries k (entries.Function f) forms at;
  formed = (checks.functions k f at).formed;
  few = few k f at;
}

pub printed_texts_spell : PrintedTextsSpell
printed_texts_spell m forms checks few =
    let last = last_line (text_of m) in
    let l = (entries_print m.entries (entry_fits m forms checks few)).leads (AtEntry None) 1 (λ n. first_line (1 + n)) in
    let (tokens, streams, (raws, spells, writes)) = l.streams last [] ((last, End) ∷ []) tt (streams_end last l.next_place l.next_line) in (
      record { entries = raws },
      record { tokens = tokens; are_tokens = has_tokens (text_of m) tokens (streams_as (sym (append-nil (text_of m))) streams); spelled = ([], ((last, End) ∷ [], spells, (last, refl))) },
      writes,
    )
