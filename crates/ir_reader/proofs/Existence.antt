-- Each text spells a module or has a fault.
use Rattle.ir_reader.proofs.Common.{◌≡◌, ◌⊎◌, inl, inr, ℕ, zero, suc, ◌+◌, ◌<◌, ◌≤◌, List, [], ◌∷◌, ◌++◌, length, take, Option, None, Some, refl, ap, arith, slice_get, option_map, unwrap_or, cases_lt, slice_get_within, Module, Entry, Function, Inst, Register, ReadsAreAssigned, IsFirstUnassigned, Names, IsInst, RawModule, RawEntry, RawFunction, RawBlock, RawInst, Fault, IrFaultKind, fault, most_bytes, IsRaw, too_long, TextsHaveOneReadingOrFault, FunctionsHaveOneMeaningOrFault, FirstOf, first_moved, first_on, first_by_place, first_at, dec_not, IsWellWritten, OpFits, BadPhiHere, BadPhiAt, EntryPredHere, EntryPredAt, IsWellWrittenEntry, ResolvesTo, NoLineHas, IsFunctionOf, IsFaultOfFunction, of_names, bad_phi, entry_pred, unassigned, functions_of, IsEntryOf, IsFaultOfEntry, IsFaultOfEntries, IsModuleText, IsFault, of_text, of_entries}
use Rattle.ir_core.specs.declared.module.Entry.TheVariants as entries
use Rattle.ir_tokens.specs.declared.raw.RawEntry.TheVariants as raw_entries
use Rattle.ir_tokens.specs.declared.fault.IrFaultKind.TheVariants as kinds
use Rattle.ir_reader.proofs.Places.{there}
use Rattle.ir_reader.proofs.Meaning.{written_read}
use Rattle.ir_reader.proofs.CheckLemmas.{meets, all_well_written}
use Rattle.ir_reader.proofs.Checking.{phis_fit, entry_free}
use Rattle.ir_reader.proofs.ReadEntries.{AreFirstEntries, first_entries_none, first_entries_more, all_entries}
use Rattle.ir_reader.proofs.Avoiding.{dec_names}
use Rattle.ir_reader.proofs.Unassigned.{assigned_or_first}
use Rattle.ir_reader.proofs.Fitting.{dec_inst, dec_fits}

-- ---- a function that is meant

module _ (raw : RawFunction) (f : Function) where
  -- there is a first phi that doesn't fit, or none
  bad_phi_here : (b k : ℕ) → FirstOf (BadPhiHere raw f b k)
  bad_phi_here b k =
      let Bad : Type 0 = (inst : Inst) × IsInst f b k inst × ¬ OpFits f b k inst.op in
      first_moved (λ line. (block : RawBlock) × (slice_get raw.blocks b ≡ Some block) × ((inst : RawInst) × (slice_get block.insts k ≡ Some inst) × (Bad × (inst.result.line ≡ line)))) (BadPhiHere raw f b k)
      (λ line (block, at, (inst, inst_at, (bad, on))). (bad, (inst, (block, at, inst_at), on)))
      (λ line (bad, (inst, (block, at, inst_at), on)). (block, at, (inst, inst_at, (bad, on))))
      (first_at (λ (block : RawBlock) line. (inst : RawInst) × (slice_get block.insts k ≡ Some inst) × (Bad × (inst.result.line ≡ line))) raw.blocks b
      (λ block. first_at (λ (inst : RawInst) line. Bad × (inst.result.line ≡ line)) block.insts k
      (λ inst. first_on inst.result.line (dec_inst f b k (λ i. ¬ OpFits f b k i.op) (λ i. dec_not (dec_fits f b k i.op))))))

  abbrev insts_in : ℕ → ℕ
  insts_in b = unwrap_or (option_map (λ block. length block.insts) (slice_get raw.blocks b)) 0

  bad_phi_within : (b k line : ℕ) → BadPhiHere raw f b k line → (b < length raw.blocks) × (k < insts_in b)
  bad_phi_within b k line (bad, (inst, (block, at, inst_at), on)) =
      let within : k < length block.insts = slice_get_within block.insts k inst inst_at in
      let count : insts_in b ≡ length block.insts = ap (λ (o : Option RawBlock). unwrap_or (option_map (λ block. length block.insts) o) 0) at in
      (slice_get_within raw.blocks b block at, omega arith)

  first_bad_phi : FirstOf (BadPhiAt raw f)
  first_bad_phi =
      first_moved (λ line. (b : ℕ) × ((k : ℕ) × BadPhiHere raw f b k line)) (BadPhiAt raw f) (λ line (b, (k, bad)). (b, k, bad)) (λ line (b, k, bad). (b, (k, bad)))
      (first_by_place (λ b line. (k : ℕ) × BadPhiHere raw f b k line) (length raw.blocks)
      (λ b. first_by_place (BadPhiHere raw f b) (insts_in b) (bad_phi_here b) (λ k line bad. (bad_phi_within b k line bad).1))
      (λ b line (k, bad). (bad_phi_within b k line bad).0))

  -- there is a first terminator that names the first block, or none
  first_entry_pred : FirstOf (EntryPredAt raw f)
  first_entry_pred =
      first_by_place (EntryPredHere raw f) (length raw.blocks)
      (λ b. first_moved (λ line. (block : RawBlock) × (slice_get raw.blocks b ≡ Some block) × (Names f b 0 × (block.end_line ≡ line))) (EntryPredHere raw f b)
      (λ line (block, at, (names, on)). (names, (block, at, on))) (λ line (names, (block, at, on)). (block, at, (names, on)))
      (first_at (λ (block : RawBlock) line. Names f b 0 × (block.end_line ≡ line)) raw.blocks b (λ block. first_on block.end_line (dec_names f b 0))))
      (λ b line (names, (block, at, on)). slice_get_within raw.blocks b block at)

-- ---- a function as written, behind these functions

module _ (earlier : List RawFunction) (raw : RawFunction) where
  abbrev HasFunctionOrFault : Type 0
  HasFunctionOrFault = ((f : Function) × IsFunctionOf earlier raw f) ⊎ ((fault : Fault IrFaultKind) × IsFaultOfFunction earlier raw fault)

  module _ (well : IsWellWritten raw) (f : Function) (resolved : ResolvesTo earlier raw f) where
    reads_checked : NoLineHas (BadPhiAt raw f) → NoLineHas (EntryPredAt raw f) → ReadsAreAssigned f ⊎ ((register : Register) × (b : ℕ) × (k : ℕ) × (i : ℕ) × IsFirstUnassigned f register b k i) → HasFunctionOrFault
    reads_checked no_phi no_entry (inl assigned) = inl (f, record { resolved = resolved; checks = meets earlier raw f well resolved (phis_fit raw f resolved.1 no_phi) (entry_free raw f resolved.1 no_entry) assigned })
    reads_checked no_phi no_entry (inr (register, b, k, i, first)) =
        let r = written_read raw f resolved.1 register b k i first in
        let fault : Fault IrFaultKind = record { line = r.operand.operand.line; kind = kinds.Unassigned r.name b } in
        inr (
          fault,
          unassigned f resolved no_phi no_entry (record { register = register; b = b; k = k; i = i; first = first; operand = r.operand; is_written = r.at; name = r.name; is_named = r.named; is_fault = refl }),
        )

    checked : FirstOf (BadPhiAt raw f) → FirstOf (EntryPredAt raw f) → HasFunctionOrFault
    checked (Some line, first) entry = inr (record { line = line; kind = kinds.BadPhi }, bad_phi f resolved first)
    checked (None, none) (Some line, first) = inr (record { line = line; kind = kinds.EntryPred }, entry_pred f resolved none first)
    checked (None, none) (None, none_enters) = reads_checked none none_enters (assigned_or_first f)

  function_or_fault : IsWellWritten raw → FunctionsHaveOneMeaningOrFault → HasFunctionOrFault
  function_or_fault well law = elim (law.some earlier raw) [
    | inl (none, (f, means)) ↦ checked well f (none, means) (first_bad_phi raw f) (first_entry_pred raw f)
    | inr (fault, first) ↦ inr (fault, of_names first)
  ]

entry_or_fault : FunctionsHaveOneMeaningOrFault → (earlier : List RawFunction) (raw : RawEntry) → IsWellWrittenEntry raw → ((entry : Entry) × IsEntryOf earlier raw entry) ⊎ ((fault : Fault IrFaultKind) × IsFaultOfEntry earlier raw fault)
entry_or_fault law earlier (raw_entries.Kept text) well = inl (entries.Kept text, refl)
entry_or_fault law earlier (raw_entries.Function raw) well = elim (function_or_fault earlier raw well law) [ inl (f, is) ↦ inl (entries.Function f, is) | inr (fault, is) ↦ inr (fault, is) ]

-- ---- a text

module _ (law : FunctionsHaveOneMeaningOrFault) (text : List ℕ) (short : length text ≤ most_bytes) (m : RawModule) (is_raw : IsRaw text m) where
  abbrev HasModuleOrFault : Type 0
  HasModuleOrFault = ((m : Module) × IsModuleText text m) ⊎ ((fault : Fault IrFaultKind) × IsFault text fault)

  entries_from : (left place : ℕ) (read : List Entry) → AreFirstEntries m.entries place read → place + left ≡ length m.entries → HasModuleOrFault
  entries_from zero place read first end = inl (record { entries = read }, record { raw = m; is_raw = is_raw; entries = all_entries m.entries place read (omega arith) first })
  entries_from (suc left) place read first end =
      let (raw, at) = there m.entries place (omega arith) in
      elim (entry_or_fault law (functions_of (take place m.entries)) raw (all_well_written text m is_raw place raw at)) [
        | inl (entry, is) ↦ entries_from left (place + 1) (read ++ entry ∷ []) (first_entries_more m.entries place raw entry read (read ++ entry ∷ []) first at refl is) (omega arith)
        | inr (fault, is) ↦
            let of_these : IsFaultOfEntries m.entries fault = record {
              k = place;
              raw = raw;
              is_raw = at;
              before = λ j other lt other_at. let (entry, entry_at) = there read j (omega (arith, first.count)) in (entry, first.each j other entry other_at entry_at);
              fault_there = is;
            }
            in
            inr (fault, of_entries m short is_raw of_these)
      ]

pub module_or_fault : TextsHaveOneReadingOrFault → FunctionsHaveOneMeaningOrFault → (text : List ℕ) → ((m : Module) × IsModuleText text m) ⊎ ((fault : Fault IrFaultKind) × IsFault text fault)
module_or_fault reading law text = elim (cases_lt most_bytes (length text)) [
  | inl long ↦ inr (fault 1 kinds.TooLong, of_text (too_long long refl))
  | inr short ↦ elim (reading.some text) [
    | inl (m, is_raw) ↦ entries_from law text short m is_raw (length m.entries) 0 [] (first_entries_none m.entries) (omega arith)
    | inr (found, is) ↦ inr (found, of_text is)
  ]
]
