-- A text spells one module or has one fault, and within the limit never does both.
use Rattle.ir_reader.proofs.Common.{◌≡◌, ◌⊎◌, inl, inr, ℕ, suc, ◌<◌, ◌≤◌, List, [], ◌∷◌, length, take, Some, refl, sym, ap, subst, ◌∙◌, arith, slice_get, slice_get_within, Module, Entry, Function, Register, IsFirstUnassigned, IsBefore, ReadsAreAssigned, RawModule, RawEntry, RawFunction, TextsHaveOneReadingOrFault, most_bytes, FunctionsHaveOneMeaningOrFault, IsFirstLine, Typed, Fault, IrFaultKind, Names, written_at, BadPhiAt, EntryPredAt, IsUnassignedFault, ResolvesTo, NoLineHas, IsFunctionOf, IsFaultOfFunction, of_names, bad_phi, entry_pred, unassigned, functions_of, IsEntryOf, AreEntriesOf, IsFaultOfEntry, IsFaultOfEntries, IsModuleText, IsFault, of_text, of_entries, TextsHaveOneModuleOrFault}
use Rattle.ir_core.specs.declared.module.Entry.TheVariants as entries
use Rattle.ir_tokens.specs.declared.raw.RawEntry.TheVariants as raw_entries
use Rattle.ir_tokens.specs.declared.raw.RawValue.TheVariants as values
use Rattle.ir_tokens.specs.declared.fault.IrFaultKind.TheVariants as kinds
use Rattle.ir_reader.proofs.Formed.{PhisFit, formed_fits}
use Rattle.ir_reader.proofs.Places.{order, same_at, there}
use Rattle.ir_reader.proofs.Existence.{module_or_fault}

-- ---- faults of a function that is meant

no_bad_phi : (raw : RawFunction) (f : Function) → PhisFit f → NoLineHas (BadPhiAt raw f)
no_bad_phi raw f fit line (b, k, ((inst, is, bad), on)) = bad (fit b k inst is)

no_entry_pred : (raw : RawFunction) (f : Function) → ((b : ℕ) → ¬ Names f b 0) → NoLineHas (EntryPredAt raw f)
no_entry_pred raw f free line (b, (names, on)) = free b names

one_line : (P : ℕ → Type 0) (l m : ℕ) → IsFirstLine P l → IsFirstLine P m → l ≡ m
one_line P l m (p, least) (q, least') = let le : l ≤ m = least m q in let ge : m ≤ l = least' l p in omega arith

not_before : (f : Function) (r s : Register) (b k i c l j : ℕ) → IsFirstUnassigned f r b k i → IsFirstUnassigned f s c l j → ¬ IsBefore b k i c l j
not_before f r s b k i c l j first second before = first.unassigned (second.first b k i first.read first.is_read before r first.reads)

-- two operands are in order by block, place and index
placed : (b k i c l j : ℕ) → IsBefore b k i c l j ⊎ (((b ≡ c) × (k ≡ l) × (i ≡ j)) ⊎ IsBefore c l j b k i)
placed b k i c l j = elim (order b c) [
  | inl lt ↦ inl (inl lt)
  | inr (inr gt) ↦ inr (inr (inl gt))
  | inr (inl e) ↦ elim (order k l) [
    | inl lt ↦ inl (inr (e, inl lt))
    | inr (inr gt) ↦ inr (inr (inr (sym e, inl gt)))
    | inr (inl e') ↦ elim (order i j) [
      | inl lt ↦ inl (inr (e, inr (e', lt)))
      | inr (inr gt) ↦ inr (inr (inr (sym e, inr (sym e', gt))))
      | inr (inl e'') ↦ inr (inl (e, e', e''))
    ]
  ]
]

one_unassigned : (raw : RawFunction) (f : Function) (a b : Fault IrFaultKind) → IsUnassignedFault raw f a → IsUnassignedFault raw f b → a ≡ b
one_unassigned raw f a b p q = elim (placed p.b p.k p.i q.b q.k q.i) [
  | inl before ↦ absurd (not_before f p.register q.register p.b p.k p.i q.b q.k q.i p.first q.first before)
  | inr (inr behind) ↦ absurd (not_before f q.register p.register q.b q.k q.i p.b p.k p.i q.first p.first behind)
  | inr (inl (e, e', e'')) ↦
      let here = rw (e, e', e'') at p.is_written in
      let same : p.operand ≡ q.operand = same_at (written_at raw q.b q.k) q.i p.operand q.operand here q.is_written in
      let value : values.Register p.name ≡ values.Register q.name = sym p.is_named ∙ ap (λ (t : Typed). t.operand.value) same ∙ q.is_named in
      let name : p.name ≡ q.name = cc in
      p.is_fault ∙ rw (same, name, e) refl ∙ sym q.is_fault
]

-- ---- functions

abbrev phi_fault : ℕ → Fault IrFaultKind
phi_fault line = record { line = line; kind = kinds.BadPhi }

abbrev entry_fault : ℕ → Fault IrFaultKind
entry_fault line = record { line = line; kind = kinds.EntryPred }

module _ (law : FunctionsHaveOneMeaningOrFault) (earlier : List RawFunction) (raw : RawFunction) where
  one_resolved : (f g : Function) → ResolvesTo earlier raw f → ResolvesTo earlier raw g → f ≡ g
  one_resolved f g p q = law.one_meaning earlier raw f g p.0 p.1 q.1

  -- a statement of the one function that is meant is one of the other, since they are the same
  moved : {line : ℕ} (f g : Function) (At : Function → ℕ → Type 0) → ResolvesTo earlier raw f → ResolvesTo earlier raw g → IsFirstLine (At f) line → IsFirstLine (At g) line
  moved {line} f g At p q h = subst (λ k. IsFirstLine (At k) line) (one_resolved f g p q) h

  first_phi : {line : ℕ} (f g : Function) → ResolvesTo earlier raw f → ResolvesTo earlier raw g → IsFirstLine (BadPhiAt raw f) line → ¬ NoLineHas (BadPhiAt raw g)
  first_phi {line} f g p q h none = none line (moved f g (BadPhiAt raw) p q h).0

  first_entry : {line : ℕ} (f g : Function) → ResolvesTo earlier raw f → ResolvesTo earlier raw g → IsFirstLine (EntryPredAt raw f) line → ¬ NoLineHas (EntryPredAt raw g)
  first_entry {line} f g p q h none = none line (moved f g (EntryPredAt raw) p q h).0

  one_first_fault : (a b : Fault IrFaultKind) → IsFaultOfFunction earlier raw a → IsFaultOfFunction earlier raw b → a ≡ b
  one_first_fault a b (of_names {fault = m} p) (of_names {fault = n} q) = law.one_fault earlier raw m n p q
  one_first_fault a b (of_names {fault = m} p) (bad_phi g s q) = absurd (law.not_both earlier raw m s.0 p)
  one_first_fault a b (of_names {fault = m} p) (entry_pred g s fit q) = absurd (law.not_both earlier raw m s.0 p)
  one_first_fault a b (of_names {fault = m} p) (unassigned g s fit free q) = absurd (law.not_both earlier raw m s.0 p)
  one_first_fault a b (bad_phi f r p) (of_names {fault = n} q) = absurd (law.not_both earlier raw n r.0 q)
  one_first_fault a b (bad_phi {line = l} f r p) (bad_phi {line = m} g s q) = ap phi_fault (one_line (BadPhiAt raw g) l m (moved f g (BadPhiAt raw) r s p) q)
  one_first_fault a b (bad_phi f r p) (entry_pred g s fit q) = absurd (first_phi f g r s p fit)
  one_first_fault a b (bad_phi f r p) (unassigned g s fit free q) = absurd (first_phi f g r s p fit)
  one_first_fault a b (entry_pred f r fit p) (of_names {fault = n} q) = absurd (law.not_both earlier raw n r.0 q)
  one_first_fault a b (entry_pred f r fit p) (bad_phi g s q) = absurd (first_phi g f s r q fit)
  one_first_fault a b (entry_pred {line = l} f r fit p) (entry_pred {line = m} g s fit' q) = ap entry_fault (one_line (EntryPredAt raw g) l m (moved f g (EntryPredAt raw) r s p) q)
  one_first_fault a b (entry_pred f r fit p) (unassigned g s fit' free q) = absurd (first_entry f g r s p free)
  one_first_fault a b (unassigned f r fit free p) (of_names {fault = n} q) = absurd (law.not_both earlier raw n r.0 q)
  one_first_fault a b (unassigned f r fit free p) (bad_phi g s q) = absurd (first_phi g f s r q fit)
  one_first_fault a b (unassigned f r fit free p) (entry_pred g s fit' q) = absurd (first_entry g f s r q free)
  one_first_fault a b (unassigned f r fit free p) (unassigned g s fit' free' q) = one_unassigned raw g a b (subst (λ h. IsUnassignedFault raw h a) (one_resolved f g r s) p) q

  not_fault : (f : Function) (fault : Fault IrFaultKind) → IsFunctionOf earlier raw f → ¬ IsFaultOfFunction earlier raw fault
  not_fault f fault p (of_names {fault = n} q) = law.not_both earlier raw n p.resolved.0 q
  not_fault f fault p (bad_phi g s q) = first_phi g f s p.resolved q (no_bad_phi raw f (formed_fits f p.checks.formed))
  not_fault f fault p (entry_pred g s fit q) = first_entry g f s p.resolved q (no_entry_pred raw f p.checks.formed.entry)
  not_fault f fault p (unassigned g s fit free q) =
      let assigned : ReadsAreAssigned g = subst ReadsAreAssigned (one_resolved f g p.resolved s) p.checks.assigned in
      q.first.unassigned (assigned q.b q.k q.i q.first.read q.first.is_read q.register q.first.reads)

-- ---- entries

same_lists : {X : Type 0} (xs ys : List X) → length xs ≡ length ys → ((k : ℕ) (x y : X) → slice_get xs k ≡ Some x → slice_get ys k ≡ Some y → x ≡ y) → xs ≡ ys
same_lists [] [] long same = refl
same_lists [] (y ∷ ys) long same = absurd (omega arith)
same_lists (x ∷ xs) [] long same = absurd (omega arith)
same_lists (x ∷ xs) (y ∷ ys) long same =
    let first : x ≡ y = same 0 x y refl refl in
    let rest : xs ≡ ys = same_lists xs ys (omega arith) (λ k v w at at'. same (suc k) v w at at') in
    cc

module _ (law : FunctionsHaveOneMeaningOrFault) where
  one_entry : (earlier : List RawFunction) (raw : RawEntry) (a b : Entry) → IsEntryOf earlier raw a → IsEntryOf earlier raw b → a ≡ b
  one_entry earlier (raw_entries.Kept written) (entries.Kept s) (entries.Kept t) p q = ap (λ x. entries.Kept x) (p ∙ sym q)
  one_entry earlier (raw_entries.Function raw) (entries.Function f) (entries.Function g) p q = ap (λ x. entries.Function x) (one_resolved law earlier raw f g p.resolved q.resolved)
  one_entry earlier (raw_entries.Kept written) (entries.Kept s) (entries.Function g) p q = absurd q
  one_entry earlier (raw_entries.Kept written) (entries.Function f) b p q = absurd p
  one_entry earlier (raw_entries.Function raw) (entries.Kept s) b p q = absurd p
  one_entry earlier (raw_entries.Function raw) (entries.Function f) (entries.Kept t) p q = absurd q

  not_fault_of_entry : (earlier : List RawFunction) (raw : RawEntry) (entry : Entry) (fault : Fault IrFaultKind) → IsEntryOf earlier raw entry → ¬ IsFaultOfEntry earlier raw fault
  not_fault_of_entry earlier (raw_entries.Kept written) entry fault p q = q
  not_fault_of_entry earlier (raw_entries.Function raw) (entries.Function f) fault p q = not_fault law earlier raw f fault p q
  not_fault_of_entry earlier (raw_entries.Function raw) (entries.Kept t) fault p q = p

  one_fault_of_entry : (earlier : List RawFunction) (raw : RawEntry) (a b : Fault IrFaultKind) → IsFaultOfEntry earlier raw a → IsFaultOfEntry earlier raw b → a ≡ b
  one_fault_of_entry earlier (raw_entries.Kept written) a b p q = absurd p
  one_fault_of_entry earlier (raw_entries.Function raw) a b p q = one_first_fault law earlier raw a b p q

  module _ (written : List RawEntry) where
    one_list : (xs ys : List Entry) → AreEntriesOf written xs → AreEntriesOf written ys → xs ≡ ys
    one_list xs ys p q = same_lists xs ys (p.count ∙ sym q.count) (λ k x y at at'.
        let within : k < length xs = slice_get_within xs k x at in
        let (raw, here) = there written k (omega (arith, p.count)) in
        one_entry (functions_of (take k written)) raw x y (p.each k raw x here at) (q.each k raw y here at'))

    not_before_entry : (a b : Fault IrFaultKind) (p : IsFaultOfEntries written a) (q : IsFaultOfEntries written b) → ¬ (p.k < q.k)
    not_before_entry a b p q lt = let (entry, is) = q.before p.k p.raw lt p.is_raw in not_fault_of_entry (functions_of (take p.k written)) p.raw entry a is p.fault_there

    one_fault_of_entries : (a b : Fault IrFaultKind) → IsFaultOfEntries written a → IsFaultOfEntries written b → a ≡ b
    one_fault_of_entries a b p q = elim (order p.k q.k) [
      | inl lt ↦ absurd (not_before_entry a b p q lt)
      | inr (inr gt) ↦ absurd (not_before_entry b a q p gt)
      | inr (inl e) ↦
          let here = rw e at p.is_raw in
          let fault = rw (e, same_at written q.k p.raw q.raw here q.is_raw) at p.fault_there in
          one_fault_of_entry (functions_of (take q.k written)) q.raw a b fault q.fault_there
    ]

    not_both_of_entries : (xs : List Entry) (fault : Fault IrFaultKind) → AreEntriesOf written xs → ¬ IsFaultOfEntries written fault
    not_both_of_entries xs fault p q =
        let within : q.k < length written = slice_get_within written q.k q.raw q.is_raw in
        let (entry, at) = there xs q.k (omega (arith, p.count)) in
        not_fault_of_entry (functions_of (take q.k written)) q.raw entry fault (p.each q.k q.raw entry q.is_raw at) q.fault_there

-- ---- texts

abbrev module_of : List Entry → Module
module_of entries = record { entries = entries }

module _ (reading : TextsHaveOneReadingOrFault) (law : FunctionsHaveOneMeaningOrFault) where
  one_module : (text : List ℕ) (a b : Module) → IsModuleText text a → IsModuleText text b → a ≡ b
  one_module text a b p q =
      let entries_a = rw (reading.one_reading text p.raw q.raw p.is_raw q.is_raw) at p.entries in
      ap module_of (one_list law q.raw.entries a.entries b.entries entries_a q.entries)

  one_fault : (text : List ℕ) (a b : Fault IrFaultKind) → IsFault text a → IsFault text b → a ≡ b
  one_fault text a b (of_text {fault = m} p) (of_text {fault = n} q) = reading.one_fault text m n p q
  one_fault text a b (of_text {fault = m} p) (of_entries n within raw q) = absurd (reading.not_both text n m within raw p)
  one_fault text a b (of_entries m within raw p) (of_text {fault = n} q) = absurd (reading.not_both text m n within raw q)
  one_fault text a b (of_entries m within raw p) (of_entries n within' raw' q) =
      one_fault_of_entries law n.entries a b (subst (λ (w : RawModule). IsFaultOfEntries w.entries a) (reading.one_reading text m n raw raw') p) q

  not_both : (text : List ℕ) (m : Module) (fault : Fault IrFaultKind) → length text ≤ most_bytes → IsModuleText text m → IsFault text fault → ⊥
  not_both text m fault within p (of_text {fault = n} q) = reading.not_both text p.raw n within p.is_raw q
  not_both text m fault within p (of_entries n within' raw q) =
      not_both_of_entries law n.entries m.entries fault (subst (λ (w : RawModule). AreEntriesOf w.entries m.entries) (reading.one_reading text p.raw n p.is_raw raw) p.entries) q

  pub one_module_or_fault : TextsHaveOneModuleOrFault
  one_module_or_fault = record { some = module_or_fault reading law; one_module = one_module; one_fault = one_fault; not_both = not_both }
