-- The registers that the old function reads hold values that allow those of their substitutes.
use Rattle.substitution.proofs.Common.{◌≡◌, ℕ, List, [], ◌∷◌, length, None, Some, sym, ap, subst, ◌∙◌, slice_get, option_map, slice_get-map, same_Some, AllowsValue, AllowsEffect, Value, Effect, IsAssigned, ReadIsAssigned, IsBlock, IsPhi, IsInst, MeetsChecks, Read, read, end_of, reads_of, reads_at_end, Registers, AnyNumber, OperandGives, OpGives, PhiGives, Function, Block, Inst, Phi, Operand, HoldWidths, place_in, inst_widths, IsDefinite, substituted_entries, pulled_back, Rewrite, stands_for, AssignedAllow, ReadsAllow}
use Rattle.substitution.proofs.Allowing.{operand_allowing, operand_allows, instructions_monotone}
use Rattle.substitution.proofs.Arriving.{inst_reads, last_of}
use Rattle.substitution.proofs.Assigning.{end_reads, own_place, end_place, IsThere}
use Rattle.substitution.proofs.Standing.{definite}
use Rattle.substitution.proofs.Substituting.{phi_back}

module _ (f : Function) (w : Rewrite) (m : MeetsChecks f) where
  abbrev Pulled : Registers → Registers
  Pulled held = pulled_back (stands_for w) held

  -- the registers that are read at the place hold such values
  pub reads_allow : (b k : ℕ) (held held' : Registers) (reads : List Read) → AssignedAllow f w b k held held' → ((i : ℕ) (r : Read) → slice_get reads i ≡ Some r → IsThere b k r × ReadIsAssigned f r) → ReadsAllow held (Pulled held') reads
  reads_allow b k held held' reads h there i r register v' at is holds =
      let here : IsThere b k r × ReadIsAssigned f r = there i r at in
      let assigned : IsAssigned f register b k = subst (λ c. IsAssigned f register c k) here.0.0 (subst (λ j. IsAssigned f register r.block j) here.0.1 (here.1 register is)) in
      h register v' assigned holds

  pub inst_reads_there : (b k : ℕ) (inst : Inst) → IsInst f b k inst → ¬ IsPhi inst.op → (i : ℕ) (r : Read) → slice_get (reads_of f b k inst.width inst.op) i ≡ Some r → IsThere b k r × ReadIsAssigned f r
  inst_reads_there b k inst at other i r h = (own_place f b k inst.width inst.op other i r h, m.assigned b k i r (ap (λ l. slice_get l i) (inst_reads f b k inst at) ∙ h))

  pub end_reads_there : (b : ℕ) (block : Block) → IsBlock f b block → (i : ℕ) (r : Read) → slice_get (reads_at_end f b (length block.insts) block.end) i ≡ Some r → IsThere b (length block.insts) r × ReadIsAssigned f r
  end_reads_there b block at i r h = (end_place f b (length block.insts) block.end i r h, m.assigned b (length block.insts) i r (ap (λ l. slice_get l i) (end_reads f b block at) ∙ h))

  -- an instruction has an effect that allows what it gives where each register holds its substitute's value
  pub op_allowed : (b k : ℕ) (inst : Inst) (held held' : Registers) (e' : Effect) → IsInst f b k inst → ¬ IsPhi inst.op → AssignedAllow f w b k held held' → HoldWidths f (Pulled held')
      → OpGives AnyNumber (Pulled held') inst.width inst.op e' → (e : Effect) × OpGives AnyNumber held inst.width inst.op e × AllowsEffect e e'
  op_allowed b k inst held held' e' at other h widths gives =
      instructions_monotone f held (Pulled held') b k inst.width inst.op e' (inst_widths f m.formed b k inst at other) widths
      (reads_allow b k held held' (reads_of f b k inst.width inst.op) h (inst_reads_there b k inst at other)) gives

  -- so did the registers that are assigned at the end of the block before
  abbrev pub Edge : List ℕ → Registers → Registers → Type 0
  Edge [] held held' = Unit {0}
  Edge (c ∷ before) held held' = AssignedAllow f w c (end_of f c) held held'

  -- and a phi may take a value that allows that of the new function's phi
  pub phi_matched : IsDefinite (stands_for w) → (before : List ℕ) (b k : ℕ) (inst : Inst) (entries : List (Operand × ℕ)) (entered entered' : Registers) (v' : Value) → IsInst f b k inst → inst.op ≡ Phi entries → Edge before entered entered'
      → PhiGives AnyNumber entered' (last_of before) inst.width (substituted_entries (stands_for w) entries) v' → (v : Value) × PhiGives AnyNumber entered (last_of before) inst.width entries v × AllowsValue v v'
  phi_matched definite [] b k inst entries entered entered' v' at phi edge gives = let none : None ≡ Some gives.0 = gives.2 in absurd cc
  phi_matched definite (c ∷ before) b k inst entries entered entered' v' at phi edge gives =
      let g : PhiGives AnyNumber (Pulled entered') (Some c) inst.width entries v' = phi_back (stands_for w) entered' definite (Some c) inst.width entries v' gives in
      let block : c ≡ g.0 = same_Some c g.0 g.2 in
      let of_entry : Operand × ℕ → Read = λ e. read e.1 (end_of f e.1) inst.width e.0 in
      let at_entry : (i : ℕ) × (slice_get entries i ≡ Some (g.1, g.0)) = place_in entries (g.1, g.0) g.3 in
      let is : slice_get (reads_of f b k inst.width inst.op) at_entry.0 ≡ Some (of_entry (g.1, g.0)) =
      ap (λ op. slice_get (reads_of f b k inst.width op) at_entry.0) phi ∙ slice_get-map of_entry entries at_entry.0 ∙ ap (option_map of_entry) at_entry.1 in
      let assigned : ReadIsAssigned f (of_entry (g.1, g.0)) = m.assigned b k at_entry.0 (of_entry (g.1, g.0)) (ap (λ l. slice_get l at_entry.0) (inst_reads f b k inst at) ∙ is) in
      let v : (v : Value) × OperandGives AnyNumber entered inst.width g.1 v × AllowsValue v v' =
      operand_allows entered (Pulled entered') inst.width g.1 v'
      (operand_allowing entered (Pulled entered') g.1 (λ r e x holds. edge r x (subst (λ n. IsAssigned f r n (end_of f n)) (sym block) (assigned r e)) holds))
      g.4 in
      (v.0, (g.0, g.1, g.2, g.3, v.1), v.2)
