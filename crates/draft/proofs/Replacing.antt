-- Arenas in which the uses of a register are replaced by an operand, place by place.
use Rattle.draft.proofs.Common.{◌≡◌, inl, inr, ℕ, suc, eqb, true, List, [], ◌∷◌, Some, map, refl, sym, ap, subst, ◌∙◌, arith, Contains, slice_get, cases_Bool, cases_eq, cond-true, cond-false, eq-eqb, ne_eqb, slice_get-map, slice_get_within, Block, Function, Inst, Op, Operand, Register, Terminator, operands_of, operands_at_end, contained_at, mapped, substituted_block, substituted_end, substituted_inst, substituted_op, substituted_operand, end_changed, inst_changed, instead, replaced, replaced_at, same_register, with_block, operands_at, none, IsPlaceIn, Place, other_register, same_register_is, same_register_self, AreFew, operands_at_inst, operands_at_terminator}
use Rattle.ir_core.specs.declared.operand.Operand.TheVariants as operands
use Rattle.draft.proofs.Exchanging.{map_changed}
use Rattle.draft.proofs.Substituted.{end_agrees, end_itself, itself, op_itself, operand_itself, op_agrees, substituted_end_reads, substituted_reads}

map_same : {A : Type 0} (g : A → A) (xs : List A) → ((k : ℕ) (x : A) → slice_get xs k ≡ Some x → g x ≡ x) → map g xs ≡ xs
map_same g [] same = refl
map_same g (x ∷ xs) same = ap (λ y. y ∷ map g xs) (same 0 x refl) ∙ ap (λ l. x ∷ l) (map_same g xs (λ k y at. same (suc k) y at))

module _ (from : Register) (to : Operand) where
  -- the register itself, and any other
  pub instead_same : (r : Register) → r ≡ from → instead from to r ≡ to
  instead_same r same = cond-true (same_register r from) to (operands.Register r) (subst (λ (s : Register). same_register r s ≡ true) same (same_register_self r))

  pub instead_other : (r : Register) → ¬ (r ≡ from) → instead from to r ≡ operands.Register r
  instead_other r apart = cond-false (same_register r from) to (operands.Register r) (other_register r from apart)

  pub unread_stays : (a : Operand) → ¬ (a ≡ operands.Register from) → substituted_operand (instead from to) a ≡ a
  unread_stays (operands.Register r) other = instead_other r (λ e. other (ap (λ (s : Register). operands.Register s) e))
  unread_stays (operands.Number n) other = refl
  unread_stays operands.Undef other = refl
  unread_stays operands.Poison other = refl

  -- the operand itself isn't replaced
  put_stays : (a : Operand) → a ≡ to → substituted_operand (instead from to) a ≡ a
  put_stays (operands.Register r) is = elim (cases_Bool (same_register r from)) [
    | inl same ↦ instead_same r (same_register_is r from same) ∙ sym is
    | inr other ↦ cond-false (same_register r from) to (operands.Register r) other
  ]
  put_stays (operands.Number n) is = refl
  put_stays operands.Undef is = refl
  put_stays operands.Poison is = refl

  pub twice : (a : Operand) → substituted_operand (instead from to) (substituted_operand (instead from to) a) ≡ substituted_operand (instead from to) a
  twice (operands.Register r) = elim (cases_Bool (same_register r from)) [
    | inl same ↦ put_stays (instead from to r) (instead_same r (same_register_is r from same))
    | inr other ↦
        let is : instead from to r ≡ operands.Register r = cond-false (same_register r from) to (operands.Register r) other in
        ap (substituted_operand (instead from to)) is
  ]
  twice (operands.Number n) = refl
  twice operands.Undef = refl
  twice operands.Poison = refl

  -- ---- what doesn't read the register stays

  -- the replacement leaves each of these operands as it is
  abbrev pub Stay : List Operand → Type 0
  Stay reads = (a : Operand) → Contains reads a → substituted_operand (instead from to) a ≡ a

  op_stays : (op : Op) → Stay (operands_of op) → substituted_op (instead from to) op ≡ op
  op_stays op stay = op_agrees (instead from to) itself op (λ a there. stay a there ∙ sym (operand_itself a)) ∙ op_itself op

  pub inst_stays : (inst : Inst) → Stay (operands_of inst.op) → substituted_inst (instead from to) inst ≡ inst
  inst_stays inst stay = ap (λ (op : Op). let i : Inst = record { name = inst.name; width = inst.width; op = op } in i) (op_stays inst.op stay)

  end_stays : (end : Terminator) → Stay (operands_at_end end) → substituted_end (instead from to) end ≡ end
  end_stays end stay = end_agrees (instead from to) itself end (λ a there. stay a there ∙ sym (operand_itself a)) ∙ end_itself end

  pub all_stay : (f : Function) → AreFew f → ((q : Place) → IsPlaceIn f q → Stay (operands_at f q)) → replaced f from to ≡ f
  all_stay f few stay =
      let blocks_stay : (b : ℕ) (block : Block) → slice_get f.blocks b ≡ Some block → substituted_block (instead from to) block ≡ block =
      λ b block at.
      let less = few b block at in
      let insts_stay : map (substituted_inst (instead from to)) block.insts ≡ block.insts =
      map_same (substituted_inst (instead from to)) block.insts (λ n inst here.
      let p : Place = record { block = b; number = n } in
      let within = slice_get_within block.insts n inst here in
      let reads = operands_at_inst f p block inst at here (omega arith) in
      inst_stays inst (subst Stay reads (stay p (block, at, inl within)))) in
      let p : Place = record { block = b; number = none } in
      let end_is : substituted_end (instead from to) block.end ≡ block.end = end_stays block.end (subst Stay (operands_at_terminator f p block at refl) (stay p (block, at, inr refl))) in
      ap (λ (l : List Inst). let x : Block = record { name = block.name; insts = l; end = substituted_end (instead from to) block.end } in x) insts_stay
      ∙ ap (λ (t : Terminator). let x : Block = record { name = block.name; insts = block.insts; end = t } in x) end_is in
      ap (λ (l : List Block). let g : Function = record { name = f.name; before = f.before; width = f.width; parameters = f.parameters; after = f.after; blocks = l } in g)
      (map_same (substituted_block (instead from to)) f.blocks blocks_stay)

  -- ---- the uses at one place first

  pub stay_twice : (reads old : List Operand) → reads ≡ map (substituted_operand (instead from to)) old → Stay reads
  stay_twice reads old is a there =
      let at : (k : ℕ) × (slice_get reads k ≡ Some a) = contained_at reads a there in
      let found : (x : Operand) × (slice_get old at.0 ≡ Some x) × (substituted_operand (instead from to) x ≡ a) =
      mapped (substituted_operand (instead from to)) (slice_get old at.0) a (sym (slice_get-map (substituted_operand (instead from to)) old at.0) ∙ ap (λ (l : List Operand). slice_get l at.0) (sym is) ∙ at.1) in
      ap (substituted_operand (instead from to)) (sym found.2) ∙ twice found.0 ∙ found.2

  pub inst_twice : (inst : Inst) → substituted_inst (instead from to) (substituted_inst (instead from to) inst) ≡ substituted_inst (instead from to) inst
  inst_twice inst =
      inst_stays (substituted_inst (instead from to) inst) (stay_twice (operands_of (substituted_op (instead from to) inst.op)) (operands_of inst.op) (substituted_reads (instead from to) inst.op))

  pub end_twice : (end : Terminator) → substituted_end (instead from to) (substituted_end (instead from to) end) ≡ substituted_end (instead from to) end
  end_twice end =
      end_stays (substituted_end (instead from to) end) (stay_twice (operands_at_end (substituted_end (instead from to) end)) (operands_at_end end) (substituted_end_reads (instead from to) end))

  abbrev at_end : Function → ℕ → Function
  at_end f b = with_block f b (end_changed (substituted_end (instead from to)))

  abbrev at_inst : Function → ℕ → ℕ → Function
  at_inst f b n = with_block f b (inst_changed n (substituted_inst (instead from to)))

  pub replaced_at_end : (f : Function) (p : Place) → p.number ≡ none → replaced_at f p from to ≡ at_end f p.block
  replaced_at_end f p is = cond-true (eqb p.number none) (at_end f p.block) (at_inst f p.block p.number) (eq-eqb p.number none is)

  pub replaced_at_inst : (f : Function) (p : Place) → ¬ (p.number ≡ none) → replaced_at f p from to ≡ at_inst f p.block p.number
  replaced_at_inst f p other = cond-false (eqb p.number none) (at_end f p.block) (at_inst f p.block p.number) (ne_eqb p.number none other)

  with_blocks : Function → List Block → Function
  with_blocks f blocks = record { name = f.name; before = f.before; width = f.width; parameters = f.parameters; after = f.after; blocks = blocks }

  pub replaced_first : (f : Function) (p : Place) → replaced (replaced_at f p from to) from to ≡ replaced f from to
  unfolding with_blocks
  replaced_first f p = elim (cases_eq p.number none) [
    | inl is ↦
        ap (λ (g : Function). replaced g from to) (replaced_at_end f p is)
        ∙ ap (with_blocks f) (map_changed (substituted_block (instead from to)) p.block
        (end_changed (substituted_end (instead from to))) f.blocks
        (λ x. ap (λ (t : Terminator). let y : Block = record { name = x.name; insts = map (substituted_inst (instead from to)) x.insts; end = t } in y) (end_twice x.end)))
    | inr other ↦
        ap (λ (g : Function). replaced g from to) (replaced_at_inst f p other)
        ∙ ap (with_blocks f) (map_changed (substituted_block (instead from to)) p.block
        (inst_changed p.number (substituted_inst (instead from to))) f.blocks
        (λ x. ap (λ (l : List Inst). let y : Block = record { name = x.name; insts = l; end = substituted_end (instead from to) x.end } in y)
        (map_changed (substituted_inst (instead from to)) p.number (substituted_inst (instead from to)) x.insts inst_twice)))
  ]
