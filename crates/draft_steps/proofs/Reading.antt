-- What is read in the function of an arena, and what is read in the arena.
use Rattle.draft_steps.proofs.Common.{◌≡◌, ◌⊎◌, inl, inr, ℕ, List, [], ◌∷◌, length, map, Option, Some, refl, sym, ap, ◌∙◌, slice_get, cases_eq, ne_eqb, cond-false, slice_get_cases, IsBlock, targets_of, IsInst, Read, IsRead, read, end_of, reads_of, reads_at_end, reads_by, reads_in, Block, Function, Inst, Op, Binary, Compare, Unary, Select, Convert, Freeze, Phi, Operand, Terminator, Substitution, substituted_operand, substituted_entries, substituted_op, substituted_end}
use Rattle.ir_core.specs.declared.terminator.Terminator.TheVariants as terminators

-- the operands alone
abbrev pub operands_read : List Read → List Operand
operands_read reads = map (λ (r : Read). r.operand) reads

abbrev phi_reads : Function → ℕ → List (Operand × ℕ) → List Read
phi_reads f w entries = map (λ (e : Operand × ℕ). read e.1 (end_of f e.1) w e.0) entries

phi_substituted : (to : Substitution) (f f' : Function) (w : ℕ) (entries : List (Operand × ℕ))
    → operands_read (phi_reads f' w (substituted_entries to entries)) ≡ map (substituted_operand to) (operands_read (phi_reads f w entries))
phi_substituted to f f' w [] = refl
phi_substituted to f f' w (e ∷ entries) = ap (λ (l : List Operand). substituted_operand to e.0 ∷ l) (phi_substituted to f f' w entries)

pub reads_substituted : (to : Substitution) (f f' : Function) (b k q w : ℕ) (op : Op)
    → operands_read (reads_of f' b q w (substituted_op to op)) ≡ map (substituted_operand to) (operands_read (reads_of f b k w op))
reads_substituted to f f' b k q w (Binary opcode flags x y) = refl
reads_substituted to f f' b k q w (Compare pred samesign compared x y) = refl
reads_substituted to f f' b k q w (Unary op truth x) = refl
reads_substituted to f f' b k q w (Select c x y) = refl
reads_substituted to f f' b k q w (Convert cast flags from x) = refl
reads_substituted to f f' b k q w (Freeze x) = refl
reads_substituted to f f' b k q w (Phi entries) = phi_substituted to f f' w entries

pub end_substituted : (to : Substitution) (f f' : Function) (b k q : ℕ) (end : Terminator)
    → operands_read (reads_at_end f' b q (substituted_end to end)) ≡ map (substituted_operand to) (operands_read (reads_at_end f b k end))
end_substituted to f f' b k q (terminators.Return a) = refl
end_substituted to f f' b k q (terminators.Jump c) = refl
end_substituted to f f' b k q (terminators.Branch c x y) = refl
end_substituted to f f' b k q (terminators.Switch a width other cases) = refl
end_substituted to f f' b k q terminators.Unreachable = refl

pub targets_substituted : (to : Substitution) (end : Terminator) → targets_of (substituted_end to end) ≡ targets_of end
targets_substituted to (terminators.Return a) = refl
targets_substituted to (terminators.Jump c) = refl
targets_substituted to (terminators.Branch c x y) = refl
targets_substituted to (terminators.Switch a width other cases) = refl
targets_substituted to terminators.Unreachable = refl

nothing_read : (i : ℕ) (r : Read) → slice_get [] i ≡ Some r → ⊥
nothing_read i r e = cc

-- what is read is read at an instruction or at a terminator
pub read_cases : (f : Function) (b k i : ℕ) (r : Read) → IsRead f b k i r → ((inst : Inst) × IsInst f b k inst) ⊎ ((block : Block) × IsBlock f b block × (k ≡ length block.insts))
read_cases f b k i r is = elim (slice_get_cases f.blocks b).1 [
  | inr (past, none) ↦ absurd (nothing_read i r (ap (λ (o : Option Block). slice_get (reads_in f b k o) i) (sym none) ∙ is))
  | inl (block, lt, at, same) ↦ elim (slice_get_cases block.insts k).1 [
    | inl (inst, within, here, is_inst) ↦ inl (inst, record { block = block; is_block = at; is_inst = here })
    | inr (behind, no_inst) ↦ elim (cases_eq k (length block.insts)) [
      | inl last ↦ inr (block, at, last)
      | inr other ↦ absurd (nothing_read i r (
          ap (λ (l : List Read). slice_get l i) (sym (ap (reads_in f b k) at ∙ ap (reads_by f b k block) no_inst ∙ cond-false _ (reads_at_end f b k block.end) [] (ne_eqb k (length block.insts) other)))
          ∙ is))
    ]
  ]
]
