-- An instruction or a terminator reads the registers that are among its operands.
use Rattle.draft_steps.proofs.Common.{◌≡◌, ℕ, ◌<◌, cond, ◌⊎◌, inl, inr, List, [], ◌∷◌, length, Option, None, Some, map, refl, sym, ap, ◌∙◌, arith, Contains, slice_get, option_map, unwrap_or, cases_eq, eq-eqb, ne_eqb, slice_get_past, slice_get_within, slice_get-map, IsBlock, Read, read, end_of, reads_of, reads_at_end, reads_by, reads_in, reads_at, Block, Function, Inst, Op, Binary, Compare, Unary, Select, Convert, Freeze, Phi, Operand, Register, Terminator, ReadsRegister, operands_at_end}
use Rattle.ir_core.specs.declared.operand.Operand.TheVariants as operands
use Rattle.ir_core.specs.declared.terminator.Terminator.TheVariants as terminators
use Rattle.ir_meaning.proofs.Pieces.{contains_at, place_in}
use Rattle.needed.specs.Operands.{operands_of}

abbrev operands_in : List Read → List Operand
operands_in reads = map (λ (r : Read). r.operand) reads

entries_in : (f : Function) (w : ℕ) (entries : List (Operand × ℕ)) → operands_in (map (λ (e : Operand × ℕ). read e.1 (end_of f e.1) w e.0) entries) ≡ map (λ (e : Operand × ℕ). e.0) entries
entries_in f w [] = refl
entries_in f w (e ∷ entries) = ap (λ l. e.0 ∷ l) (entries_in f w entries)

operands-of : (f : Function) (b k w : ℕ) (op : Op) → operands_in (reads_of f b k w op) ≡ operands_of op
operands-of f b k w (Binary op flags x y) = refl
operands-of f b k w (Compare pred samesign compared x y) = refl
operands-of f b k w (Select c x y) = refl
operands-of f b k w (Convert cast flags from x) = refl
operands-of f b k w (Unary op truth x) = refl
operands-of f b k w (Freeze x) = refl
operands-of f b k w (Phi entries) = entries_in f w entries

operands-at_end : (f : Function) (b k : ℕ) (t : Terminator) → operands_in (reads_at_end f b k t) ≡ operands_at_end t
operands-at_end f b k (terminators.Return a) = refl
operands-at_end f b k (terminators.Jump to) = refl
operands-at_end f b k (terminators.Branch c to other) = refl
operands-at_end f b k (terminators.Switch a width other cases) = refl
operands-at_end f b k terminators.Unreachable = refl

-- these are the operands that are read at the place
abbrev Reads : Function → ℕ → ℕ → List Operand → Type 0
Reads f b k reads = operands_in (reads_at f b k) ≡ reads

pub end_of-is : (f : Function) (b : ℕ) (block : Block) → IsBlock f b block → end_of f b ≡ length block.insts
end_of-is f b block at = ap (λ (o : Option Block). unwrap_or (option_map (λ (block : Block). length block.insts) o) 0) at

inst_reads : (f : Function) (b k : ℕ) (block : Block) (inst : Inst) → IsBlock f b block → slice_get block.insts k ≡ Some inst → Reads f b k (operands_of inst.op)
inst_reads f b k block inst at here = ap (λ (o : Option Block). operands_in (reads_in f b k o)) at ∙ (ap (λ (o : Option Inst). operands_in (reads_by f b k block o)) here ∙ operands-of f b k inst.width inst.op)

past_reads : (f : Function) (b k : ℕ) (block : Block) → IsBlock f b block → k ≡ length block.insts → Reads f b k (operands_at_end block.end)
past_reads f b k block at last =
    ap (λ (o : Option Block). operands_in (reads_in f b k o)) at
    ∙ (ap (λ (o : Option Inst). operands_in (reads_by f b k block o)) (slice_get_past block.insts k (omega arith))
    ∙ (ap (λ c. operands_in (cond c (reads_at_end f b k block.end) [])) (eq-eqb k (length block.insts) last)
    ∙ operands-at_end f b k block.end))

found : (f : Function) (b k : ℕ) (r : Register) (reads : List Read) (i : ℕ) → reads_at f b k ≡ reads → slice_get (operands_in reads) i ≡ Some (operands.Register r) → ReadsRegister f b k r
found f b k r reads i is at =
    let here : option_map (λ (r : Read). r.operand) (slice_get reads i) ≡ Some (operands.Register r) = sym (slice_get-map (λ (r : Read). r.operand) reads i) ∙ at in
    by (slice_get reads i) refl here
  where
    by : (o : Option Read) → slice_get reads i ≡ o → option_map (λ (r : Read). r.operand) o ≡ Some (operands.Register r) → ReadsRegister f b k r
    by None at h = absurd cc
    by (Some x) at h = record { operand = i; read = x; is_read = ap (λ l. slice_get l i) is ∙ at; reads = cc }

read_by : (f : Function) (b k : ℕ) (reads : List Operand) (r : Register) → Reads f b k reads → Contains reads (operands.Register r) → ReadsRegister f b k r
read_by f b k reads r is has =
    let at : (i : ℕ) × (slice_get reads i ≡ Some (operands.Register r)) = place_in reads (operands.Register r) has in
    found f b k r (reads_at f b k) at.0 refl (ap (λ l. slice_get l at.0) is ∙ at.1)

contains_read : (f : Function) (b k : ℕ) (reads : List Operand) (r : Register) → Reads f b k reads → ReadsRegister f b k r → Contains reads (operands.Register r)
contains_read f b k reads r is h =
    contains_at reads h.operand (operands.Register r)
    (ap (λ l. slice_get l h.operand) (sym is) ∙ (slice_get-map (λ (r : Read). r.operand) (reads_at f b k) h.operand ∙ (ap (option_map (λ (r : Read). r.operand)) h.is_read ∙ ap (λ a. Some a) h.reads)))

-- ---- who reads

pub inst_reads_it : (f : Function) (b k : ℕ) (block : Block) (inst : Inst) (r : Register) → IsBlock f b block → slice_get block.insts k ≡ Some inst → Contains (operands_of inst.op) (operands.Register r) → ReadsRegister f b k r
inst_reads_it f b k block inst r at here has = read_by f b k (operands_of inst.op) r (inst_reads f b k block inst at here) has

pub end_reads_it : (f : Function) (b : ℕ) (block : Block) (r : Register) → IsBlock f b block → Contains (operands_at_end block.end) (operands.Register r) → ReadsRegister f b (end_of f b) r
end_reads_it f b block r at has = read_by f b (end_of f b) (operands_at_end block.end) r (past_reads f b (end_of f b) block at (end_of-is f b block at)) has

-- an instruction that has the register among its operands
pub record InstReads (f : Function) (b k : ℕ) (r : Register) : Type 0 where
  pub block : Block
  pub is_block : IsBlock f b block
  pub inst : Inst
  pub is_inst : slice_get block.insts k ≡ Some inst
  pub has : Contains (operands_of inst.op) (operands.Register r)

-- a terminator that has
pub record EndReads (f : Function) (b k : ℕ) (r : Register) : Type 0 where
  pub block : Block
  pub is_block : IsBlock f b block
  pub last : k ≡ length block.insts
  pub has : Contains (operands_at_end block.end) (operands.Register r)

none_read : (f : Function) (b k : ℕ) (r : Register) → ReadsRegister f b k r → reads_at f b k ≡ [] → ⊥
none_read f b k r h none = let e : slice_get [] h.operand ≡ Some h.read = ap (λ l. slice_get l h.operand) (sym none) ∙ h.is_read in cc

pub who : (f : Function) (b k : ℕ) (r : Register) → ReadsRegister f b k r → InstReads f b k r ⊎ EndReads f b k r
who f b k r h = by (slice_get f.blocks b) refl
  where
    in_block : (block : Block) → IsBlock f b block → (o : Option Inst) → slice_get block.insts k ≡ o → InstReads f b k r ⊎ EndReads f b k r
    in_block block at (Some inst) here = inl (record { block = block; is_block = at; inst = inst; is_inst = here; has = contains_read f b k (operands_of inst.op) r (inst_reads f b k block inst at here) h })
    in_block block at None past =
        elim (cases_eq k (length block.insts)) [
          | inl last ↦ inr (record { block = block; is_block = at; last = last; has = contains_read f b k (operands_at_end block.end) r (past_reads f b k block at last) h })
          | inr ne ↦ absurd (none_read f b k r h (ap (reads_in f b k) at ∙ (ap (reads_by f b k block) past ∙ ap (λ c. cond c (reads_at_end f b k block.end) []) (ne_eqb k (length block.insts) ne))))
        ]

    by : (o : Option Block) → slice_get f.blocks b ≡ o → InstReads f b k r ⊎ EndReads f b k r
    by None none = absurd (none_read f b k r h (ap (reads_in f b k) none))
    by (Some block) at = in_block block at (slice_get block.insts k) refl

-- an instruction isn't where the terminator is
pub no_inst_at_end : (f : Function) (b k : ℕ) (r : Register) → k ≡ end_of f b → InstReads f b k r → ⊥
no_inst_at_end f b k r last i =
    let lt : k < length i.block.insts = slice_get_within i.block.insts k i.inst i.is_inst in
    let end : end_of f b ≡ length i.block.insts = end_of-is f b i.block i.is_block in
    omega arith
