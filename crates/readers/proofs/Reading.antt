-- What is read at places of an arena.
use Rattle.readers.proofs.Common.{◌≡◌, ◌⊎◌, inl, inr, ℕ, ◌<◌, eqb, List, [], length, get_or, Option, None, Some, map, sym, ap, ◌∙◌, arith, Contains, slice_get, option_map, unwrap_or, cases_eq, cond-true, cond-false, eq-eqb, ne_eqb, slice_get-map, slice_get_cases, unwrap_or-slice_get, IsBlock, Read, IsRead, end_of, reads_at, reads_at_end, reads_by, reads_in, Block, Function, Inst, Operand, Register, ReadsRegister, operands_of, operands_at_end, contained_at, contains_at, mapped, end_reads, inst_reads, operands_at, none, arena_place, Place}
use Rattle.ir_core.specs.declared.operand.Operand.TheVariants as operands

-- the operands that are read at place k of block b
abbrev pub written : Function → ℕ → ℕ → List Operand
written f b k = map (λ (r : Read). r.operand) (reads_at f b k)

pub reads_written : (f : Function) (b k : ℕ) (r : Register) → ReadsRegister f b k r → Contains (written f b k) (operands.Register r)
reads_written f b k r h = contains_at (written f b k) (operands.Register r) h.operand
    (slice_get-map (λ (r : Read). r.operand) (reads_at f b k) h.operand ∙ ap (option_map (λ (r : Read). r.operand)) h.is_read ∙ ap (λ (a : Operand). Some a) h.reads)

pub read_at_written : (f : Function) (b k i : ℕ) (a : Operand) → slice_get (written f b k) i ≡ Some a → (r : Read) × IsRead f b k i r × (r.operand ≡ a)
read_at_written f b k i a at = mapped (λ (r : Read). r.operand) (slice_get (reads_at f b k) i) a (sym (slice_get-map (λ (r : Read). r.operand) (reads_at f b k) i) ∙ at)

pub written_reads : (f : Function) (b k : ℕ) (r : Register) → Contains (written f b k) (operands.Register r) → ReadsRegister f b k r
written_reads f b k r h =
    let at : (i : ℕ) × (slice_get (written f b k) i ≡ Some (operands.Register r)) = contained_at (written f b k) (operands.Register r) h in
    let found : (x : Read) × IsRead f b k at.0 x × (x.operand ≡ operands.Register r) = read_at_written f b k at.0 (operands.Register r) at.1 in
    record { operand = at.0; read = found.0; is_read = found.1; reads = found.2 }

-- ---- what stands at a place

pub arena_place_inst : (f : Function) (p : Place) → p.number < none → arena_place f p ≡ p.number
arena_place_inst f p less = cond-false (eqb p.number none) (end_of f p.block) p.number (ne_eqb p.number none (λ e. omega arith))

pub arena_place_end : (f : Function) (p : Place) → p.number ≡ none → arena_place f p ≡ end_of f p.block
arena_place_end f p is = cond-true (eqb p.number none) (end_of f p.block) p.number (eq-eqb p.number none is)

pub operands_at_inst : (f : Function) (p : Place) (block : Block) (inst : Inst) → IsBlock f p.block block → slice_get block.insts p.number ≡ Some inst → p.number < none → operands_at f p ≡ operands_of inst.op
operands_at_inst f p block inst at here less =
    ap (λ (k : ℕ). written f p.block k) (arena_place_inst f p less) ∙ inst_reads f p.block p.number block inst at here

pub operands_at_terminator : (f : Function) (p : Place) (block : Block) → IsBlock f p.block block → p.number ≡ none → operands_at f p ≡ operands_at_end block.end
operands_at_terminator f p block at is =
    ap (λ (k : ℕ). written f p.block k) (arena_place_end f p is) ∙ end_reads f p.block block at

-- ---- where something is read, an instruction or a terminator stands

nothing_read : (i : ℕ) (r : Read) → slice_get {X = Read} [] i ≡ Some r → ⊥
nothing_read i r e = cc

pub read_in_block : (f : Function) (b k i : ℕ) (r : Read) → IsRead f b k i r → (block : Block) × IsBlock f b block
read_in_block f b k i r at = elim (slice_get_cases f.blocks b).1 [
  | inl (block, within, here, is) ↦ (block, here)
  | inr (past, absent) ↦ absurd (nothing_read i r (ap (λ (o : Option Block). slice_get (reads_in f b k o) i) (sym absent) ∙ at))
]

pub read_in_inst : (f : Function) (b k i : ℕ) (r : Read) (block : Block) → IsBlock f b block → IsRead f b k i r → ((inst : Inst) × (slice_get block.insts k ≡ Some inst)) ⊎ (k ≡ length block.insts)
read_in_inst f b k i r block at_b at = elim (slice_get_cases block.insts k).1 [
  | inl (inst, within, here, is) ↦ inl (inst, here)
  | inr (past, absent) ↦ elim (cases_eq k (length block.insts)) [
    | inl e ↦ inr e
    | inr apart ↦
        let empty : reads_at f b k ≡ [] =
        ap (reads_in f b k) at_b ∙ ap (reads_by f b k block) absent ∙ cond-false (eqb k (length block.insts)) (reads_at_end f b k block.end) [] (ne_eqb k (length block.insts) apart) in
        absurd (nothing_read i r (ap (λ (l : List Read). slice_get l i) (sym empty) ∙ at))
  ]
]

-- past the last operand `poison` is read
pub no_operand : (f : Function) (p : Place) (k i : ℕ) → k ≡ arena_place f p → None ≡ slice_get (reads_at f p.block k) i → operands.Poison ≡ get_or (operands_at f p) i operands.Poison
no_operand f p k i place absent =
    let here : None ≡ slice_get (reads_at f p.block (arena_place f p)) i = absent ∙ ap (λ (n : ℕ). slice_get (reads_at f p.block n) i) place in
    let none_there : slice_get (operands_at f p) i ≡ None =
    slice_get-map (λ (r : Read). r.operand) (reads_at f p.block (arena_place f p)) i ∙ ap (option_map (λ (r : Read). r.operand)) (sym here) in
    sym (ap (λ (o : Option Operand). unwrap_or o operands.Poison) none_there) ∙ unwrap_or-slice_get (operands_at f p) i operands.Poison

pub same_place : (p q : Place) → p.block ≡ q.block → p.number ≡ q.number → p ≡ q
same_place p q blocks numbers =
    ap (λ (b : ℕ). let x : Place = record { block = b; number = p.number } in x) blocks ∙ ap (λ (n : ℕ). let x : Place = record { block = q.block; number = n } in x) numbers
