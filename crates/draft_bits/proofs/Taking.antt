-- What takes a result, and what an instruction reads of its block.
use Rattle.draft_bits.proofs.Common.{◌≡◌, ℕ, List, refl, sym, ap, subst, ◌∙◌, arith, slice_get, slice_get_within, Inst, IsInst, IsPhi, MeetsChecks, Read, IsRead, reads_at_inst, one_inst, some_at, ReadsStandBefore, Draft, Place, arena_of, function_of, IsSettled, IsWhole, few_insts, stands_there, arena_place, arena_place_inst, Takes, StandsReached}
use Rattle.ir_core.specs.declared.operand.Operand.TheVariants as operands
use Rattle.ir_core.specs.declared.operand.Register.TheVariants as registers
use Rattle.places.specs.Heaps.{ComesBefore}
use Rattle.draft_bits.proofs.Turns.{comes_behind}
use Rattle.draft_bits.proofs.Updates.{ReadsOfItsBlock}

-- an instruction's number isn't the terminator's
arena_at : (d : Draft) → IsWhole d → (b n : ℕ) (inst : Inst) → IsInst (arena_of d) b n inst → arena_place (arena_of d) (record { block = b; number = n }) ≡ n
arena_at d whole b n inst is =
    let few = few_insts d whole b is.block is.is_block in
    let within = slice_get_within is.block.insts n inst is.is_inst in
    arena_place_inst (arena_of d) (record { block = b; number = n }) (omega (arith, few, within))

pub takes_reads : (d : Draft) → IsWhole d → (p : Place) (b n : ℕ) (inst : Inst) → IsInst (arena_of d) b n inst → Takes (arena_of d) p b n → ReadsOfItsBlock (arena_of d) b n inst p.number
takes_reads d whole p b n inst is takes =
    let place = arena_at d whole b n inst is in
    let found : IsRead (arena_of d) b n takes.reads.operand takes.reads.read = subst (λ (k : ℕ). IsRead (arena_of d) b k takes.reads.operand takes.reads.read) place takes.reads.is_read in (
      takes.no_phi inst is,
      takes.reads.operand,
      takes.reads.read,
      ap (λ (l : List Read). slice_get l takes.reads.operand) (sym (reads_at_inst (arena_of d) b n inst is)) ∙ found,
      takes.reads.reads ∙ ap (λ (c : ℕ). operands.Register (registers.Result c p.number)) (sym takes.block),
    )

pub reads_takes : (d : Draft) → IsWhole d → (p : Place) (n : ℕ) (inst : Inst) → IsInst (arena_of d) p.block n inst → ReadsOfItsBlock (arena_of d) p.block n inst p.number → Takes (arena_of d) p p.block n
reads_takes d whole p n inst is (no_phi, i, r, at, reads) = record {
  block = refl;
  no_phi = λ other is_other. subst (λ (x : Inst). ¬ IsPhi x.op) (one_inst (arena_of d) p.block n inst other is is_other) no_phi;
  reads = record {
    operand = i;
    read = r;
    is_read = subst (λ (k : ℕ). IsRead (arena_of d) p.block k i r) (sym (arena_at d whole p.block n inst is))
        (ap (λ (l : List Read). slice_get l i) (reads_at_inst (arena_of d) p.block n inst is) ∙ at);
    reads = reads;
  };
}

-- what takes a result stands behind its instruction
pub taken_behind : ReadsStandBefore → (d : Draft) → IsSettled d → MeetsChecks (function_of d) → (p : Place) (b n : ℕ) → StandsReached d b n → Takes (arena_of d) p b n → ComesBefore d.orders.items p (record { block = b; number = n })
taken_behind reads_before d settled checks p b n stands takes =
    let (block, at, within) = stands_there d settled.whole b n stands.1 in
    let (inst, is_inst) = some_at block.insts n within in
    let is : IsInst (arena_of d) b n inst = record { block = block; is_block = at; is_inst = is_inst } in
    let before : ComesBefore d.orders.items (record { block = b; number = p.number }) (record { block = b; number = n }) =
    comes_behind reads_before d settled checks b n p.number inst stands is (takes_reads d settled.whole p b n inst is takes) in
    subst (λ (c : ℕ). ComesBefore d.orders.items (record { block = c; number = p.number }) (record { block = b; number = n })) takes.block before
