-- What is asked of an arena where operands are replaced, or an instruction is removed.
use Rattle.draft.proofs.Common.{inl, ◌≤◌, List, HasInst, Block, Function, Operand, Register, count_of, HasNumbers, operands_at, times, IsPlaceIn, IsWhole, Draft, Place, numbers_for, times_counted}
use Rattle.ir_core.specs.declared.operand.Operand.TheVariants as operands
use Rattle.draft.proofs.Wholeness.{all_known, few_insts}

-- a draft with other blocks in its arena
abbrev pub with_blocks : Draft → List Block → Draft
with_blocks d blocks = record { arena = record { name = d.arena.name; before = d.arena.before; width = d.arena.width; parameters = d.arena.parameters; after = d.arena.after; blocks = blocks }; facts = d.facts; orders = d.orders; stand = d.stand; readers = d.readers; dead_candidates = d.dead_candidates; has_cycles = d.has_cycles }

-- an instruction of the arena has a place there
pub inside : (f : Function) (p : Place) → HasInst f p.block p.number → IsPlaceIn f p
inside f p (block, at, within) = (block, at, inl within)

module _ (old : Draft) (whole : IsWhole old) (p : Place) (has : HasInst old.arena p.block p.number) where
  pub was_numbers : HasNumbers old.facts.uses (operands_at old.arena p)
  was_numbers = numbers_for old.arena old.facts p whole.facts (all_known old whole) (inside old.arena p has)

  pub was_counted : (r : Register) → times r (operands_at old.arena p) ≤ count_of old.facts.uses r
  was_counted r = times_counted old.arena old.facts whole.facts (few_insts old whole) p (inside old.arena p has) r
