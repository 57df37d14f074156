use Rattle.draft_steps.proofs.Common.{◌≡◌, ◌<◌, ◌⊎◌, ◌∙◌, inl, inr, List, Contains, length, refl, sym, subst, same_Some, slice_get_within, on_ok_weaker, IsKnown, Block, Operand, Register, replaced_at, operands_at, none, IsPlaceIn, IsWhole, Draft, Place, with_blocks, all_listed, few_counted, numbers_for, one_listed, times_counted, few_after, reads_after, swapped_arena, whole_after, swapped_known, swapped_listed, all_known, counted_insts, few_insts}
use Rattle.ir_core.specs.declared.operand.Operand.TheVariants as operands
use Rattle.draft_steps.proofs.replacing.replace_at.Goals as goal

pub forget_reads-requires-clause-insts : goal.forget_reads-requires-clause-insts
forget_reads-requires-clause-insts c = counted_insts c.args.draft.now c.requires.whole

pub forget_reads-requires-clause-there : goal.forget_reads-requires-clause-there
forget_reads-requires-clause-there c = numbers_for c.args.draft.now.arena c.args.draft.now.facts c.args.place c.requires.whole.facts (all_known c.args.draft.now c.requires.whole) c.requires.place

pub forget_reads-requires-clause-counted : goal.forget_reads-requires-clause-counted
forget_reads-requires-clause-counted c = times_counted c.args.draft.now.arena c.args.draft.now.facts c.requires.whole.facts (few_insts c.args.draft.now c.requires.whole) c.args.place c.requires.place

pub swap_at-requires-clause-block : goal.swap_at-requires-clause-block
swap_at-requires-clause-block c =
    let (block, at, inside) = c.requires.place in
    slice_get_within c.args.draft.now.arena.blocks c.args.place.block block at

pub swap_at-requires-clause-inst : goal.swap_at-requires-clause-inst
swap_at-requires-clause-inst c = λ block at.
    let (x, is, inside) = c.requires.place in
    subst (λ (b : Block). (c.args.place.number < length b.insts) ⊎ (c.args.place.number ≡ none)) (same_Some x block (sym is ∙ at)) inside

-- what is read at the place after the replacement is known
reads_known : (old : Draft) (whole : IsWhole old) (from : Register) (to : Operand) (p : Place) (blocks : List Block) → IsPlaceIn old.arena p → IsKnown old.arena to → (with_blocks old blocks).arena ≡ replaced_at old.arena p from to
    → (r : Register) → Contains (operands_at (with_blocks old blocks).arena p) (operands.Register r) → IsKnown old.arena (operands.Register r)
reads_known old whole from to p blocks inside known arena r there =
    swapped_known old.arena from to p (operands_at (with_blocks old blocks).arena p) (reads_after old (with_blocks old blocks) from to p whole inside arena) known (all_known old whole) inside (operands.Register r) there

pub count_reads-requires-clause-insts : goal.count_reads-requires-clause-insts
count_reads-requires-clause-insts c =
    let old = c.args.draft.now in
    let p = c.args.place in
    let arena = swapped_arena old.arena c.swap_at.new.blocks p c.args.swap.now.from c.args.swap.now.to c.swap_at.ensures.end c.swap_at.ensures.inst in
    few_counted (with_blocks old c.swap_at.new.blocks).arena (few_after old (with_blocks old c.swap_at.new.blocks) c.args.swap.now.from c.args.swap.now.to p c.requires.whole c.requires.place arena)

pub count_reads-requires-clause-there : goal.count_reads-requires-clause-there
count_reads-requires-clause-there c = λ r there.
    let old = c.args.draft.now in
    let p = c.args.place in
    let arena = swapped_arena old.arena c.swap_at.new.blocks p c.args.swap.now.from c.args.swap.now.to c.swap_at.ensures.end c.swap_at.ensures.inst in
    (c.forget_reads.ensures.there r).1 (c.requires.whole.facts.uses.there r (reads_known old c.requires.whole c.args.swap.now.from c.args.swap.now.to p c.swap_at.new.blocks c.requires.place c.requires.to arena r there))

pub list-requires : goal.list-requires
list-requires c = c.requires.whole.readers.there c.in-Register.read (subst (IsKnown c.args.draft.now.arena) c.in-Register.is c.requires.to)

pub returns-in-Register-clause-whole : goal.returns-in-Register-clause-whole
returns-in-Register-clause-whole c =
    let old = c.args.draft.now in
    let p = c.args.place in
    let from = c.args.swap.now.from in
    let to = c.args.swap.now.to in
    let mid : Draft = with_blocks old c.swap_at.new.blocks in
    let new : Draft = record { arena = mid.arena; facts = record { flow = old.facts.flow; uses = c.count_reads.new.uses }; orders = old.orders; stand = old.stand; readers = c.list.new.self; dead_candidates = old.dead_candidates; has_cycles = old.has_cycles } in
    let arena = swapped_arena old.arena c.swap_at.new.blocks p from to c.swap_at.ensures.end c.swap_at.ensures.inst in
    on_ok_weaker c.list.result (λ listed. whole_after old new from to p c.requires.whole c.requires.place arena c.requires.to refl refl (record {
      mid = c.forget_reads.new.uses;
      flow = refl;
      cycles = refl;
      forgotten = c.forget_reads.ensures;
      counted = c.in_ok-count_reads.ensures;
      listed = one_listed p (operands_at new.arena p) c.in-Register.read old.readers c.list.new.self listed (λ r there.
          elim (swapped_listed old.arena from to p (operands_at new.arena p) (reads_after old new from to p c.requires.whole c.requires.place arena) old refl c.requires.whole.readers c.requires.place r there) [
            | inl older ↦ inl older
            | inr put ↦ let is = sym put ∙ c.in-Register.is in inr (let same : r ≡ c.in-Register.read = cc in same)
          ]);
    })) c.list.ensures.listed

pub returns-in_default-clause-whole : goal.returns-in_default-clause-whole
returns-in_default-clause-whole c =
    let old = c.args.draft.now in
    let p = c.args.place in
    let from = c.args.swap.now.from in
    let to = c.args.swap.now.to in
    let mid : Draft = with_blocks old c.swap_at.new.blocks in
    let new : Draft = record { arena = mid.arena; facts = record { flow = old.facts.flow; uses = c.count_reads.new.uses }; orders = old.orders; stand = old.stand; readers = old.readers; dead_candidates = old.dead_candidates; has_cycles = old.has_cycles } in
    let arena = swapped_arena old.arena c.swap_at.new.blocks p from to c.swap_at.ensures.end c.swap_at.ensures.inst in
    whole_after old new from to p c.requires.whole c.requires.place arena c.requires.to refl refl (record {
      mid = c.forget_reads.new.uses;
      flow = refl;
      cycles = refl;
      forgotten = c.forget_reads.ensures;
      counted = c.in_ok-count_reads.ensures;
      listed = all_listed p (operands_at new.arena p) old.readers (λ r there.
          elim (swapped_listed old.arena from to p (operands_at new.arena p) (reads_after old new from to p c.requires.whole c.requires.place arena) old refl c.requires.whole.readers c.requires.place r there) [
            | inl older ↦ older
            | inr put ↦ absurd (c.in_default.not-Register r put)
          ]);
    })

pub returns-in-Register-clause-arena : goal.returns-in-Register-clause-arena
returns-in-Register-clause-arena c =
    on_ok_weaker c.list.result (λ listed. swapped_arena c.args.draft.now.arena c.swap_at.new.blocks c.args.place c.args.swap.now.from c.args.swap.now.to c.swap_at.ensures.end c.swap_at.ensures.inst) c.list.ensures.listed

pub returns-in_default-clause-arena : goal.returns-in_default-clause-arena
returns-in_default-clause-arena c =
    swapped_arena c.args.draft.now.arena c.swap_at.new.blocks c.args.place c.args.swap.now.from c.args.swap.now.to c.swap_at.ensures.end c.swap_at.ensures.inst
