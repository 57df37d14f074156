use Rattle.draft_steps.proofs.Common.{◌≡◌, ◌<◌, ◌∙◌, Bool, false, List, [], ◌∷◌, Contains, ap, get_or, length, refl, slice_set, sym, subst, arith, slice_get-get_or, slice_get_within, Block, Operand, gone, without, AreCounted, operands_at, standing, Draft, whole_taken_out, inst_there, counted_other, only_one, was_counted, was_numbers, with_blocks, all_listed, standing_marked, without_standing, counted_insts}
use Rattle.ir_core.specs.declared.operand.Operand.TheVariants as operands
use Rattle.draft.proofs.Changed.{reads}
use Rattle.draft_steps.proofs.removing.remove_inst.Goals as goal

pub push_reads-requires : goal.push_reads-requires
push_reads-requires c = counted_insts c.args.draft.now c.requires.whole

pub forget_reads-requires-clause-insts : goal.forget_reads-requires-clause-insts
forget_reads-requires-clause-insts c = counted_insts c.args.draft.now c.requires.whole

pub forget_reads-requires-clause-there : goal.forget_reads-requires-clause-there
forget_reads-requires-clause-there c = was_numbers c.args.draft.now c.requires.whole c.args.at c.requires.at

pub forget_reads-requires-clause-counted : goal.forget_reads-requires-clause-counted
forget_reads-requires-clause-counted c = was_counted c.args.draft.now c.requires.whole c.args.at c.requires.at

pub clear_mark-requires-clause-number : goal.clear_mark-requires-clause-number
clear_mark-requires-clause-number c =
    let (block, is_block, within) = c.requires.at in
    let rows = c.requires.whole.rows c.args.at.block block is_block in
    let marks = rows.marked in
    omega arith

pub returns-clause-whole : goal.returns-clause-whole
returns-clause-whole c =
    let old = c.args.draft.now in
    let at = c.args.at in
    let whole = c.requires.whole in
    let (block, was, is_block, here) = inst_there old.arena at.block at.number c.requires.at in
    let new : Draft = record { arena = (with_blocks old c.empty_inst.new.blocks).arena; facts = record { flow = old.facts.flow; uses = c.forget_reads.new.uses }; orders = old.orders; stand = c.clear_mark.new.stand; readers = old.readers; dead_candidates = c.push_reads.new.dead_candidates; has_cycles = old.has_cycles } in
    let arena = ap (λ (l : List Block). (with_blocks old l).arena) c.empty_inst.ensures in
    let nothing : operands_at new.arena at ≡ operands.Poison ∷ [] = reads old new at.block at.number gone whole block was is_block here arena in
    whole_taken_out old new at.block at.number block was whole is_block here arena refl c.clear_mark.ensures
    (record {
      mid = c.forget_reads.new.uses;
      flow = refl;
      cycles = refl;
      forgotten = c.forget_reads.ensures;
      counted = subst (λ (l : List Operand). AreCounted l new.facts.uses new.facts.uses) (sym nothing) (counted_other new.facts.uses operands.Poison (λ r e. cc));
      listed = all_listed at (operands_at new.arena at) old.readers (λ r there.
          let same = only_one operands.Poison (operands.Register r) (subst (λ (l : List Operand). Contains l (operands.Register r)) nothing there) in
          cc);
    })

pub returns-clause-numbers : goal.returns-clause-numbers
returns-clause-numbers c =
    let old = c.args.draft.now in
    let b = c.args.at.block in
    let n = c.args.at.number in
    let (block, is_block, within) = c.requires.at in
    let in_blocks = slice_get_within old.arena.blocks b block is_block in
    let ordered = c.requires.whole.ordered in
    let marks = c.requires.whole.marked in
    let stand_within : b < length old.stand.items = omega arith in
    let order_within : b < length old.orders.items = omega arith in
    ap (λ (s : List (List Bool)). standing s old.orders.items) c.clear_mark.ensures
    ∙ standing_marked old.stand.items old.orders.items b (get_or old.stand.items b []) (slice_set (get_or old.stand.items b []) n false) (get_or old.orders.items b []) (without n)
    (slice_get-get_or old.stand.items b [] stand_within) (slice_get-get_or old.orders.items b [] order_within) (without_standing (get_or old.stand.items b []) n (get_or old.orders.items b []))
