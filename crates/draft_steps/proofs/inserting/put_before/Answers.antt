-- The tables get an entry for the instruction, and then its operands are counted and listed.
use Rattle.draft_steps.proofs.Common.{◌≡◌, ◌∙◌, ◌+◌, ◌<◌, ◌≤◌, ◌^◌, ℕ, Bool, true, inl, List, [], ◌∷◌, ◌++◌, All, Contains, ap, get_or, length, refl, slice_set, sym, subst, arith, All-contains, slice_get-get_or, slice_get_within, IsBlock, IsKnown, end_of, Block, Function, Inst, Operand, Register, Uses, changed_at, inst_put, put_in, AreCounted, HasNumbers, operands_at, standing, KeepsOrders, none, put_before, HaveLists, IsWhole, Draft, Place, Readers, with_blocks, few_counted, all_below, list_row, number_row, whole_put, few_put, list_there, read_put, next-keeps, put_standing, standing_changed, row_within, few_insts, stands_marked, stands_there}
use Rattle.ir_core.specs.declared.operand.Operand.TheVariants as operands
use Rattle.ir_core.specs.declared.operand.Register.TheVariants as registers
use Rattle.needed.specs.Operands.{operands_of}
use Rattle.needed.proofs.Reading.{end_of-is}
use Rattle.readers.specs.Readers.{AreListed}
use Rattle.draft.proofs.Putting.{number_there}
use Rattle.draft_steps.proofs.inserting.put_before.Goals as goal

-- the tables have a row for each block
record InTables (d : Draft) (b : ℕ) : Type 0 where
  blocks : b < length d.arena.blocks
  orders : b < length d.orders.items
  stand : b < length d.stand.items
  uses : b < length d.facts.uses.results.items
  readers : b < length d.readers.results.items

in_tables : (d : Draft) (whole : IsWhole d) (b n : ℕ) (block : Block) → IsBlock d.arena b block → n < length block.insts → InTables d b
in_tables d whole b n block at inside =
    let within = slice_get_within d.arena.blocks b block at in
    record {
      blocks = within;
      orders = omega (arith, whole.ordered);
      stand = omega (arith, whole.marked);
      uses = row_within 0 d.facts.uses.results.items b n (number_row d whole b block at n inside);
      readers = row_within [] d.readers.results.items b n (list_row d whole b block at n inside);
    }

module _ (d : Draft) (whole : IsWhole d) (b n : ℕ) (block : Block) (at : IsBlock d.arena b block) (inside : n < length block.insts) (inst : Inst) (room : length block.insts + 1 ≤ none)
    (known : All (IsKnown d.arena) (operands_of inst.op)) (blocks : List Block) (is : blocks ≡ changed_at b (inst_put inst) d.arena.blocks) (number : ℕ) (number_is : number ≡ length block.insts) where
  abbrev p : Place
  p = record { block = b; number = number }

  now_few : All (λ (x : Block). length x.insts < 2 ^ 32) blocks
  now_few = subst (All (λ (x : Block). length x.insts < 2 ^ 32)) (sym is) (few_counted (put_in d.arena b inst) (few_put d.arena (few_insts d whole) b block at inst room))

  now_reads : operands_at (with_blocks d blocks).arena p ≡ operands_of inst.op
  now_reads =
      ap (λ (m : ℕ). let q : Place = record { block = b; number = m } in operands_at (with_blocks d blocks).arena q) number_is
      ∙ ap (λ (l : List Block). let q : Place = record { block = b; number = length block.insts } in operands_at (with_blocks d l).arena q) is
      ∙ read_put d.arena (few_insts d whole) b block at inst room

  reads_known : (r : Register) → Contains (operands_at (with_blocks d blocks).arena p) (operands.Register r) → IsKnown d.arena (operands.Register r)
  reads_known r there = All-contains (IsKnown d.arena) (operands_of inst.op) (operands.Register r) known (subst (λ (l : List Operand). Contains l (operands.Register r)) now_reads there)

  now_numbers : (mid : Uses) → mid.parameters ≡ d.facts.uses.parameters → mid.results.items ≡ slice_set d.facts.uses.results.items b (get_or d.facts.uses.results.items b [] ++ 0 ∷ [])
      → HasNumbers mid (operands_at (with_blocks d blocks).arena p)
  now_numbers mid parameters results r there =
      number_there d.facts.uses mid b (length block.insts) (in_tables d whole b n block at inside).uses
      (all_below (length block.insts) (length (get_or d.facts.uses.results.items b [])) (number_row d whole b block at)) parameters results r (inl (whole.facts.uses.there r (reads_known r there)))

  now_lists : (mid : Readers) → mid.parameters ≡ d.readers.parameters → mid.results.items ≡ slice_set d.readers.results.items b (get_or d.readers.results.items b [] ++ [] ∷ [])
      → HaveLists mid (operands_at (with_blocks d blocks).arena p)
  now_lists mid parameters results r there =
      list_there d.readers mid b (length block.insts) (in_tables d whole b n block at inside).readers
      (all_below (length block.insts) (length (get_or d.readers.results.items b [])) (list_row d whole b block at)) parameters results r (inl (whole.readers.there r (reads_known r there)))

pub put_in_order-requires-clause-block : goal.put_in_order-requires-clause-block
put_in_order-requires-clause-block c =
    let (block, at, inside) = stands_there c.args.draft.now c.requires.whole c.args.at.block c.args.at.number c.requires.at in
    (in_tables c.args.draft.now c.requires.whole c.args.at.block c.args.at.number block at inside).orders

pub put_in_order-requires-clause-at : goal.put_in_order-requires-clause-at
put_in_order-requires-clause-at c =
    let (block, at, inside) = stands_there c.args.draft.now c.requires.whole c.args.at.block c.args.at.number c.requires.at in
    (stands_marked c.args.draft.now c.requires.whole c.args.at.block block at c.args.at.number c.requires.at).0

pub put_in_order-requires-clause-few : goal.put_in_order-requires-clause-few
put_in_order-requires-clause-few c =
    let (block, at, inside) = stands_there c.args.draft.now c.requires.whole c.args.at.block c.args.at.number c.requires.at in
    let ordered = (c.requires.whole.rows c.args.at.block block at).ordered in
    let room = c.requires.room block at in
    omega arith

pub push_inst-requires : goal.push_inst-requires
push_inst-requires c =
    let (block, at, inside) = stands_there c.args.draft.now c.requires.whole c.args.at.block c.args.at.number c.requires.at in
    (in_tables c.args.draft.now c.requires.whole c.args.at.block c.args.at.number block at inside).blocks

pub push_mark-requires : goal.push_mark-requires
push_mark-requires c =
    let (block, at, inside) = stands_there c.args.draft.now c.requires.whole c.args.at.block c.args.at.number c.requires.at in
    (in_tables c.args.draft.now c.requires.whole c.args.at.block c.args.at.number block at inside).stand

pub push_count-requires : goal.push_count-requires
push_count-requires c =
    let (block, at, inside) = stands_there c.args.draft.now c.requires.whole c.args.at.block c.args.at.number c.requires.at in
    (in_tables c.args.draft.now c.requires.whole c.args.at.block c.args.at.number block at inside).uses

pub push_list-requires : goal.push_list-requires
push_list-requires c =
    let (block, at, inside) = stands_there c.args.draft.now c.requires.whole c.args.at.block c.args.at.number c.requires.at in
    (in_tables c.args.draft.now c.requires.whole c.args.at.block c.args.at.number block at inside).readers

pub count_reads-requires-clause-insts : goal.count_reads-requires-clause-insts
count_reads-requires-clause-insts c =
    let (block, at, inside) = stands_there c.args.draft.now c.requires.whole c.args.at.block c.args.at.number c.requires.at in
    let number_is : c.in_ok-number.number ≡ length block.insts = c.in_ok-number.ensures.number ∙ (c.requires.whole.rows c.args.at.block block at).ordered in
    now_few c.args.draft.now c.requires.whole c.args.at.block c.args.at.number block at inside c.args.inst (c.requires.room block at) c.requires.known c.push_inst.new.blocks c.in_ok-push_inst.ensures c.in_ok-number.number number_is

pub list_reads-requires-clause-insts : goal.list_reads-requires-clause-insts
list_reads-requires-clause-insts c =
    let (block, at, inside) = stands_there c.args.draft.now c.requires.whole c.args.at.block c.args.at.number c.requires.at in
    let number_is : c.in_ok-number.number ≡ length block.insts = c.in_ok-number.ensures.number ∙ (c.requires.whole.rows c.args.at.block block at).ordered in
    now_few c.args.draft.now c.requires.whole c.args.at.block c.args.at.number block at inside c.args.inst (c.requires.room block at) c.requires.known c.push_inst.new.blocks c.in_ok-push_inst.ensures c.in_ok-number.number number_is

pub count_reads-requires-clause-there : goal.count_reads-requires-clause-there
count_reads-requires-clause-there c =
    let (block, at, inside) = stands_there c.args.draft.now c.requires.whole c.args.at.block c.args.at.number c.requires.at in
    let number_is : c.in_ok-number.number ≡ length block.insts = c.in_ok-number.ensures.number ∙ (c.requires.whole.rows c.args.at.block block at).ordered in
    now_numbers c.args.draft.now c.requires.whole c.args.at.block c.args.at.number block at inside c.args.inst (c.requires.room block at) c.requires.known c.push_inst.new.blocks c.in_ok-push_inst.ensures c.in_ok-number.number number_is
    c.push_count.new.uses c.in_ok-push_count.ensures.parameters c.in_ok-push_count.ensures.results

pub list_reads-requires-clause-there : goal.list_reads-requires-clause-there
list_reads-requires-clause-there c =
    let (block, at, inside) = stands_there c.args.draft.now c.requires.whole c.args.at.block c.args.at.number c.requires.at in
    let number_is : c.in_ok-number.number ≡ length block.insts = c.in_ok-number.ensures.number ∙ (c.requires.whole.rows c.args.at.block block at).ordered in
    now_lists c.args.draft.now c.requires.whole c.args.at.block c.args.at.number block at inside c.args.inst (c.requires.room block at) c.requires.known c.push_inst.new.blocks c.in_ok-push_inst.ensures c.in_ok-number.number number_is
    c.push_list.new.self c.in_ok-push_list.ensures.parameters c.in_ok-push_list.ensures.results

pub returns-clause-whole : goal.returns-clause-whole
returns-clause-whole c =
    let old = c.args.draft.now in
    let b = c.args.at.block in
    let (block, at, inside) = stands_there old c.requires.whole b c.args.at.number c.requires.at in
    let n : ℕ = c.in_ok-number.number in
    let number_is : c.in_ok-number.number ≡ length block.insts = c.in_ok-number.ensures.number ∙ (c.requires.whole.rows b block at).ordered in
    let arena : Function = (with_blocks old c.push_inst.new.blocks).arena in
    let new : Draft = record { arena = arena; facts = record { flow = old.facts.flow; uses = c.count_reads.new.uses }; orders = c.put_in_order.new.orders; stand = c.push_mark.new.stand; readers = c.list_reads.new.readers; dead_candidates = c.push.new.self; has_cycles = c.note_phi.new.has_cycles } in
    whole_put old new b c.args.at.number block c.args.inst c.requires.whole at (stands_marked old c.requires.whole b block at c.args.at.number c.requires.at).0 inside (c.requires.room block at) c.requires.known
    (record {
      arena = ap (λ (l : List Block). (with_blocks old l).arena) c.in_ok-push_inst.ensures;
      orders = c.in_ok-number.ensures.orders ∙ ap (λ (m : ℕ). slice_set old.orders.items b (put_before (get_or old.orders.items b []) c.args.at.number m)) number_is;
      stand = c.in_ok-push_mark.ensures;
      flow = refl;
      cycles = c.note_phi.ensures.0;
      uses = c.push_count.new.uses;
      use_parameters = c.in_ok-push_count.ensures.parameters;
      use_results = c.in_ok-push_count.ensures.results;
      counted = subst (λ (m : ℕ). let p : Place = record { block = b; number = m } in AreCounted (operands_at arena p) c.push_count.new.uses c.count_reads.new.uses) number_is c.in_ok-count_reads.ensures;
      readers = c.push_list.new.self;
      reader_parameters = c.in_ok-push_list.ensures.parameters;
      reader_results = c.in_ok-push_list.ensures.results;
      listed = subst (λ (m : ℕ). let p : Place = record { block = b; number = m } in AreListed p (operands_at arena p) c.push_list.new.self c.list_reads.new.readers) number_is c.in_ok-list_reads.ensures;
    })

pub returns-clause-arena : goal.returns-clause-arena
returns-clause-arena c = ap (λ (l : List Block). (with_blocks c.args.draft.now l).arena) c.in_ok-push_inst.ensures

pub returns-clause-place : goal.returns-clause-place
returns-clause-place c =
    let (block, at, inside) = stands_there c.args.draft.now c.requires.whole c.args.at.block c.args.at.number c.requires.at in
    (refl, c.in_ok-number.ensures.number ∙ (c.requires.whole.rows c.args.at.block block at).ordered ∙ sym (end_of-is c.args.draft.now.arena c.args.at.block block at))

pub returns-clause-numbers : goal.returns-clause-numbers
returns-clause-numbers c =
    let old = c.args.draft.now in
    let b = c.args.at.block in
    let (block, at, inside) = stands_there old c.requires.whole b c.args.at.number c.requires.at in
    let tables = in_tables old c.requires.whole b c.args.at.number block at inside in
    let rows = c.requires.whole.rows b block at in
    let end : ℕ = end_of old.arena b in
    let end_is : end_of old.arena b ≡ length block.insts = end_of-is old.arena b block at in
    let number_is : c.in_ok-number.number ≡ end_of old.arena b = c.in_ok-number.ensures.number ∙ rows.ordered ∙ sym end_is in
    let order : List ℕ = get_or old.orders.items b [] in
    let marks : List Bool = get_or old.stand.items b [] in
    ap (λ (s : List (List Bool)). standing s c.put_in_order.new.orders.items) c.in_ok-push_mark.ensures
    ∙ ap (standing (slice_set old.stand.items b (marks ++ true ∷ []))) (c.in_ok-number.ensures.orders ∙ ap (λ (m : ℕ). slice_set old.orders.items b (put_before order c.args.at.number m)) number_is)
    ∙ standing_changed old.stand.items old.orders.items b marks (marks ++ true ∷ []) order (put_before order c.args.at.number end) (λ (row : List ℕ). put_before row c.args.at.number end)
    (slice_get-get_or old.stand.items b [] tables.stand) (slice_get-get_or old.orders.items b [] tables.orders)
    (put_standing marks order c.args.at.number end (end_is ∙ sym rows.marked) (λ k m is. let less = rows.ordering.below k m is in let size = rows.marked in omega arith)
    (stands_marked old c.requires.whole b block at c.args.at.number c.requires.at).1)

pub returns-clause-orders : goal.returns-clause-orders
returns-clause-orders c =
    let old = c.args.draft.now in
    let order : List ℕ = get_or old.orders.items c.args.at.block [] in
    subst (KeepsOrders old.orders.items)
    (sym (c.in_ok-number.ensures.orders ∙ ap (λ (m : ℕ). slice_set old.orders.items c.args.at.block (put_before order c.args.at.number m)) c.in_ok-number.ensures.number))
    (next-keeps old c.args.at c.requires.whole c.requires.at)

pub returns-clause-dead_candidates : goal.returns-clause-dead_candidates
returns-clause-dead_candidates c =
    let old = c.args.draft.now in
    let (block, at, inside) = stands_there old c.requires.whole c.args.at.block c.args.at.number c.requires.at in
    c.in_ok-push.ensures.items
    ∙ ap (λ (m : ℕ). old.dead_candidates.items ++ registers.Result c.args.at.block m ∷ []) (c.in_ok-number.ensures.number ∙ (c.requires.whole.rows c.args.at.block block at).ordered ∙ sym (end_of-is old.arena c.args.at.block block at))
