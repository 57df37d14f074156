-- A draft keeps its invariant where an instruction is inserted before another.
use Rattle.draft.proofs.Common.{◌≡◌, inl, inr, ℕ, zero, suc, ◌+◌, ◌<◌, ◌≤◌, Bool, true, List, [], ◌∷◌, ◌++◌, length, get_or, slice_set, All, sym, ap, subst, ◌∙◌, arith, get_or-set_other, get_or-set_same, Contains, IsFalse, slice_get, All-contains, slice_get_within, AreFactsOf, IsBlock, IsKnown, IsPhi, Read, IsRead, Block, Function, Inst, Operand, operands_of, Uses, inst_put, put_in, AreCounted, operands_at, none, put_before, AreListed, AreReadersOf, AreRowsOf, HasNoCycles, IsWhole, Draft, Place, Readers, changed_length, has_known, AreFew, reads_known, row_within}
use Rattle.std.proofs.lemmas.List.{length-set}
use Rattle.ir_core.specs.declared.operand.Register.TheVariants as registers
use Rattle.draft.proofs.Cycles.{no_cycles_stay, no_phi_put}
use Rattle.draft.proofs.Exchanging.{block_cases}
use Rattle.draft.proofs.Putting.{count_kept, facts_put, few_put, flow_put, known_put, list_kept, list_there, number_there, readers_put}
use Rattle.draft.proofs.Wholeness.{all_known, few_insts, rows_more}

-- what an insertion does: the arena and the order of the block have one more instruction, which stands; each table has
-- an entry for it; and its operands are counted and listed
pub record IsPut (old new : Draft) (b at : ℕ) (block : Block) (inst : Inst) : Type 0 where
  pub arena : new.arena ≡ put_in old.arena b inst
  pub orders : new.orders.items ≡ slice_set old.orders.items b (put_before (get_or old.orders.items b []) at (length block.insts))
  pub stand : new.stand.items ≡ slice_set old.stand.items b (get_or old.stand.items b [] ++ true ∷ [])
  pub flow : new.facts.flow ≡ old.facts.flow
  pub cycles : IsFalse new.has_cycles → IsFalse old.has_cycles × ¬ IsPhi inst.op
  pub uses : Uses
  pub use_parameters : uses.parameters ≡ old.facts.uses.parameters
  pub use_results : uses.results.items ≡ slice_set old.facts.uses.results.items b (get_or old.facts.uses.results.items b [] ++ 0 ∷ [])
  pub counted : AreCounted (operands_at new.arena (record { block = b; number = length block.insts })) uses new.facts.uses
  pub readers : Readers
  pub reader_parameters : readers.parameters ≡ old.readers.parameters
  pub reader_results : readers.results.items ≡ slice_set old.readers.results.items b (get_or old.readers.results.items b [] ++ [] ∷ [])
  pub listed : AreListed (record { block = b; number = length block.insts }) (operands_at new.arena (record { block = b; number = length block.insts })) readers new.readers

module _ (old : Draft) (whole : IsWhole old) (b : ℕ) (block : Block) (is_block : IsBlock old.arena b block) where
  -- tables have rows as long as the block
  pub number_row : (n : ℕ) → n < length block.insts → n < length (get_or old.facts.uses.results.items b [])
  number_row n within = whole.facts.uses.there (registers.Result b n) (has_known old.arena b n (block, is_block, within))

  pub list_row : (n : ℕ) → n < length block.insts → n < length (get_or old.readers.results.items b [])
  list_row n within = whole.readers.there (registers.Result b n) (has_known old.arena b n (block, is_block, within))

pub all_below : (n m : ℕ) → ((k : ℕ) → k < n → k < m) → n ≤ m
all_below zero m below = omega arith
all_below (suc n) m below = let last = below n (omega arith) in omega arith

pub whole_put : (old new : Draft) (b at : ℕ) (block : Block) (inst : Inst) → IsWhole old → IsBlock old.arena b block → Contains (get_or old.orders.items b []) at → at < length block.insts
    → length block.insts + 1 ≤ none → All (IsKnown old.arena) (operands_of inst.op) → IsPut old new b at block inst → IsWhole new
whole_put old new b at block inst whole is_block there inside room known put =
    let few = few_insts old whole in
    let n : ℕ = length block.insts in
    let p : Place = record { block = b; number = n } in
    let f' : Function = put_in old.arena b inst in
    let number_rows = number_row old whole b block is_block in
    let list_rows = list_row old whole b block is_block in
    let use_within : b < length old.facts.uses.results.items = row_within 0 old.facts.uses.results.items b at (number_rows at inside) in
    let list_within : b < length old.readers.results.items = row_within [] old.readers.results.items b at (list_rows at inside) in
    let use_low : n ≤ length (get_or old.facts.uses.results.items b []) = all_below n (length (get_or old.facts.uses.results.items b [])) number_rows in
    let list_low : n ≤ length (get_or old.readers.results.items b []) = all_below n (length (get_or old.readers.results.items b [])) list_rows in
    let few' : AreFew f' = few_put old.arena few b block is_block inst room in
    let reads_are_known : (a : Operand) → Contains (operands_of inst.op) a → IsKnown old.arena a = λ a h. All-contains (IsKnown old.arena) (operands_of inst.op) a known h in
    let blocks : length new.arena.blocks ≡ length old.arena.blocks = ap (λ (f : Function). length f.blocks) put.arena ∙ changed_length b (inst_put inst) old.arena.blocks in
    let order : List ℕ = put_before (get_or old.orders.items b []) at n in
    let marks : List Bool = get_or old.stand.items b [] ++ true ∷ [] in
    let block_within = slice_get_within old.arena.blocks b block is_block in
    let order_within : b < length old.orders.items = omega (arith, whole.ordered) in
    let stand_within : b < length old.stand.items = omega (arith, whole.marked) in
    record {
      few = let few_blocks = whole.few in omega arith;
      ordered = ap length put.orders ∙ length-set old.orders.items b order ∙ whole.ordered ∙ sym blocks;
      marked = ap length put.stand ∙ length-set old.stand.items b marks ∙ whole.marked ∙ sym blocks;
      rows = λ c x is. subst (λ (rows : List (List ℕ)). AreRowsOf x (get_or rows c []) (get_or new.stand.items c [])) (sym put.orders)
          (subst (λ (rows : List (List Bool)). AreRowsOf x (get_or (slice_set old.orders.items b order) c []) (get_or rows c [])) (sym put.stand)
          (elim (block_cases old.arena b (inst_put inst) block is_block c x (ap (λ (f : Function). slice_get f.blocks c) (sym put.arena) ∙ is)) [
            | inl (same, x_is) ↦
                subst (λ (z : Block). AreRowsOf z (get_or (slice_set old.orders.items b order) c []) (get_or (slice_set old.stand.items b marks) c [])) (sym x_is)
                (subst (λ (d : ℕ). AreRowsOf (inst_put inst block) (get_or (slice_set old.orders.items b order) d []) (get_or (slice_set old.stand.items b marks) d [])) (sym same)
                (subst (λ (l : List ℕ). AreRowsOf (inst_put inst block) l (get_or (slice_set old.stand.items b marks) b [])) (sym (get_or-set_same old.orders.items b order [] order_within))
                (subst (λ (l : List Bool). AreRowsOf (inst_put inst block) order l) (sym (get_or-set_same old.stand.items b marks [] stand_within))
                (rows_more block (get_or old.orders.items b []) (get_or old.stand.items b []) at inst (whole.rows b block is_block) there room))))
            | inr (apart, before) ↦
                subst (λ (l : List ℕ). AreRowsOf x l (get_or (slice_set old.stand.items b marks) c [])) (sym (get_or-set_other old.orders.items b c order [] apart))
                (subst (λ (l : List Bool). AreRowsOf x (get_or old.orders.items c []) l) (sym (get_or-set_other old.stand.items b c marks [] apart))
                (whole.rows c x before))
          ]));
      known = subst (λ (f : Function). (c k i : ℕ) (r : Read) → IsRead f c k i r → IsKnown f r.operand) (sym put.arena)
          (reads_known f' few' (known_put old.arena few b block is_block inst room (all_known old whole) reads_are_known));
      facts = subst (λ (f : Function). AreFactsOf f new.facts) (sym put.arena)
          (facts_put old.arena few b block is_block inst room old.facts new.facts put.uses whole.facts put.flow
          (number_there old.facts.uses put.uses b n use_within use_low put.use_parameters put.use_results)
          (count_kept old.facts.uses put.uses b n use_within use_low put.use_parameters put.use_results)
          (subst (λ (f : Function). AreCounted (operands_at f p) put.uses new.facts.uses) put.arena put.counted));
      readers = subst (λ (f : Function). AreReadersOf f new.readers) (sym put.arena)
          (readers_put old.arena few b block is_block inst room old.readers put.readers new.readers whole.readers
          (list_there old.readers put.readers b n list_within list_low put.reader_parameters put.reader_results)
          (list_kept old.readers put.readers b n list_within list_low put.reader_parameters put.reader_results)
          (subst (λ (f : Function). AreListed p (operands_at f p) put.readers new.readers) put.arena put.listed));
      cycles = λ none.
          let (before, no_phi) = put.cycles none in
          subst HasNoCycles (sym put.arena)
          (no_cycles_stay old.arena f' (flow_put old.arena few b block is_block inst room) (λ phis. no_phi_put old.arena b block is_block phis inst no_phi) (whole.cycles before));
    }
