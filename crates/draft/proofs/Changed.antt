-- A draft keeps its invariant where the operands at one place of its arena change.
use Rattle.draft.proofs.Common.{◌≡◌, ◌⊎◌, inl, inr, ℕ, ◌<◌, Bool, false, List, [], ◌∷◌, length, get_or, slice_set, Some, sym, ap, subst, ◌∙◌, arith, get_or-set_other, get_or-set_same, Contains, slice_get, slice_get_within, IsBlock, IsKnown, Block, Function, Inst, Operand, operands_of, Uses, gone, inst_changed, with_inst_removed, with_block, AreCounted, operands_at, AreRowsOf, HasNoPhi, IsWhole, Draft, Place, changed_length, only_one, AreFew, DiffersAt, IsListedToo, reads_known, still_facts, still_known, still_readers}
use Rattle.std.proofs.lemmas.List.{length-set}
use Rattle.ir_core.specs.declared.operand.Operand.TheVariants as operands
use Rattle.draft.proofs.Cycles.{no_cycles_stay, no_phi_changed}
use Rattle.draft.proofs.Exchanging.{block_cases, inst_count, inst_differs, read_now, still_few}
use Rattle.draft.proofs.Wholeness.{all_known, few_insts, rows_less}

-- the tables follow the change: the counts of the old operands at the place are taken back, its new ones are counted,
-- and the place is in their use lists
pub record IsRecounted (old new : Draft) (p : Place) : Type 0 where
  pub mid : Uses
  pub flow : new.facts.flow ≡ old.facts.flow
  pub cycles : new.has_cycles ≡ old.has_cycles
  pub forgotten : AreCounted (operands_at old.arena p) mid old.facts.uses
  pub counted : AreCounted (operands_at new.arena p) mid new.facts.uses
  pub listed : IsListedToo p (operands_at new.arena p) old.readers new.readers

pub whole_changed : (old new : Draft) (p : Place) → IsWhole old → DiffersAt old.arena new.arena p → IsRecounted old new p → AreFew new.arena
    → length new.arena.blocks ≡ length old.arena.blocks → length new.orders.items ≡ length old.orders.items → length new.stand.items ≡ length old.stand.items
    → ((b : ℕ) (block : Block) → IsBlock new.arena b block → AreRowsOf block (get_or new.orders.items b []) (get_or new.stand.items b []))
    → ((a : Operand) → Contains (operands_at new.arena p) a → IsKnown old.arena a)
    → (HasNoPhi old.arena → HasNoPhi new.arena)
    → IsWhole new
whole_changed old new p whole differs recounted few blocks orders stand rows known no_phi = record {
  few = let few_blocks = whole.few in omega arith;
  ordered = orders ∙ whole.ordered ∙ sym blocks;
  marked = stand ∙ whole.marked ∙ sym blocks;
  rows = rows;
  known = reads_known new.arena few (still_known old.arena new.arena p differs (all_known old whole) known);
  facts = still_facts old.arena new.arena p differs old.facts new.facts recounted.mid whole.facts recounted.flow recounted.forgotten recounted.counted;
  readers = still_readers old.arena new.arena p differs old.readers new.readers whole.readers recounted.listed;
  cycles = λ none. no_cycles_stay old.arena new.arena differs.flow no_phi (whole.cycles (sym recounted.cycles ∙ none));
}

-- ---- an instruction is changed

module _ (old new : Draft) (b n : ℕ) (change : Inst → Inst) (whole : IsWhole old) (block : Block) (inst : Inst) (at : IsBlock old.arena b block) (here : slice_get block.insts n ≡ Some inst)
    (arena : new.arena ≡ with_block old.arena b (inst_changed n change)) where
  abbrev place : Place
  place = record { block = b; number = n }

  pub differs : DiffersAt old.arena new.arena place
  differs = subst (λ (f : Function). DiffersAt old.arena f place) (sym arena) (inst_differs old.arena (few_insts old whole) b n change block inst at here)

  pub few : AreFew new.arena
  few = subst AreFew (sym arena) (still_few old.arena b (inst_changed n change) block at (inst_count old.arena (few_insts old whole) b n change block inst at here) (few_insts old whole))

  pub blocks_count : length new.arena.blocks ≡ length old.arena.blocks
  blocks_count = ap (λ (f : Function). length f.blocks) arena ∙ changed_length b (inst_changed n change) old.arena.blocks

  pub reads : operands_at new.arena place ≡ operands_of (change inst).op
  reads = ap (λ (f : Function). operands_at f place) arena ∙ read_now old.arena (few_insts old whole) b n change block inst at here

  pub block_of_new : (c : ℕ) (x : Block) → IsBlock new.arena c x → ((c ≡ b) × (x ≡ inst_changed n change block)) ⊎ (¬ (c ≡ b) × IsBlock old.arena c x)
  block_of_new c x is = block_cases old.arena b (inst_changed n change) block at c x (ap (λ (f : Function). slice_get f.blocks c) (sym arena) ∙ is)

  pub reads_are_known : ((a : Operand) → Contains (operands_of (change inst).op) a → IsKnown old.arena a) → (a : Operand) → Contains (operands_at new.arena place) a → IsKnown old.arena a
  reads_are_known known a there = known a (subst (λ (l : List Operand). Contains l a) reads there)

-- an instruction that is removed
pub whole_taken_out : (old new : Draft) (b n : ℕ) (block : Block) (was : Inst) → IsWhole old → IsBlock old.arena b block → slice_get block.insts n ≡ Some was
    → new.arena ≡ with_inst_removed old.arena b n → new.orders.items ≡ old.orders.items → new.stand.items ≡ slice_set old.stand.items b (slice_set (get_or old.stand.items b []) n false)
    → IsRecounted old new (record { block = b; number = n }) → IsWhole new
whole_taken_out old new b n block was whole at here arena orders stand recounted =
    let row : List Bool = slice_set (get_or old.stand.items b []) n false in
    let within : b < length old.stand.items = omega (arith, slice_get_within old.arena.blocks b block at, whole.marked) in
    whole_changed old new (record { block = b; number = n }) whole (differs old new b n gone whole block was at here arena) recounted (few old new b n gone whole block was at here arena)
    (blocks_count old new b n gone whole block was at here arena) (ap length orders) (ap length stand ∙ length-set old.stand.items b row)
    (λ c x is. subst (λ (rows : List (List ℕ)). AreRowsOf x (get_or rows c []) (get_or new.stand.items c [])) (sym orders)
    (subst (λ (rows : List (List Bool)). AreRowsOf x (get_or old.orders.items c []) (get_or rows c [])) (sym stand)
    (elim (block_of_new old new b n gone whole block was at here arena c x is) [
      | inl (same, x_is) ↦
          subst (λ (z : Block). AreRowsOf z (get_or old.orders.items c []) (get_or (slice_set old.stand.items b row) c [])) (sym x_is)
          (subst (λ (d : ℕ). AreRowsOf (inst_changed n gone block) (get_or old.orders.items d []) (get_or (slice_set old.stand.items b row) d [])) (sym same)
          (subst (λ (marks : List Bool). AreRowsOf (inst_changed n gone block) (get_or old.orders.items b []) marks) (sym (get_or-set_same old.stand.items b row [] within))
          (rows_less block (get_or old.orders.items b []) (get_or old.stand.items b []) n (whole.rows b block at))))
      | inr (apart, before) ↦ subst (λ (marks : List Bool). AreRowsOf x (get_or old.orders.items c []) marks) (sym (get_or-set_other old.stand.items b c row [] apart)) (whole.rows c x before)
    ])))
    (reads_are_known old new b n gone whole block was at here arena (λ a there. poison_known old.arena a there))
    (λ no_phi. subst HasNoPhi (sym arena) (no_phi_changed old.arena b block at no_phi n gone (λ i other phi. phi)))
  where
    poison_known : (f : Function) (a : Operand) → Contains (operands.Poison ∷ []) a → IsKnown f a
    poison_known f a there = subst (IsKnown f) (only_one operands.Poison a there) tt
