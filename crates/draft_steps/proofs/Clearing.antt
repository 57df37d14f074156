-- When a draft has no dead code: every instruction that is left is live.
use Rattle.draft_steps.proofs.Common.{◌≡◌, ℕ, Bool, true, cond, inl, inr, List, [], ◌++◌, length, Option, None, Some, refl, sym, ap, subst, ◌∙◌, arith, Contains, slice_get, cases_eq, eq-eqb, ne_eqb, same_Some, slice_get_within, Names, targets_of, IsInst, MeetsChecks, end_of, Block, Function, Inst, Register, Terminator, one_inst, not_in_empty, IsNeeded, by_end, by_inst, ReadsRegister, AreLeft, AreRead, HaveInsts, IsBlockLeft, IsEliminating, IsNeededWith, KeepsUses, ReadsStand, Stands, function_of, numbers_in, numbers_of, orders_of, none, IsReader, HasNoCycles, IsWhole, Draft, Place, inst_there, reached_along, stands_there}
use Rattle.ir_core.specs.declared.operand.Operand.TheVariants as operands
use Rattle.ir_core.specs.declared.operand.Register.TheVariants as registers
use Rattle.needed.specs.Operands.{operands_of}
use Rattle.draft_steps.proofs.Leaving.{left_row}
use Rattle.draft_steps.proofs.Living.{needed_alone, needed_through}
use Rattle.draft_steps.proofs.Needing.{AreRows}
use Rattle.draft_steps.proofs.NoCycles.{IsAssignedAt, assigned_there, assigned_through, names_on, not_at_itself}
use Rattle.draft_steps.proofs.PutAll.{append_none}
use Rattle.draft_steps.proofs.RowPlaces.{kept_of}
use Rattle.draft_steps.proofs.Starting.{cleaning_begins}
use Rattle.draft_steps.proofs.Taking.{all_needed, cleaning_done, cleaning_dropping}
use Rattle.draft_steps.proofs.WhoReads.{InstReads, who}
use Rattle.draft_steps.proofs.WholeRows.{whole_rows}

-- what a terminator reads is live
pub end_needed : (f : Function) (p : Place) (r : Register) → IsReader f r p → p.number ≡ none → IsNeeded f r
end_needed f p r h end = by_end p.block (subst (λ (k : ℕ). ReadsRegister f p.block k r) (ap (λ c. cond c (end_of f p.block) p.number) (eq-eqb p.number none end)) h)

-- what is read at a place is live, where a terminator or a live instruction is there
pub read_needed : (f : Function) (p : Place) (r : Register) → IsReader f r p → IsNeeded f (registers.Result p.block p.number) → IsNeeded f r
read_needed f p r h need = elim (cases_eq p.number none) [
  | inl end ↦ end_needed f p r h end
  | inr inst ↦ by_inst p.block p.number need (subst (λ (k : ℕ). ReadsRegister f p.block k r) (ap (λ c. cond c (end_of f p.block) p.number) (ne_eqb p.number none inst)) h)
]

-- dead code elimination may begin with a worklist with which each instruction that stands would be live
pub cleaning_starts : (d : Draft) (waits : List Register) → ((b n : ℕ) → Stands d b n → IsNeededWith d.arena waits (registers.Result b n)) → IsEliminating d.arena (numbers_of d) d.arena (numbers_of d) (waits ++ [])
cleaning_starts d waits all =
    subst (λ (l : List Register). IsEliminating d.arena (numbers_of d) d.arena (numbers_of d) l) (sym (append_none waits))
    (cleaning_begins d.arena (numbers_of d) waits all)

module _ (old new : Draft) (whole : IsWhole old) (whole_now : IsWhole new) (roots : List Register) (is : IsEliminating old.arena (numbers_of old) new.arena (numbers_of new) roots) where
  was_kept : (b n : ℕ) → Stands new b n → Stands old b n × (is.keep b n ≡ true)
  was_kept b n stands =
      kept_of (is.keep b) (numbers_in old b) n (subst (λ (l : List ℕ). Contains l n) (left_row is.keep old.arena (numbers_of old) new.arena (numbers_of new) is.is_left b) stands)

  -- an instruction that stands stood before
  pub stood_first : (b n : ℕ) → Stands new b n → Stands old b n
  stood_first b n stands = (was_kept b n stands).0

  block_kept : (keep : ℕ → Bool) (o o' : Option Block) (x y : Block) → o ≡ Some x → o' ≡ Some y → AreLeft keep o o' → IsBlockLeft keep x y
  block_kept keep None o' x y at at' left = absurd cc
  block_kept keep (Some z) None x y at at' left = absurd cc
  block_kept keep (Some z) (Some z') x y at at' left = subst (λ (w : Block). IsBlockLeft keep w y) (same_Some z x at) (subst (IsBlockLeft keep z) (same_Some z' y at') left)

  -- and it is the same as before
  pub inst_left : (b n : ℕ) (inst : Inst) → Stands new b n → IsInst old.arena b n inst → IsInst new.arena b n inst
  inst_left b n inst stands at =
      let (block, is_block, lt) = stands_there new whole_now b n stands in
      let left : IsBlockLeft (is.keep b) at.block block = block_kept (is.keep b) (slice_get old.arena.blocks b) (slice_get new.arena.blocks b) at.block block at.is_block is_block (is.is_left.blocks b) in
      record { block = block; is_block = is_block; is_inst = left.kept n inst (was_kept b n stands).1 at.is_inst }

  -- and it reads what it read before
  read_first : (b k : ℕ) (r : Register) → Stands new b k → ReadsRegister new.arena b k r → (i : InstReads old.arena b k r) × IsInst new.arena b k i.inst
  read_first b k r stands h =
      elim (who new.arena b k r h) [
        | inr e ↦
            let (block, is_block, lt) = stands_there new whole_now b k stands in
            let same : block ≡ e.block = same_Some block e.block (sym is_block ∙ e.is_block) in
            let size = ap (λ (x : Block). length x.insts) same in
            let last = e.last in
            absurd (omega arith)
        | inl i ↦
            let (block, inst, is_block, here) = inst_there old.arena b k (stands_there old whole b k (stood_first b k stands)) in
            let now : IsInst new.arena b k inst = inst_left b k inst stands (record { block = block; is_block = is_block; is_inst = here }) in
            let same : i.inst ≡ inst = one_inst new.arena b k i.inst inst (record { block = i.block; is_block = i.is_block; is_inst = i.is_inst }) now in
            (record { block = block; is_block = is_block; inst = inst; is_inst = here; has = subst (λ (x : Inst). Contains (operands_of x.op) (operands.Register r)) same i.has }, now)
      ]

  -- and each block has the same successors
  names_first : (b c : ℕ) → Names new.arena b c → Names old.arena b c
  names_first b c (block, is_block, named) = by (slice_get old.arena.blocks b) (slice_get new.arena.blocks b) refl is_block (is.is_left.blocks b)
    where
      by : (o o' : Option Block) → slice_get old.arena.blocks b ≡ o → o' ≡ Some block → AreLeft (is.keep b) o o' → Names old.arena b c
      by None None at at' left = absurd cc
      by None (Some y) at at' left = absurd left
      by (Some x) None at at' left = absurd cc
      by (Some x) (Some y) at at' left =
          let end : block.end ≡ x.end = ap (λ (z : Block). z.end) (sym (same_Some y block at')) ∙ left.end in
          (x, at, subst (λ (t : Terminator). Contains (targets_of t) c) end named)

  -- without cycles, where each instruction that stands has a use, each is live
  pub needed_without_cycles : AreRows old.arena (numbers_of old) → MeetsChecks (function_of old) → HasNoCycles new.arena → AreRead new [] → (b n : ℕ) → Stands new b n → IsNeeded new.arena (registers.Result b n)
  needed_without_cycles good checks none read =
      all_needed new whole_now (IsAssignedAt old)
      (λ p stands.
      let (block, is_block, lt) = stands_there new whole_now p.0 p.1 stands in
      not_at_itself old p (reached_along new.arena (function_of old) (λ b c named. names_on old good b c (names_first b c named)) p.0 (none.reached p.0 (slice_get_within new.arena.blocks p.0 block is_block))))
      (assigned_through old)
      (λ b n c k stands h. let (i, now) = read_first c k (registers.Result b n) stands h in assigned_there old good checks b n c k i (stood_first c k stands) (none.no_phi c k i.inst now))
      read

-- a draft without dead code has none once it is cleaned again
module _ (f : Function) (rows : List (List ℕ)) (old new : Draft) (whole : IsWhole old) (whole_now : IsWhole new) (waits used : List Register) (clean : IsEliminating f rows old.arena (numbers_of old) [])
    (again : (f : Function) (rows : List (List ℕ)) → IsEliminating f rows old.arena (numbers_of old) waits → IsEliminating f rows new.arena (numbers_of new) used) where
  own : IsEliminating old.arena (numbers_of old) new.arena (numbers_of new) used
  own = again old.arena (numbers_of old) (cleaning_begins old.arena (numbers_of old) waits (λ b n stands.
      needed_through old.arena [] waits (λ r none. absurd (not_in_empty r none)) (registers.Result b n) (clean.waits b n stands)))

  pub cleaned_again : IsEliminating f rows new.arena (numbers_of new) []
  cleaned_again =
      cleaning_done new whole_now f rows used
      (λ b n among stands. own.needed (registers.Result b n) (needed_alone old.arena (registers.Result b n) (clean.waits b n (stood_first old new whole whole_now used own b n stands))))
      (again f rows (cleaning_dropping old whole f rows [] waits (λ r none. absurd (not_in_empty r none)) clean))

-- ---- a draft from which the instructions without uses were removed

module _ (old mid : Draft) (whole : IsWhole old) (whole_mid : IsWhole mid) (used : List Register)
    (is : IsEliminating old.arena (numbers_of old) mid.arena (numbers_of mid) used) where
  -- has no dead code where its def-use chains have no cycles
  pub clean_without_cycles : ReadsStand old → MeetsChecks (function_of old) → HasNoCycles mid.arena → AreRead mid [] → IsEliminating old.arena (numbers_of old) mid.arena (numbers_of mid) []
  clean_without_cycles stand checks none read =
      cleaning_done mid whole_mid old.arena (numbers_of old) used (λ b n among stands. needed_without_cycles old mid whole whole_mid used is (whole_rows old whole stand) checks none read b n stands) is

  -- and where the registers that lost a use and still have one are live
  pub clean_by_uses : ((b n : ℕ) → Contains used (registers.Result b n) → Stands mid b n → IsNeeded mid.arena (registers.Result b n)) → IsEliminating old.arena (numbers_of old) mid.arena (numbers_of mid) []
  clean_by_uses all = cleaning_done mid whole_mid old.arena (numbers_of old) used all is

-- what is said of a draft from which dead code was removed
pub record IsMadeClean (old new : Draft) (used : List Register) : Type 0 where
  pub whole : IsWhole new
  pub orders : orders_of new ≡ orders_of old
  pub none_fell : new.dead_candidates.items ≡ []
  pub cleaned : IsEliminating old.arena (numbers_of old) new.arena (numbers_of new) []
  pub have : HaveInsts new used
  pub reads : (was : Draft) → KeepsUses was old old.dead_candidates.items → KeepsUses was new used
