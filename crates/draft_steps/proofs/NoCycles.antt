-- In the function of a draft that meets its checks, a register is assigned wherever it is read, but by a phi. That is a
-- strict order of the instructions in reached blocks.
use Rattle.draft_steps.proofs.Common.{ℕ, List, sym, ap, subst, ◌∙◌, Contains, slice_get, IsAssigned, Names, IsInst, IsPhi, MeetsChecks, Read, IsReached, Function, Inst, assignment_transitive, not_both_assigned, ReadsRegister, Substitution, substituted_inst, own_place, reads_at_inst, block_of, function_of, numbers_in, numbers_of, placed, Draft, no_phi_substituted, targets_stay}
use Rattle.ir_core.specs.declared.operand.Register.TheVariants as registers
use Rattle.places.specs.Orders.{place_in}
use Rattle.draft.proofs.InstsOf.{inst_at}
use Rattle.draft_steps.proofs.Needing.{AreRows, block_on, inst_on, place_of}
use Rattle.draft_steps.proofs.WhoReads.{InstReads}

-- the first instruction's register is assigned at the second, in the function
abbrev pub IsAssignedAt : Draft → ℕ × ℕ → ℕ × ℕ → Type 0
IsAssignedAt d p q = IsAssigned (function_of d) (registers.Result p.0 (place_in (numbers_in d p.0) p.1)) q.0 (place_in (numbers_in d q.0) q.1)

pub assigned_through : (d : Draft) (p q r : ℕ × ℕ) → IsAssignedAt d p q → IsAssignedAt d q r → IsAssignedAt d p r
assigned_through d p q r = assignment_transitive (function_of d) (registers.Result p.0 (place_in (numbers_in d p.0) p.1)) q.0 (place_in (numbers_in d q.0) q.1) r.0 (place_in (numbers_in d r.0) r.1)

pub not_at_itself : (d : Draft) (p : ℕ × ℕ) → IsReached (function_of d) p.0 → ¬ IsAssignedAt d p p
not_at_itself d p reached own = not_both_assigned (function_of d) p.0 (place_in (numbers_in d p.0) p.1) p.0 (place_in (numbers_in d p.0) p.1) reached own own

module _ (d : Draft) (good : AreRows d.arena (numbers_of d)) where
  abbrev F : Function
  F = function_of d

  abbrev to : Substitution
  to = placed (numbers_of d)

  pub names_on : (b c : ℕ) → Names d.arena b c → Names F b c
  names_on b c (block, is_block, named) =
      let (row, at) = good.row b block is_block in
      (block_of to row block, block_on d.arena (numbers_of d) good b block row is_block at, subst (λ (l : List ℕ). Contains l c) (sym (targets_stay to block.end)) named)

  pub assigned_there : MeetsChecks F → (b n c k : ℕ) (i : InstReads d.arena c k (registers.Result b n)) → Contains (numbers_in d c) k → ¬ IsPhi i.inst.op → IsAssignedAt d (b, n) (c, k)
  assigned_there checks b n c k i stands other =
      let (row, at) = good.row c i.block i.is_block in
      let p : ℕ = place_in (numbers_in d c) k in
      let q : ℕ = place_in (numbers_in d b) n in
      let inst : Inst = substituted_inst to i.inst in
      let here : IsInst F c p inst = record {
        block = block_of to row i.block;
        is_block = block_on d.arena (numbers_of d) good c i.block row i.is_block at;
        is_inst = inst_at to i.block.insts row p k i.inst (good.numbers c i.block row i.is_block at) (place_of d.arena (numbers_of d) good c i.block row k at stands) i.is_inst;
      } in
      let read : ReadsRegister F c p (registers.Result b q) = inst_on d.arena (numbers_of d) good c k (registers.Result b n) i stands in
      let (block_is, place_is) = own_place F c p inst.width inst.op (no_phi_substituted to i.inst.op other) read.operand read.read (ap (λ (l : List Read). slice_get l read.operand) (sym (reads_at_inst F c p inst here)) ∙ read.is_read) in
      subst (λ (m : ℕ). IsAssigned F (registers.Result b q) c m) place_is
      (subst (λ (x : ℕ). IsAssigned F (registers.Result b q) x read.read.place) block_is (checks.assigned c p read.operand read.read read.is_read (registers.Result b q) read.reads))
