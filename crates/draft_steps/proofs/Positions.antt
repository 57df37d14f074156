-- What an instruction of the arena reads, in the function: by positions, assigned at its own, and those of its block
-- before it.
use Rattle.draft_steps.proofs.Common.{◌≡◌, ℕ, ◌<◌, List, Some, sym, ap, ◌∙◌, Contains, slice_get, MeetsChecks, IsAssigned, IsInst, IsPhi, IsRead, Read, reads_of, IsReached, Function, Inst, Op, Binary, Compare, Unary, Select, Convert, Freeze, Phi, Operand, get_from_map, get-map, Substitution, substituted_inst, substituted_op, substituted_operand, ReadsStandBefore, read_assigned, reads_at_inst, placed, AreArranged, arranged, row_of}
use Rattle.ir_core.specs.declared.operand.Operand.TheVariants as operands
use Rattle.ir_core.specs.declared.operand.Register.TheVariants as registers
use Rattle.places.specs.Orders.{place_in}
use Rattle.draft_steps.proofs.Places.{inst_on, reached_on}
use Rattle.draft_steps.proofs.Reading.{operands_read, reads_substituted}

-- a substitution makes no phi
was_phi : (to : Substitution) (op : Op) → IsPhi (substituted_op to op) → IsPhi op
was_phi to (Binary op flags x y) phi = phi
was_phi to (Compare pred samesign width x y) phi = phi
was_phi to (Unary op truth x) phi = phi
was_phi to (Select c x y) phi = phi
was_phi to (Convert cast flags from x) phi = phi
was_phi to (Freeze x) phi = phi
was_phi to (Phi entries) phi = phi

module _ (arena : Function) (rows : List (List ℕ)) (are : AreArranged arena rows) where
  abbrev F : Function
  F = arranged arena rows

  pub read_on : (b p i : ℕ) (inst : Inst) (r : Read) → Contains (row_of rows b) p → IsInst arena b p inst → IsRead arena b p i r
      → (r' : Read) × IsRead F b (place_in (row_of rows b) p) i r' × (r'.operand ≡ substituted_operand (placed rows) r.operand)
  read_on b p i inst r has is_inst is_read =
      let k : ℕ = place_in (row_of rows b) p in
      let there : IsInst F b k (substituted_inst (placed rows) inst) = inst_on arena rows are b p inst has is_inst in
      let old : slice_get (reads_of arena b p inst.width inst.op) i ≡ Some r = ap (λ (l : List Read). slice_get l i) (sym (reads_at_inst arena b p inst is_inst)) ∙ is_read in
      let new : slice_get (operands_read (reads_of F b k inst.width (substituted_op (placed rows) inst.op))) i ≡ Some (substituted_operand (placed rows) r.operand) =
      ap (λ (l : List Operand). slice_get l i) (reads_substituted (placed rows) arena F b p k inst.width inst.op)
      ∙ get-map (substituted_operand (placed rows)) (operands_read (reads_of arena b p inst.width inst.op)) i r.operand (get-map (λ (x : Read). x.operand) (reads_of arena b p inst.width inst.op) i r old) in
      let (r', at, is) = get_from_map (λ (x : Read). x.operand) (reads_of F b k inst.width (substituted_op (placed rows) inst.op)) i (substituted_operand (placed rows) r.operand) new in
      (r', ap (λ (l : List Read). slice_get l i) (reads_at_inst F b k (substituted_inst (placed rows) inst) there) ∙ at, is)

  -- what it reads is assigned at its position, if it is no phi
  pub assigned_up : MeetsChecks F → (d q i e p : ℕ) (inst : Inst) (r : Read) → ¬ IsPhi inst.op → Contains (row_of rows d) q → IsInst arena d q inst → IsRead arena d q i r
      → r.operand ≡ operands.Register (registers.Result e p) → Contains (row_of rows e) p × IsAssigned F (registers.Result e (place_in (row_of rows e) p)) d (place_in (row_of rows d) q)
  assigned_up checks d q i e p inst r no_phi has is_inst is_read reads =
      let there : IsInst F d (place_in (row_of rows d) q) (substituted_inst (placed rows) inst) = inst_on arena rows are d q inst has is_inst in
      let now = read_on d q i inst r has is_inst is_read in (
        are.read_stands d q i e p r is_read reads,
        read_assigned F d (place_in (row_of rows d) q) i (substituted_inst (placed rows) inst) now.0 (registers.Result e (place_in (row_of rows e) p)) checks there
            (λ phi. no_phi (was_phi (placed rows) inst.op phi)) now.1 (now.2 ∙ ap (substituted_operand (placed rows)) reads),
      )

  -- what it reads of its own block stands before it, if it is no phi
  pub reads_up : ReadsStandBefore → MeetsChecks F → (b p q i : ℕ) (inst : Inst) (r : Read) → IsReached arena b → ¬ IsPhi inst.op → Contains (row_of rows b) p → IsInst arena b p inst → IsRead arena b p i r
      → r.operand ≡ operands.Register (registers.Result b q) → Contains (row_of rows b) q × (place_in (row_of rows b) q < place_in (row_of rows b) p)
  reads_up reads_before checks b p q i inst r reached no_phi has is_inst is_read reads =
      let there : IsInst F b (place_in (row_of rows b) p) (substituted_inst (placed rows) inst) = inst_on arena rows are b p inst has is_inst in
      let now = read_on b p i inst r has is_inst is_read in (
        are.read_stands b p i b q r is_read reads,
        reads_before F b (place_in (row_of rows b) p) (place_in (row_of rows b) q) i (substituted_inst (placed rows) inst) now.0 checks (reached_on arena rows are b reached) there
            (λ phi. no_phi (was_phi (placed rows) inst.op phi)) now.1 (now.2 ∙ ap (substituted_operand (placed rows)) reads),
      )
