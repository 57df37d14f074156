-- A function as written and the one that it means, by place.
use Rattle.ir_reader.proofs.Common.{◌≡◌, inl, inr, ℕ, zero, suc, ◌<◌, ◌==◌, Bool, true, false, if◌then◌else◌, List, [], ◌∷◌, length, map, None, Some, refl, sym, ap, subst, ◌∙◌, arith, slice_get, option_map, AllZip, cases_lt, slice_get_past, same_Some, Number, Function, Op, Operand, Register, Terminator, IsFirstUnassigned, targets_of, IsBlock, Names, Read, read, end_of, reads_of, reads_at_end, reads_by, reads_at, Identifier, RawFunction, RawBlock, RawArguments, RawOp, RawTerminator, RawOperand, RawValue, RawIncoming, RawCase, Thing, Calls, Typed, typed, read_by, read_at_end, read_by_call, Means, ValueMeans, BlockMeans, IncomingMeans, OpMeans, InstMeans, CaseMeans, EndMeans, BlockIsOf, ArgumentsMean, Fault, IrFaultKind, Refusal, IfRefused, IsUnassignedFault, written_by, written_at}
use Rattle.ir_core.specs.declared.function.Block.{Block as CoreBlock}
use Rattle.ir_core.specs.declared.instruction.Op.TheVariants as core
use Rattle.ir_core.specs.declared.operand.Operand.TheVariants as operands
use Rattle.ir_core.specs.declared.terminator.Terminator.TheVariants as ends
use Rattle.ir_tokens.specs.declared.raw.RawArguments.TheVariants as arguments
use Rattle.ir_tokens.specs.declared.raw.RawOp.TheVariants as ops
use Rattle.ir_tokens.specs.declared.raw.RawTerminator.TheVariants as terminators
use Rattle.ir_tokens.specs.declared.raw.RawValue.TheVariants as values
use Rattle.ir_tokens.specs.declared.fault.IrFaultKind.TheVariants as kinds
use Rattle.refusal.specs.declared.refusal.Refusal.TheVariants as errors
use Rattle.ir_reader.proofs.Places.{same_at, there, somewhere, zip_left, zip_right, zip_length}

module _ (CallsThing : Identifier → Thing → Type 0) where
  -- ---- blocks that are named

  case_named : (ws : List RawCase) (cases : List (Number × ℕ)) (k c : ℕ) → AllZip (CaseMeans CallsThing) ws cases → slice_get (map (λ e. e.1) cases) k ≡ Some c → (x : Identifier) × BlockMeans CallsThing x c
  case_named [] [] k c all at = cc
  case_named [] (e ∷ cases) k c all at = absurd all
  case_named (w ∷ ws) [] k c all at = absurd all
  case_named (w ∷ ws) (e ∷ cases) zero c all at = let same : e.1 ≡ c = cc in (w.target.identifier, subst (BlockMeans CallsThing w.target.identifier) same all.0.1)
  case_named (w ∷ ws) (e ∷ cases) (suc k) c all at = case_named ws cases k c all.1 at

  -- a block that a terminator names is written as an identifier that refers to it
  named : (w : RawTerminator) (t : Terminator) (k c : ℕ) → EndMeans CallsThing w t → slice_get (targets_of t) k ≡ Some c → (x : Identifier) × BlockMeans CallsThing x c
  named (terminators.Return width a) (ends.Return x) k c means at = cc
  named terminators.Unreachable ends.Unreachable k c means at = cc
  named (terminators.Jump to) (ends.Jump b) zero c means at = let same : b ≡ c = cc in (to.identifier, subst (BlockMeans CallsThing to.identifier) same means)
  named (terminators.Jump to) (ends.Jump b) (suc k) c means at = cc
  named (terminators.Branch width w to other) (ends.Branch x a b) zero c means at = let same : a ≡ c = cc in (to.identifier, subst (BlockMeans CallsThing to.identifier) same means.1)
  named (terminators.Branch width w to other) (ends.Branch x a b) (suc zero) c means at = let same : b ≡ c = cc in (other.identifier, subst (BlockMeans CallsThing other.identifier) same means.2)
  named (terminators.Branch width w to other) (ends.Branch x a b) (suc (suc k)) c means at = cc
  named (terminators.Switch width a other ws) (ends.Switch x w b cases) zero c means at = let same : b ≡ c = cc in (other.identifier, subst (BlockMeans CallsThing other.identifier) same means.2)
  named (terminators.Switch width a other ws) (ends.Switch x w b cases) (suc k) c means at = case_named ws cases k c means.3 at
  named w t k c means at = absurd means

  -- ---- operands

  abbrev pub ReadMeans : Typed → Read → Type 0
  ReadMeans t r = ValueMeans CallsThing t.operand.value r.operand

  incoming_reads : (f : Function) (width wide : ℕ) (ws : List RawIncoming) (entries : List (Operand × ℕ)) → AllZip (IncomingMeans CallsThing) ws entries
      → AllZip ReadMeans (map (λ i. typed width i.value) ws) (map (λ e. read e.1 (end_of f e.1) wide e.0) entries)
  incoming_reads f width wide [] [] all = tt
  incoming_reads f width wide [] (e ∷ entries) all = absurd all
  incoming_reads f width wide (w ∷ ws) [] all = absurd all
  incoming_reads f width wide (w ∷ ws) (e ∷ entries) all = (all.0.0, incoming_reads f width wide ws entries all.1)

  call_reads : (f : Function) (b k width : ℕ) (w : RawArguments) (op : Op) → ArgumentsMean CallsThing w op → AllZip ReadMeans (read_by_call w) (reads_of f b k width op)
  call_reads f b k wide (arguments.Binary op a c) (core.Binary opcode set x y) means = (means.2, (means.3, tt))
  call_reads f b k wide (arguments.Unary op a truth) (core.Unary intrinsic t x) means = (means.2, tt)
  call_reads f b k wide w op means = absurd means

  op_reads : (f : Function) (b k width : ℕ) (w : RawOp) (op : Op) → OpMeans CallsThing w op → AllZip ReadMeans (read_by w) (reads_of f b k width op)
  op_reads f b k wide (ops.Binary op flags width a c) (core.Binary opcode set x y) means = (means.2, (means.3, tt))
  op_reads f b k wide (ops.Compare pred samesign width a c) (core.Compare p s w x y) means = (means.3, (means.4, tt))
  op_reads f b k wide (ops.Call w) op means = call_reads f b k wide w.arguments op means
  op_reads f b k wide (ops.Select d a c) (core.Select z x y) means = (means.0, (means.1, (means.2, tt)))
  op_reads f b k wide (ops.Convert cast flags from a to) (core.Convert d g w x) means = (means.3, tt)
  op_reads f b k wide (ops.Freeze width a) (core.Freeze x) means = (means, tt)
  op_reads f b k wide (ops.Phi width ws) (core.Phi entries) means = incoming_reads f width wide ws entries means
  op_reads f b k wide w op means = absurd means

  end_reads : (f : Function) (b k : ℕ) (w : RawTerminator) (t : Terminator) → EndMeans CallsThing w t → AllZip ReadMeans (read_at_end w) (reads_at_end f b k t)
  end_reads f b k (terminators.Return width a) (ends.Return x) means = (means, tt)
  end_reads f b k terminators.Unreachable ends.Unreachable means = tt
  end_reads f b k (terminators.Jump to) (ends.Jump c) means = tt
  end_reads f b k (terminators.Branch width w to other) (ends.Branch x a c) means = (means.0, tt)
  end_reads f b k (terminators.Switch width a other ws) (ends.Switch x w c cases) means = (means.1, tt)
  end_reads f b k w t means = absurd means

abbrev fault_at : ℕ → Identifier → ℕ → Fault IrFaultKind
fault_at line name b = record { line = line; kind = kinds.Unassigned name b }

-- ---- the function

module _ (raw : RawFunction) (f : Function) (means : Means raw f) where
  pub same_count : length f.blocks ≡ length raw.blocks
  same_count = zip_length (BlockIsOf (Calls raw)) raw.blocks f.blocks means.blocks

  pub block_written : (b : ℕ) (block : CoreBlock) → IsBlock f b block → (w : RawBlock) × (slice_get raw.blocks b ≡ Some w) × BlockIsOf (Calls raw) w block
  block_written b block at = zip_right (BlockIsOf (Calls raw)) raw.blocks f.blocks b block means.blocks at

  pub block_meant : (b : ℕ) (w : RawBlock) → slice_get raw.blocks b ≡ Some w → (block : CoreBlock) × IsBlock f b block × BlockIsOf (Calls raw) w block
  block_meant b w at = zip_left (BlockIsOf (Calls raw)) raw.blocks f.blocks b w means.blocks at

  -- the blocks that terminators name are blocks of the function
  pub targets_within : (b c : ℕ) → Names f b c → c < length f.blocks
  targets_within b c (block, at, among) =
      let (w, w_at, is) = block_written b block at in
      let (k, here) = somewhere (targets_of block.end) c among in
      let (x, calls) = named (Calls raw) w.end block.end k c is.2 here in
      let within : c < length raw.blocks = calls.0 in
      omega (arith, same_count)

  -- blocks have as many instructions as are written
  pub insts_count : (b : ℕ) (w : RawBlock) (block : CoreBlock) → slice_get raw.blocks b ≡ Some w → IsBlock f b block → length w.insts ≡ length block.insts
  insts_count b w block w_at at =
      let (w', w'_at, is) = block_written b block at in
      sym (zip_length (InstMeans (Calls raw)) w'.insts block.insts is.1 ∙ ap (λ (x : RawBlock). length x.insts) (same_at raw.blocks b w' w w'_at w_at))

  -- ---- reads

  place_reads : (b k : ℕ) (w : RawBlock) (block : CoreBlock) → BlockIsOf (Calls raw) w block → AllZip (ReadMeans (Calls raw)) (written_by k w (slice_get w.insts k)) (reads_by f b k block (slice_get block.insts k))
  place_reads b k w block is = elim (cases_lt k (length w.insts)) [
    | inl lt ↦
        let (inst, here) = there w.insts k lt in
        let (meant, there', all) = zip_left (InstMeans (Calls raw)) w.insts block.insts k inst is.1 here in
        rw (here, there') (op_reads (Calls raw) f b k meant.width inst.op meant.op all.2)
    | inr ge ↦
        let long = zip_length (InstMeans (Calls raw)) w.insts block.insts is.1 in
        rw (slice_get_past w.insts k ge, slice_get_past block.insts k (omega arith), long) (at_end (k == length w.insts) w block is.2)
  ]
    where
      at_end : (b' : Bool) (w : RawBlock) (block : CoreBlock) → EndMeans (Calls raw) w.end block.end → AllZip (ReadMeans (Calls raw)) (if b' then read_at_end w.end else []) (if b' then reads_at_end f b k block.end else [])
      at_end true w block means = end_reads (Calls raw) f b k w.end block.end means
      at_end false w block means = tt

  -- the operands that are written at a place mean those that are read there
  pub reads_written : (b k : ℕ) → AllZip (ReadMeans (Calls raw)) (written_at raw b k) (reads_at f b k)
  reads_written b k = elim (cases_lt b (length raw.blocks)) [
    | inl lt ↦
        let (w, w_at) = there raw.blocks b lt in
        let (block, at, is) = block_meant b w w_at in
        rw (w_at, at) (place_reads b k w block is)
    | inr ge ↦ rw (slice_get_past raw.blocks b ge, slice_get_past f.blocks b (omega (arith, same_count))) tt
  ]

  -- a register that is read is written there as an identifier
  pub record WrittenRead (b k i : ℕ) : Type 0 where
    pub operand : Typed
    pub at : slice_get (written_at raw b k) i ≡ Some operand
    pub name : Identifier
    pub named : operand.operand.value ≡ values.Register name

  register_named : (v : RawValue) (o : Operand) (r : Register) → o ≡ operands.Register r → ValueMeans (Calls raw) v o → (x : Identifier) × (v ≡ values.Register x)
  register_named (values.Register x) o r is means = (x, refl)
  register_named (values.Number n) (operands.Register r) s is means = absurd means
  register_named values.True (operands.Register r) s is means = absurd means
  register_named values.False (operands.Register r) s is means = absurd means
  register_named values.Undef (operands.Register r) s is means = absurd means
  register_named values.Poison (operands.Register r) s is means = absurd means
  register_named v (operands.Number n) s is means = cc
  register_named v operands.Undef s is means = cc
  register_named v operands.Poison s is means = cc

  pub written_read : (register : Register) (b k i : ℕ) → IsFirstUnassigned f register b k i → WrittenRead b k i
  written_read register b k i first =
      let (t, at, means) = zip_right (ReadMeans (Calls raw)) (written_at raw b k) (reads_at f b k) i first.read (reads_written b k) first.is_read in
      let (name, named) = register_named t.operand.value first.read.operand register first.reads means in
      record { operand = t; at = at; name = name; named = named }

  -- the operand that the code looks up is the one that is written
  pub found_operand : (b k i : ℕ) (r : WrittenRead b k i) (o : RawOperand) → Some o ≡ option_map (λ t. t.operand) (slice_get (written_at raw b k) i) → o ≡ r.operand.operand
  found_operand b k i r o found = same_Some o r.operand.operand (found ∙ ap (option_map (λ (t : Typed). t.operand)) r.at)

  pub not_found : (b k i : ℕ) → WrittenRead b k i → None ≡ option_map (λ (t : Typed). t.operand) (slice_get (written_at raw b k) i) → ⊥
  not_found b k i r found = let is = found ∙ ap (option_map (λ (t : Typed). t.operand)) r.at in cc

  pub unassigned_fault : (e : Refusal (Fault IrFaultKind)) (register : Register) (b k i : ℕ) → IsFirstUnassigned f register b k i → (o : RawOperand) → Some o ≡ option_map (λ t. t.operand) (slice_get (written_at raw b k) i)
      → IfRefused e (λ fault. (name : Identifier) × (o.value ≡ values.Register name) × (fault ≡ record { line = o.line; kind = kinds.Unassigned name b })) → IfRefused e (IsUnassignedFault raw f)
  unassigned_fault (errors.Refused fault) register b k i first o found (name, named, is) =
      let r = written_read register b k i first in
      let same = found_operand b k i r o found in
      record {
        register = register;
        b = b;
        k = k;
        i = i;
        first = first;
        operand = r.operand;
        is_written = r.at;
        name = name;
        is_named = ap (λ (x : RawOperand). x.value) (sym same) ∙ named;
        is_fault = is ∙ ap (λ (x : RawOperand). fault_at x.line name b) same;
      }
  unassigned_fault errors.NoMemory register b k i first o found h = tt
