-- The function that is meant has the forms that what is written has.
use Rattle.ir_round_trip.proofs.Common.{◌≡◌, ℕ, ◌<◌, ◌==◌, Bool, true, false, if◌then◌else◌, List, [], ◌∷◌, length, map, Option, None, Some, refl, sym, subst, arith, slice_get, All, AllByRecursion, AllZip, flat_map, same_Some, Identifier, Named, Numbered, Inst, Op, Operand, Terminator, IsBlock, Name, names_of, read, end_of, reads_of, reads_at_end, reads_by, reads_in, reads_at, RawFunction, RawParameter, RawIdentifier, RawBlock, RawInst, RawArguments, RawOp, RawTerminator, RawValue, RawIncoming, Thing, Calls, name_in, given, written_in, written_names, literal_of, result_width, Means, ValueMeans, IncomingMeans, OpMeans, InstMeans, CaseMeans, EndMeans, BlockIsOf, ParameterMeans, ArgumentsMean, literal_meant, block_written, somewhere, zip_right, IsItem, IsName, IsWidth, NumberFits, OperandFits, ReadHasForms, CasesHaveForms, ParameterHasForms, FunctionHasForms}
use Rattle.ops.specs.Number.{Number}
use Rattle.ir_core.specs.declared.function.Function.{Function}
use Rattle.ir_core.specs.declared.function.Block.{Block as CoreBlock}
use Rattle.ir_core.specs.declared.instruction.Op.TheVariants as core
use Rattle.ir_core.specs.declared.operand.Operand.TheVariants as operands
use Rattle.ir_core.specs.declared.terminator.Terminator.TheVariants as ends
use Rattle.ir_tokens.specs.declared.raw.RawArguments.TheVariants as arguments
use Rattle.ir_tokens.specs.declared.raw.RawOp.TheVariants as ops
use Rattle.ir_tokens.specs.declared.raw.RawTerminator.TheVariants as terminators
use Rattle.ir_tokens.specs.declared.raw.RawValue.TheVariants as values
use Rattle.ir_resolve.proofs.Resolved.{names_are}
use Rattle.ir_round_trip.proofs.Every.{every_all, every_append, every_at, every_map, every_zip}
use Rattle.ir_round_trip.proofs.TokenForms.{CalledFormed}
use Rattle.ir_round_trip.proofs.StatementForms.{ValueFormed, OpFormed, InstFormed, CaseFormed, EndFormed, ArgumentsFormed}
use Rattle.ir_round_trip.proofs.ModuleForms.{WrittenFormed, BlockFormed, ParameterFormed, FunctionFormed}

-- ---- numbers and widths

literal_fits : (v : RawValue) (n : Number) → literal_of v ≡ Some n → ValueFormed v → NumberFits n
literal_fits (values.Number m) n is formed = subst NumberFits (same_Some m n is) formed
literal_fits values.True n is formed = subst NumberFits (same_Some (record { width = 1; number = 1 }) n is) (let one : 1 < 2 = omega arith in one)
literal_fits values.False n is formed = subst NumberFits (same_Some (record { width = 1; number = 0 }) n is) (let one : 0 < 2 = omega arith in one)
literal_fits (values.Register x) n is formed = cc
literal_fits values.Undef n is formed = cc
literal_fits values.Poison n is formed = cc

one_wide : IsWidth 1
one_wide = (omega arith, omega arith)

result_wide : (w : RawOp) → OpFormed w → IsWidth (result_width w)
result_wide (ops.Binary op flags width a b) formed = formed.0
result_wide (ops.Compare pred samesign width a b) formed = one_wide
result_wide (ops.Call w) formed = formed.0
result_wide (ops.Select c a b) formed = formed.1.0.0
result_wide (ops.Convert cast flags from a to) formed = formed.1.1
result_wide (ops.Freeze width a) formed = formed.0
result_wide (ops.Phi width incoming) formed = formed.0

-- ---- operands

module _ (C : Identifier → Thing → Type 0) where
  operand_fits : (v : RawValue) (o : Operand) → ValueMeans C v o → ValueFormed v → OperandFits o
  operand_fits v (operands.Number n) means formed = literal_fits v n (literal_meant C v n means) formed
  operand_fits v (operands.Register r) means formed = tt
  operand_fits v operands.Undef means formed = tt
  operand_fits v operands.Poison means formed = tt

  module _ (b k : ℕ) where
    reads_so : (width : ℕ) (v : RawValue) (o : Operand) → IsWidth width → ValueMeans C v o → ValueFormed v → ReadHasForms (read b k width o)
    reads_so width v o wide means formed = record { width = wide; operand = operand_fits v o means formed }

    entries_read : (f : Function) (width : ℕ) (ws : List RawIncoming) (entries : List (Operand × ℕ)) → IsWidth width → AllZip (IncomingMeans C) ws entries → AllByRecursion (λ i. ValueFormed i.value.value) ws
        → AllByRecursion ReadHasForms (map (λ e. read e.1 (end_of f e.1) width e.0) entries)
    entries_read f width ws entries wide all every =
        every_map (λ (e : Operand × ℕ). read e.1 (end_of f e.1) width e.0) (λ e. OperandFits e.0) ReadHasForms (λ e fits. record { width = wide; operand = fits }) entries
        (every_zip (IncomingMeans C) (λ i. ValueFormed i.value.value) (λ e. OperandFits e.0) (λ i e means formed. operand_fits i.value.value e.0 means.0 formed) ws entries all every)

    call_reads : (f : Function) (width : ℕ) (w : RawArguments) (o : Op) → ArgumentsMean C w o → IsWidth width → ArgumentsFormed w → AllByRecursion ReadHasForms (reads_of f b k width o)
    call_reads f width (arguments.Binary op a c) (core.Binary opcode set x y) means wide formed =
        (reads_so width a.operand.value x wide means.2 formed.0.1, (reads_so width c.operand.value y wide means.3 formed.1.1, tt))
    call_reads f width (arguments.Unary op a truth) (core.Unary intrinsic t x) means wide formed = (reads_so width a.operand.value x wide means.2 formed.1, tt)
    call_reads f width w o means wide formed = absurd means

    op_reads : (f : Function) (width : ℕ) (w : RawOp) (o : Op) → OpMeans C w o → IsWidth width → OpFormed w → AllByRecursion ReadHasForms (reads_of f b k width o)
    op_reads f width (ops.Binary op flags n a c) (core.Binary opcode set x y) means wide formed = (reads_so width a.value x wide means.2 formed.1.0, (reads_so width c.value y wide means.3 formed.1.1, tt))
    op_reads f width (ops.Compare pred samesign n a c) (core.Compare p s m x y) means wide formed =
        let compared : IsWidth m = subst IsWidth (sym means.2) formed.0 in
        (reads_so m a.value x compared means.3 formed.1.0, (reads_so m c.value y compared means.4 formed.1.1, tt))
    op_reads f width (ops.Call w) o means wide formed = call_reads f width w.arguments o means wide formed.1
    op_reads f width (ops.Select z a c) (core.Select i x y) means wide formed =
        (reads_so 1 z.operand.value i one_wide means.0 formed.0.1, (reads_so width a.operand.value x wide means.1 formed.1.0.1, (reads_so width c.operand.value y wide means.2 formed.1.1.1, tt)))
    op_reads f width (ops.Convert cast flags from a to) (core.Convert d g m x) means wide formed = (reads_so m a.value x (subst IsWidth (sym means.2) formed.0) means.3 formed.1.0, tt)
    op_reads f width (ops.Freeze n a) (core.Freeze x) means wide formed = (reads_so width a.value x wide means formed.1, tt)
    op_reads f width (ops.Phi n incoming) (core.Phi entries) means wide formed = entries_read f width incoming entries wide means formed.1
    op_reads f width w o means wide formed = absurd means

    end_reads : (f : Function) (w : RawTerminator) (t : Terminator) → EndMeans C w t → IsWidth f.width → EndFormed w → AllByRecursion ReadHasForms (reads_at_end f b k t)
    end_reads f (terminators.Return n a) (ends.Return x) means wide formed = (reads_so f.width a.value x wide means formed.1, tt)
    end_reads f terminators.Unreachable ends.Unreachable means wide formed = tt
    end_reads f (terminators.Jump to) (ends.Jump c) means wide formed = tt
    end_reads f (terminators.Branch n z to other) (ends.Branch x c d) means wide formed = (reads_so 1 z.value x one_wide means.0 formed.1, tt)
    end_reads f (terminators.Switch n a other cases) (ends.Switch x m c entries) means wide formed = (reads_so m a.value x (subst IsWidth (sym means.0) formed.0) means.1 formed.1.0, tt)
    end_reads f w t means wide formed = absurd means

  case_numbers : (w : RawTerminator) (t : Terminator) → EndMeans C w t → EndFormed w → CasesHaveForms t
  case_numbers (terminators.Switch n a other cases) (ends.Switch x m c entries) means formed =
      every_all (λ e. NumberFits e.0) entries
      (every_zip (CaseMeans C) CaseFormed (λ e. NumberFits e.0) (λ w e is formed. literal_fits w.value.value e.0 is.0 formed.1) cases entries means.3 formed.1.1)
  case_numbers (terminators.Return n a) (ends.Return x) means formed = tt
  case_numbers terminators.Unreachable ends.Unreachable means formed = tt
  case_numbers (terminators.Jump to) (ends.Jump c) means formed = tt
  case_numbers (terminators.Branch n z to other) (ends.Branch x c d) means formed = tt
  case_numbers w t means formed = absurd means

-- ---- names

-- a name has its form, if there is one
abbrev NameFormed : Name → Type 0
NameFormed None = Unit {0}
NameFormed (Some name) = IsName name

named_so : (x : Identifier) → CalledFormed x → NameFormed (name_in x)
named_so (Named name) formed = formed
named_so (Numbered n) formed = tt

given_so : (w : Option RawIdentifier) → WrittenFormed w → NameFormed (given w)
given_so None formed = tt
given_so (Some w) formed = named_so w.identifier formed

written_in_blocks : (bs : List RawBlock) → AllByRecursion BlockFormed bs → AllByRecursion WrittenFormed (flat_map written_in bs)
written_in_blocks [] every = tt
written_in_blocks (b ∷ bs) every =
    every_append WrittenFormed (written_in b) (flat_map written_in bs)
    (every.0.0, every_map (λ (i : RawInst). Some i.result) InstFormed WrittenFormed (λ i formed. formed.0) b.insts every.0.1.0) (written_in_blocks bs every.1)

-- ---- functions

module _ (raw : RawFunction) (f : Function) (means : Means raw f) (formed : FunctionFormed raw) where
  all_names : AllByRecursion NameFormed (names_of f)
  all_names = subst (AllByRecursion NameFormed) (sym (names_are raw f means))
      (every_map given WrittenFormed NameFormed given_so (written_names raw)
      (every_append WrittenFormed (map (λ p. p.name) raw.parameters) (flat_map written_in raw.blocks)
      (every_map (λ (p : RawParameter). p.name) ParameterFormed WrittenFormed (λ p form. form.1.1) raw.parameters formed.parameters) (written_in_blocks raw.blocks formed.blocks)))

  -- the syntax tree of a block has its forms
  block_formed : (b : ℕ) (block : CoreBlock) → IsBlock f b block → (w : RawBlock) × BlockFormed w × BlockIsOf (Calls raw) w block
  block_formed b block at = let (w, w_at, is) = block_written raw f means b block at in (w, every_at BlockFormed raw.blocks b w formed.blocks w_at, is)

  inst_formed : (k : ℕ) (w : RawBlock) (block : CoreBlock) (inst : Inst) → BlockFormed w → BlockIsOf (Calls raw) w block → slice_get block.insts k ≡ Some inst → (v : RawInst) × OpFormed v.op × InstMeans (Calls raw) v inst
  inst_formed k w block inst form is at =
      let (v, v_at, all) = zip_right (InstMeans (Calls raw)) w.insts block.insts k inst is.1 at in
      (v, (every_at InstFormed w.insts k v form.1.0 v_at).1, all)

  inst_wide : (inst : Inst) (v : RawInst) → OpFormed v.op → InstMeans (Calls raw) v inst → IsWidth inst.width
  inst_wide inst v form all = subst IsWidth (sym all.1) (result_wide v.op form)

  returned : IsWidth f.width
  returned = subst IsWidth (sym means.width) formed.width

  block_reads : (b k : ℕ) (w : RawBlock) (block : CoreBlock) (o : Option Inst) → BlockFormed w → BlockIsOf (Calls raw) w block → slice_get block.insts k ≡ o → AllByRecursion ReadHasForms (reads_by f b k block o)
  block_reads b k w block (Some inst) form is at = let (v, op_form, all) = inst_formed k w block inst form is at in op_reads (Calls raw) b k f inst.width v.op inst.op all.2 (inst_wide inst v op_form all) op_form
  block_reads b k w block None form is at = by (k == length block.insts)
    where
      by : (at_end : Bool) → AllByRecursion ReadHasForms (if at_end then reads_at_end f b k block.end else [])
      by true = end_reads (Calls raw) b k f w.end block.end is.2 returned form.1.1
      by false = tt

  all_reads : (b k : ℕ) (o : Option CoreBlock) → slice_get f.blocks b ≡ o → AllByRecursion ReadHasForms (reads_in f b k o)
  all_reads b k None at = tt
  all_reads b k (Some block) at = let (w, form, is) = block_formed b block at in block_reads b k w block (slice_get block.insts k) form is refl

  pub function_has_forms : FunctionHasForms f
  function_has_forms = record {
    name = subst IsName (sym means.name) formed.name;
    before = subst (All IsItem) (sym means.before) (every_all IsItem raw.before formed.before_type);
    width = returned;
    parameters = every_all ParameterHasForms f.parameters
        (every_zip ParameterMeans ParameterFormed ParameterHasForms
        (λ w p is form. record { width = subst IsWidth (sym is.0) form.0; items = subst (All IsItem) (sym is.1) (every_all IsItem w.items form.1.0) }) raw.parameters f.parameters means.parameters formed.parameters);
    after = subst (All IsItem) (sym means.after) (every_all IsItem raw.after formed.after_parameters);
    names = λ name among. let (k, at) = somewhere (names_of f) (Some name) among in every_at NameFormed (names_of f) k (Some name) all_names at;
    insts = λ b k inst is.
        let (w, form, block_is) = block_formed b is.block is.is_block in
        let (v, op_form, all) = inst_formed k w is.block inst form block_is is.is_inst in
        inst_wide inst v op_form all;
    reads = λ b k i r at. every_at ReadHasForms (reads_at f b k) i r (all_reads b k (slice_get f.blocks b) refl) at;
    cases = λ b block at. let (w, form, is) = block_formed b block at in case_numbers (Calls raw) w.end block.end is.2 form.1.1;
  }
