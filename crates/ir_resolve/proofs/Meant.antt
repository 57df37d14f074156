-- A function as written whose registers and blocks are all defined means a function.
use Rattle.ir_resolve.proofs.Common.{◌≡◌, ℕ, List, [], ◌∷◌, map, Option, None, Some, refl, sym, ◌∙◌, AllZip, AllByRecursion, no_flags, Number, Identifier, Function, Parameter, Inst, Op, Operand, Terminator, RawFunction, RawParameter, RawBlock, RawInst, RawArguments, RawOp, RawTerminator, RawValue, RawIncoming, RawCase, Entity, given, typed, read_by, named_by, read_by_call, literal_of, result_width, IsUnknownValue, IsUnknownBlock, truth_of, ValueMeans, BlockMeans, IncomingMeans, OpMeans, InstMeans, CaseMeans, EndMeans, BlockIsOf, ParameterMeans, MeansBy, ArgumentsMean, Known, CallsIn, entity_in, ReadsAreKnown, TargetsAreKnown, IsReadyInst, IsReadyEnd, IsReadyBlock}
use Rattle.ir_core.specs.declared.function.Block.{Block as CoreBlock}
use Rattle.ir_core.specs.declared.instruction.Op.TheVariants as core
use Rattle.ir_core.specs.declared.operand.Operand.TheVariants as operands
use Rattle.ir_core.specs.declared.terminator.Terminator.TheVariants as ends
use Rattle.ir_tokens.specs.declared.raw.RawArguments.TheVariants as arguments
use Rattle.ir_tokens.specs.declared.raw.RawOp.TheVariants as ops
use Rattle.ir_tokens.specs.declared.raw.RawTerminator.TheVariants as terminators
use Rattle.ir_tokens.specs.declared.raw.RawValue.TheVariants as values
use Rattle.ir_resolve.specs.declared.names.definition.Entity.TheVariants as entities

-- if each item is related to one, the list is related to a list
some_zip : {X Y : Type 0} (R : X → Y → Type 0) → ((x : X) → (y : Y) × R x y) → (xs : List X) → (ys : List Y) × AllZip R xs ys
some_zip R f [] = ([], tt)
some_zip R f (x ∷ xs) = let (y, r) = f x in let (ys, all) = some_zip R f xs in (y ∷ ys, (r, all))

some_zip_of : {X Y : Type 0} (P : X → Type 0) (R : X → Y → Type 0) → ((x : X) → P x → (y : Y) × R x y) → (xs : List X) → AllByRecursion P xs → (ys : List Y) × AllZip R xs ys
some_zip_of P R f [] all = ([], tt)
some_zip_of P R f (x ∷ xs) all = let (y, r) = f x all.0 in let (ys, rest) = some_zip_of P R f xs all.1 in (y ∷ ys, (r, rest))

module _ (known : List Known) where
  -- the register that an identifier refers to in the table
  register_found : (x : Identifier) (found : Option Entity) → entity_in known x ≡ found → ¬ IsUnknownValue (CallsIn known) (values.Register x) → (a : Operand) × ValueMeans (CallsIn known) (values.Register x) a
  register_found x (Some (entities.Register r width)) is there = (operands.Register r, (width, is))
  register_found x (Some (entities.Block b)) is there = absurd (there (x, refl, λ r (width, calls). let same : Some (entities.Block b) ≡ Some (entities.Register r width) = sym is ∙ calls in cc))
  register_found x None is there = absurd (there (x, refl, λ r (width, calls). let none : None ≡ Some (entities.Register r width) = sym is ∙ calls in cc))

  some_value : (v : RawValue) → ¬ IsUnknownValue (CallsIn known) v → (a : Operand) × ValueMeans (CallsIn known) v a
  some_value (values.Register x) there = register_found x (entity_in known x) refl there
  some_value (values.Number n) there = (operands.Number n, refl)
  some_value values.True there = (operands.Number (record { width = 1; number = 1 }), refl)
  some_value values.False there = (operands.Number (record { width = 1; number = 0 }), refl)
  some_value values.Undef there = (operands.Undef, tt)
  some_value values.Poison there = (operands.Poison, tt)

  block_found : (x : Identifier) (found : Option Entity) → entity_in known x ≡ found → ¬ IsUnknownBlock (CallsIn known) x → (b : ℕ) × BlockMeans (CallsIn known) x b
  block_found x (Some (entities.Block b)) is there = (b, is)
  block_found x (Some (entities.Register r width)) is there = absurd (there (λ b calls. let same : Some (entities.Register r width) ≡ Some (entities.Block b) = sym is ∙ calls in cc))
  block_found x None is there = absurd (there (λ b calls. let none : None ≡ Some (entities.Block b) = sym is ∙ calls in cc))

  some_block : (x : Identifier) → ¬ IsUnknownBlock (CallsIn known) x → (b : ℕ) × BlockMeans (CallsIn known) x b
  some_block x there = block_found x (entity_in known x) refl there

  some_entries : (width : ℕ) (ws : List RawIncoming) → ReadsAreKnown known (map (λ i. typed width i.value) ws) → TargetsAreKnown known (map (λ i. i.block) ws)
      → (entries : List (Operand × ℕ)) × AllZip (IncomingMeans (CallsIn known)) ws entries
  some_entries width [] reads targets = ([], tt)
  some_entries width (w ∷ ws) reads targets =
      let (a, a_is) = some_value w.value.value reads.0 in
      let (b, b_is) = some_block w.block.identifier targets.0 in
      let (rest, all) = some_entries width ws reads.1 targets.1 in
      ((a, b) ∷ rest, ((a_is, b_is), all))

  some_call : (w : RawArguments) → ReadsAreKnown known (read_by_call w) → (op : Op) × ArgumentsMean (CallsIn known) w op
  some_call (arguments.Binary op a b) reads =
      let (x, x_is) = some_value a.operand.value reads.0 in
      let (y, y_is) = some_value b.operand.value reads.1.0 in
      (core.Binary op no_flags x y, (refl, refl, x_is, y_is))
  some_call (arguments.Unary op a truth) reads =
      let (x, x_is) = some_value a.operand.value reads.0 in (core.Unary op (truth_of truth) x, (refl, refl, x_is))

  some_op : (w : RawOp) → ReadsAreKnown known (read_by w) → TargetsAreKnown known (named_by w) → (op : Op) × OpMeans (CallsIn known) w op
  some_op (ops.Binary op flags width a b) reads targets =
      let (x, x_is) = some_value a.value reads.0 in
      let (y, y_is) = some_value b.value reads.1.0 in
      (core.Binary op flags x y, (refl, refl, x_is, y_is))
  some_op (ops.Compare pred samesign width a b) reads targets =
      let (x, x_is) = some_value a.value reads.0 in
      let (y, y_is) = some_value b.value reads.1.0 in
      (core.Compare pred samesign width x y, (refl, refl, refl, x_is, y_is))
  some_op (ops.Call w) reads targets = some_call w.arguments reads
  some_op (ops.Select c a b) reads targets =
      let (z, z_is) = some_value c.operand.value reads.0 in
      let (x, x_is) = some_value a.operand.value reads.1.0 in
      let (y, y_is) = some_value b.operand.value reads.1.1.0 in
      (core.Select z x y, (z_is, x_is, y_is))
  some_op (ops.Convert cast flags from a to) reads targets = let (x, x_is) = some_value a.value reads.0 in (core.Convert cast flags from x, (refl, refl, refl, x_is))
  some_op (ops.Freeze width a) reads targets = let (x, x_is) = some_value a.value reads.0 in (core.Freeze x, x_is)
  some_op (ops.Phi width ws) reads targets = let (entries, all) = some_entries width ws reads targets in (core.Phi entries, all)

  some_inst : (w : RawInst) → IsReadyInst known w → (inst : Inst) × InstMeans (CallsIn known) w inst
  some_inst w ready = let (op, means) = some_op w.op ready.0 ready.1 in (record { name = given (Some w.result); width = result_width w.op; op = op }, (refl, refl, means))

  case_number : (v : RawValue) (found : Option Number) → literal_of v ≡ found → ¬ (literal_of v ≡ None) → (n : Number) × (literal_of v ≡ Some n)
  case_number v (Some n) is there = (n, is)
  case_number v None is there = absurd (there is)

  some_cases : (ws : List RawCase) → TargetsAreKnown known (map (λ c. c.target) ws) → AllByRecursion (λ c. ¬ (literal_of c.value.value ≡ None)) ws → (cases : List (Number × ℕ)) × AllZip (CaseMeans (CallsIn known)) ws cases
  some_cases [] targets numbers = ([], tt)
  some_cases (w ∷ ws) targets numbers =
      let (n, n_is) = case_number w.value.value (literal_of w.value.value) refl numbers.0 in
      let (b, b_is) = some_block w.target.identifier targets.0 in
      let (rest, all) = some_cases ws targets.1 numbers.1 in
      ((n, b) ∷ rest, ((n_is, b_is), all))

  some_end : (w : RawTerminator) → IsReadyEnd known w → (end : Terminator) × EndMeans (CallsIn known) w end
  some_end (terminators.Return width a) ready = let (x, is) = some_value a.value ready.0.0 in (ends.Return x, is)
  some_end terminators.Unreachable ready = (ends.Unreachable, tt)
  some_end (terminators.Jump to) ready = let (b, is) = some_block to.identifier ready.1.0 in (ends.Jump b, is)
  some_end (terminators.Branch width c to other) ready =
      let (x, x_is) = some_value c.value ready.0.0 in
      let (a, a_is) = some_block to.identifier ready.1.0 in
      let (b, b_is) = some_block other.identifier ready.1.1.0 in
      (ends.Branch x a b, (x_is, a_is, b_is))
  some_end (terminators.Switch width a other ws) ready =
      let (x, x_is) = some_value a.value ready.0.0 in
      let (b, b_is) = some_block other.identifier ready.1.0 in
      let (cases, all) = some_cases ws ready.1.1 ready.2 in
      (ends.Switch x width b cases, (refl, x_is, b_is, all))

  some_block_of : (w : RawBlock) → IsReadyBlock known w → (block : CoreBlock) × BlockIsOf (CallsIn known) w block
  some_block_of w ready =
      let (insts, all) = some_zip_of (IsReadyInst known) (InstMeans (CallsIn known)) some_inst w.insts ready.0 in
      let (end, means) = some_end w.end ready.1 in
      (record { name = given w.label; insts = insts; end = end }, (refl, all, means))

  some_parameter : (w : RawParameter) → (p : Parameter) × ParameterMeans w p
  some_parameter w = (record { width = w.width; items = w.items; name = given w.name }, (refl, refl, refl))

  pub some_function : (raw : RawFunction) → AllByRecursion (IsReadyBlock known) raw.blocks → (f : Function) × MeansBy (CallsIn known) raw f
  some_function raw ready =
      let (parameters, all_parameters) = some_zip ParameterMeans some_parameter raw.parameters in
      let (blocks, all_blocks) = some_zip_of (IsReadyBlock known) (BlockIsOf (CallsIn known)) some_block_of raw.blocks ready in (
        record { name = raw.name; before = raw.before; width = raw.width; parameters = parameters; after = raw.after; blocks = blocks },
        record { name = refl; before = refl; width = refl; parameters = all_parameters; after = refl; blocks = all_blocks },
      )
