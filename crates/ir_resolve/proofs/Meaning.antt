-- Where identifiers refer to the same things, a function as written means the same.
use Rattle.ir_resolve.proofs.Common.{ℕ, List, [], ◌∷◌, AllZip, Number, Identifier, Function, Inst, Op, Operand, Terminator, RawFunction, RawBlock, RawInst, RawArguments, RawOp, RawTerminator, RawValue, RawIncoming, RawCase, Thing, Value, Block, Calls, ValueMeans, IncomingMeans, OpMeans, InstMeans, CaseMeans, EndMeans, BlockIsOf, MeansBy, Means, ArgumentsMean, Known, CallsIn, Tabulates}
use Rattle.ir_core.specs.declared.function.Block.{Block as CoreBlock}
use Rattle.ir_core.specs.declared.instruction.Op.TheVariants as core
use Rattle.ir_core.specs.declared.operand.Operand.TheVariants as operands
use Rattle.ir_core.specs.declared.terminator.Terminator.TheVariants as ends
use Rattle.ir_tokens.specs.declared.raw.RawArguments.TheVariants as arguments
use Rattle.ir_tokens.specs.declared.raw.RawOp.TheVariants as ops
use Rattle.ir_tokens.specs.declared.raw.RawTerminator.TheVariants as terminators
use Rattle.ir_tokens.specs.declared.raw.RawValue.TheVariants as values

zip_weaker : {X Y : Type 0} (R S : X → Y → Type 0) → ((x : X) (y : Y) → R x y → S x y) → (xs : List X) (ys : List Y) → AllZip R xs ys → AllZip S xs ys
zip_weaker R S f [] [] all = tt
zip_weaker R S f [] (y ∷ ys) all = all
zip_weaker R S f (x ∷ xs) [] all = all
zip_weaker R S f (x ∷ xs) (y ∷ ys) all = (f x y all.0, zip_weaker R S f xs ys all.1)

module _ (F G : Identifier → Thing → Type 0) (to : (x : Identifier) (thing : Thing) → F x thing → G x thing) where
  value : (v : RawValue) (a : Operand) → ValueMeans F v a → ValueMeans G v a
  value (values.Register x) (operands.Register r) h = to x (Value r) h
  value v a h = h

  incoming : (w : RawIncoming) (entry : Operand × ℕ) → IncomingMeans F w entry → IncomingMeans G w entry
  incoming w entry h = (value w.value.value entry.0 h.0, to w.block.identifier (Block entry.1) h.1)

  call : (w : RawArguments) (o : Op) → ArgumentsMean F w o → ArgumentsMean G w o
  call (arguments.Binary op a b) (core.Binary c set x y) h = (h.0, h.1, value a.operand.value x h.2, value b.operand.value y h.3)
  call (arguments.Unary op a truth) (core.Unary c t x) h = (h.0, h.1, value a.operand.value x h.2)
  call w o h = h

  op : (w : RawOp) (o : Op) → OpMeans F w o → OpMeans G w o
  op (ops.Binary opcode flags width a b) (core.Binary c set x y) h = (h.0, h.1, value a.value x h.2, value b.value y h.3)
  op (ops.Compare pred samesign width a b) (core.Compare p s n x y) h = (h.0, h.1, h.2, value a.value x h.3, value b.value y h.4)
  op (ops.Call w) o h = call w.arguments o h
  op (ops.Select c a b) (core.Select z x y) h = (value c.operand.value z h.0, value a.operand.value x h.1, value b.operand.value y h.2)
  op (ops.Convert cast flags from a to') (core.Convert c g n x) h = (h.0, h.1, h.2, value a.value x h.3)
  op (ops.Freeze width a) (core.Freeze x) h = value a.value x h
  op (ops.Phi width written) (core.Phi entries) h = zip_weaker (IncomingMeans F) (IncomingMeans G) incoming written entries h
  op w o h = h

  inst : (w : RawInst) (i : Inst) → InstMeans F w i → InstMeans G w i
  inst w i h = (h.0, h.1, op w.op i.op h.2)

  case : (w : RawCase) (entry : Number × ℕ) → CaseMeans F w entry → CaseMeans G w entry
  case w entry h = (h.0, to w.target.identifier (Block entry.1) h.1)

  end : (w : RawTerminator) (t : Terminator) → EndMeans F w t → EndMeans G w t
  end (terminators.Return width a) (ends.Return x) h = value a.value x h
  end (terminators.Jump w) (ends.Jump b) h = to w.identifier (Block b) h
  end (terminators.Branch width c w other) (ends.Branch x a b) h = (value c.value x h.0, to w.identifier (Block a) h.1, to other.identifier (Block b) h.2)
  end (terminators.Switch width a other cases) (ends.Switch x n b entries) h = (h.0, value a.value x h.1, to other.identifier (Block b) h.2, zip_weaker (CaseMeans F) (CaseMeans G) case cases entries h.3)
  end w t h = h

  block : (w : RawBlock) (b : CoreBlock) → BlockIsOf F w b → BlockIsOf G w b
  block w b h = (h.0, zip_weaker (InstMeans F) (InstMeans G) inst w.insts b.insts h.1, end w.end b.end h.2)

  function : (raw : RawFunction) (f : Function) → MeansBy F raw f → MeansBy G raw f
  function raw f h = record {
    name = h.name;
    before = h.before;
    width = h.width;
    parameters = h.parameters;
    after = h.after;
    blocks = zip_weaker (BlockIsOf F) (BlockIsOf G) block raw.blocks f.blocks h.blocks;
  }

pub means : (raw : RawFunction) (known : List Known) (f : Function) → Tabulates raw known → MeansBy (CallsIn known) raw f → Means raw f
means raw known f table h = function (CallsIn known) (Calls raw) (λ x thing. (table.things x thing).0) raw f h
