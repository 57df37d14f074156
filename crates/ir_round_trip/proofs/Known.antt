-- If identifiers refer to the same registers and blocks of a function, and one reading of them means a function that
-- meets its checks, the other means it too.
use Rattle.ir_round_trip.proofs.Common.{◌≡◌, ℕ, suc, ◌<◌, List, [], ◌∷◌, map, length, Some, IsSome, if◌then◌else◌, refl, ap, ◌∙◌, arith, slice_get, AllZip, AllByRecursion, eq-eqb, slice_get_past, slice_get_within, Identifier, Inst, Op, Operand, Terminator, IsBlock, Names, targets_of, IsKnown, IsFormed, IsInst, width_of, Read, read, end_of, reads_of, reads_at_end, reads_by, reads_in, reads_at, RawFunction, RawBlock, RawArguments, RawOp, RawTerminator, RawValue, RawIncoming, RawCase, Thing, Value, ValueMeans, IncomingMeans, OpMeans, InstMeans, CaseMeans, EndMeans, BlockIsOf, MeansBy, ArgumentsMean, contained}
use Rattle.ops.specs.Number.{Number}
use Rattle.ir_core.specs.declared.function.Function.{Function}
use Rattle.ir_core.specs.declared.function.Block.{Block as CoreBlock}
use Rattle.ir_core.specs.declared.instruction.Op.TheVariants as core
use Rattle.ir_core.specs.declared.operand.Operand.TheVariants as operands
use Rattle.ir_core.specs.declared.operand.Register.{Register}
use Rattle.ir_core.specs.declared.terminator.Terminator.TheVariants as ends
use Rattle.ir_tokens.specs.declared.raw.RawArguments.TheVariants as arguments
use Rattle.ir_tokens.specs.declared.raw.RawOp.TheVariants as ops
use Rattle.ir_tokens.specs.declared.raw.RawTerminator.TheVariants as terminators
use Rattle.ir_tokens.specs.declared.raw.RawValue.TheVariants as values
use Rattle.ir_resolve.specs.Written.{Block}

-- ---- operands, and blocks that are named, by place

pub inst_reads : (f : Function) (b k : ℕ) (block : CoreBlock) (inst : Inst) → IsBlock f b block → slice_get block.insts k ≡ Some inst → reads_at f b k ≡ reads_of f b k inst.width inst.op
inst_reads f b k block inst is at = ap (reads_in f b k) is ∙ ap (reads_by f b k block) at

pub end_reads : (f : Function) (b : ℕ) (block : CoreBlock) → IsBlock f b block → reads_at f b (length block.insts) ≡ reads_at_end f b (length block.insts) block.end
end_reads f b block is =
    let n = length block.insts in
    ap (reads_in f b n) is ∙ ap (reads_by f b n block) (slice_get_past block.insts n (omega arith)) ∙ ap (λ e. if e then reads_at_end f b n block.end else []) (eq-eqb n n refl)

-- a predicate that holds at each place holds of each item

each_from : {X : Type 0} (P : X → Type 0) (xs : List X) → ((i : ℕ) (x : X) → slice_get xs i ≡ Some x → P x) → AllByRecursion P xs
each_from P [] f = tt
each_from P (x ∷ xs) f = (f 0 x refl, each_from P xs (λ i y at. f (suc i) y at))

seen_each : {X Y : Type 0} (f : X → Y) (P : Y → Type 0) (xs : List X) → AllByRecursion (λ x. P (f x)) xs → AllByRecursion P (map f xs)
seen_each f P [] all = tt
seen_each f P (x ∷ xs) all = (all.0, seen_each f P xs all.1)

-- if related items at each index are also related otherwise, so are the lists
zip_each : {X Y : Type 0} (R S : X → Y → Type 0) (xs : List X) (ys : List Y) → ((k : ℕ) (x : X) (y : Y) → slice_get ys k ≡ Some y → R x y → S x y) → AllZip R xs ys → AllZip S xs ys
zip_each R S [] [] f all = tt
zip_each R S [] (y ∷ ys) f all = all
zip_each R S (x ∷ xs) [] f all = all
zip_each R S (x ∷ xs) (y ∷ ys) f all = (f 0 x y refl all.0, zip_each R S xs ys (λ k v w at r. f (suc k) v w at r) all.1)

-- the registers that are read, and the blocks that are named, are defined

abbrev AllKnown : Function → List Read → Type 0
AllKnown f reads = AllByRecursion (λ r. IsKnown f r.operand) reads

abbrev AllThere : Function → List ℕ → Type 0
AllThere f blocks = AllByRecursion (λ b. b < length f.blocks) blocks

module _ (F G : Identifier → Thing → Type 0) (f : Function) (to_register : (x : Identifier) (r : Register) → IsSome (width_of f r) → F x (Value r) → G x (Value r))
    (to_block : (x : Identifier) (b : ℕ) → b < length f.blocks → F x (Block b) → G x (Block b)) where
  value : (v : RawValue) (a : Operand) → IsKnown f a → ValueMeans F v a → ValueMeans G v a
  value (values.Register x) (operands.Register r) known h = to_register x r known h
  value v a known h = h

  incoming : (width : ℕ) (ws : List RawIncoming) (es : List (Operand × ℕ)) → AllKnown f (map (λ e. read e.1 (end_of f e.1) width e.0) es) → AllThere f (map (λ e. e.1) es)
      → AllZip (IncomingMeans F) ws es → AllZip (IncomingMeans G) ws es
  incoming width [] [] known there all = tt
  incoming width [] (e ∷ es) known there all = all
  incoming width (w ∷ ws) [] known there all = all
  incoming width (w ∷ ws) (e ∷ es) known there all =
      ((value w.value.value e.0 known.0 all.0.0, to_block w.block.identifier e.1 there.0 all.0.1), incoming width ws es known.1 there.1 all.1)

  cases : (ws : List RawCase) (es : List (Number × ℕ)) → AllThere f (map (λ e. e.1) es) → AllZip (CaseMeans F) ws es → AllZip (CaseMeans G) ws es
  cases [] [] there all = tt
  cases [] (e ∷ es) there all = all
  cases (w ∷ ws) [] there all = all
  cases (w ∷ ws) (e ∷ es) there all = ((all.0.0, to_block w.target.identifier e.1 there.0 all.0.1), cases ws es there.1 all.1)

  call : (b k width : ℕ) (w : RawArguments) (o : Op) → AllKnown f (reads_of f b k width o) → ArgumentsMean F w o → ArgumentsMean G w o
  call b k width (arguments.Binary op v w) (core.Binary c set x y) known h = (h.0, h.1, value v.operand.value x known.0 h.2, value w.operand.value y known.1.0 h.3)
  call b k width (arguments.Unary op v truth) (core.Unary c t x) known h = (h.0, h.1, value v.operand.value x known.0 h.2)
  call b k width w o known h = h

  op : (b k width : ℕ) (w : RawOp) (o : Op) → AllKnown f (reads_of f b k width o) → ((entries : List (Operand × ℕ)) → o ≡ core.Phi entries → AllThere f (map (λ e. e.1) entries)) → OpMeans F w o → OpMeans G w o
  op b k width (ops.Binary opcode flags n v w) (core.Binary c set x y) known there h = (h.0, h.1, value v.value x known.0 h.2, value w.value y known.1.0 h.3)
  op b k width (ops.Compare pred samesign n v w) (core.Compare p s m x y) known there h = (h.0, h.1, h.2, value v.value x known.0 h.3, value w.value y known.1.0 h.4)
  op b k width (ops.Call w) o known there h = call b k width w.arguments o known h
  op b k width (ops.Select c v w) (core.Select z x y) known there h =
      (value c.operand.value z known.0 h.0, value v.operand.value x known.1.0 h.1, value w.operand.value y known.1.1.0 h.2)
  op b k width (ops.Convert cast flags from v to) (core.Convert c g n x) known there h = (h.0, h.1, h.2, value v.value x known.0 h.3)
  op b k width (ops.Freeze n v) (core.Freeze x) known there h = value v.value x known.0 h
  op b k width (ops.Phi n written) (core.Phi entries) known there h = incoming width written entries known (there entries refl) h
  op b k width w o known there h = h

  end : (b k : ℕ) (w : RawTerminator) (t : Terminator) → AllKnown f (reads_at_end f b k t) → AllThere f (targets_of t) → EndMeans F w t → EndMeans G w t
  end b k (terminators.Return n v) (ends.Return x) known there h = value v.value x known.0 h
  end b k (terminators.Jump w) (ends.Jump c) known there h = to_block w.identifier c there.0 h
  end b k (terminators.Branch n v w other) (ends.Branch x c d) known there h =
      (value v.value x known.0 h.0, to_block w.identifier c there.0 h.1, to_block other.identifier d there.1.0 h.2)
  end b k (terminators.Switch n v other ws) (ends.Switch x m d es) known there h =
      (h.0, value v.value x known.0 h.1, to_block other.identifier d there.0 h.2, cases ws es there.1 h.3)
  end b k w t known there h = h

  module _ (formed : IsFormed f) where
    known_at : (b k : ℕ) (reads : List Read) → reads_at f b k ≡ reads → AllKnown f reads
    known_at b k reads are = each_from (λ r. IsKnown f r.operand) reads (λ i r at. formed.registers b k i r (ap (λ rs. slice_get rs i) are ∙ at))

    -- a block whose terminator names another is one of the function
    naming_there : (b c : ℕ) → Names f b c → b < length f.blocks
    naming_there b c (block, is, there) = slice_get_within f.blocks b block is

    incoming_there : (b k : ℕ) (inst : Inst) → IsInst f b k inst → (entries : List (Operand × ℕ)) → inst.op ≡ core.Phi entries → AllThere f (map (λ e. e.1) entries)
    incoming_there b k inst is entries phi =
        let fit = formed.phis b k inst entries is phi in
        let each : AllByRecursion (λ (e : Operand × ℕ). e.1 < length f.blocks) entries =
        each_from (λ (e : Operand × ℕ). e.1 < length f.blocks) entries (λ i e at. naming_there e.1 b ((fit.from e.1).0 (e.0, contained entries i e at))) in
        seen_each (λ (e : Operand × ℕ). e.1) (λ c. c < length f.blocks) entries each

    targets_there : (b : ℕ) (block : CoreBlock) → IsBlock f b block → AllThere f (targets_of block.end)
    targets_there b block is = each_from (λ c. c < length f.blocks) (targets_of block.end) (λ i c at. formed.blocks b c (block, is, contained (targets_of block.end) i c at))

    block : (b : ℕ) (w : RawBlock) (c : CoreBlock) → IsBlock f b c → BlockIsOf F w c → BlockIsOf G w c
    block b w c is h = (
      h.0,
      zip_each (InstMeans F) (InstMeans G) w.insts c.insts (λ k v inst at means. (
        means.0,
        means.1,
        op b k inst.width v.op inst.op (known_at b k (reads_of f b k inst.width inst.op) (inst_reads f b k c inst is at))
            (incoming_there b k inst (record { block = c; is_block = is; is_inst = at })) means.2,
      )) h.1,
      end b (length c.insts) w.end c.end (known_at b (length c.insts) (reads_at_end f b (length c.insts) c.end) (end_reads f b c is)) (targets_there b c is) h.2,
    )

    pub function : (raw : RawFunction) → MeansBy F raw f → MeansBy G raw f
    function raw h = record {
      name = h.name;
      before = h.before;
      width = h.width;
      parameters = h.parameters;
      after = h.after;
      blocks = zip_each (BlockIsOf F) (BlockIsOf G) raw.blocks f.blocks (λ b w c is means. block b w c is means) h.blocks;
    }
