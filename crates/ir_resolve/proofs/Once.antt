-- A function as written means at most one function, and has at most one first fault.
use Rattle.ir_resolve.proofs.Common.{◌≡◌, inl, inr, ℕ, Bool, zero, suc, ◌≤◌, List, [], ◌∷◌, map, Some, refl, sym, ap, subst, ◌∙◌, arith, AllZip, zip, cases_lt, Number, Opcode, Unary, Flags, Pred, Cast, Identifier, Function, Parameter, Inst, Op, Operand, Register, Terminator, RawFunction, RawParameter, RawBlock, RawInst, RawArguments, RawOp, RawTerminator, RawValue, RawIncoming, RawCase, Fault, IrFaultKind, Numbering, Duplicate, Unknown, TypeClash, IsFirstLine, Thing, Value, Block, written_names, identifiers_of, Calls, literal_of, Repeats, HasName, IsWrittenOn, ValueMeans, IncomingMeans, OpMeans, InstMeans, CaseMeans, EndMeans, BlockIsOf, ParameterMeans, MeansBy, Means, ArgumentsMean, rank, HasFaultAt, HasNoFault, IsFirstNameFault, Known, Defined, definitions_of, Tabulates}
use Rattle.ir_core.specs.declared.function.Block.{Block as CoreBlock}
use Rattle.ir_core.specs.declared.instruction.Op.TheVariants as core
use Rattle.ir_core.specs.declared.operand.Operand.TheVariants as operands
use Rattle.ir_core.specs.declared.terminator.Terminator.TheVariants as ends
use Rattle.ir_tokens.specs.declared.raw.RawArguments.TheVariants as arguments
use Rattle.ir_tokens.specs.declared.raw.RawOp.TheVariants as ops
use Rattle.ir_tokens.specs.declared.raw.RawTerminator.TheVariants as terminators
use Rattle.ir_tokens.specs.declared.raw.RawValue.TheVariants as values
use Rattle.ir_resolve.proofs.Standing.{some_same}
use Rattle.ir_resolve.proofs.Forming.{literal_meant}
use Rattle.ir_resolve.proofs.Tabling.{tabulates}

-- ---- one meaning

zip_once : {X Y : Type 0} (R : X → Y → Type 0) → ((x : X) (y z : Y) → R x y → R x z → y ≡ z) → (xs : List X) (ys zs : List Y) → AllZip R xs ys → AllZip R xs zs → ys ≡ zs
zip_once R f [] [] [] p q = refl
zip_once R f [] (y ∷ ys) zs p q = absurd p
zip_once R f [] [] (z ∷ zs) p q = absurd q
zip_once R f (x ∷ xs) [] zs p q = absurd p
zip_once R f (x ∷ xs) (y ∷ ys) [] p q = absurd q
zip_once R f (x ∷ xs) (y ∷ ys) (z ∷ zs) p q = ap (λ w. w ∷ ys) (f x y z p.0 q.0) ∙ ap (λ ws. z ∷ ws) (zip_once R f xs ys zs p.1 q.1)

pair : {X Y : Type 0} {d e : X × Y} → d.0 ≡ e.0 → d.1 ≡ e.1 → d ≡ e
pair {X} {Y} {d} {e} p q = ap (λ (x : X). (let r : X × Y = (x, d.1) in r)) p ∙ ap (λ (y : Y). (let r : X × Y = (e.0, y) in r)) q

parameter : (w : RawParameter) (p q : Parameter) → ParameterMeans w p → ParameterMeans w q → p ≡ q
parameter w p q h k =
    let width : p.width ≡ q.width = h.0 ∙ sym k.0 in
    let items : p.items ≡ q.items = h.1 ∙ sym k.1 in
    let name : p.name ≡ q.name = h.2 ∙ sym k.2 in
    ap (λ n. record p { width = n }) width ∙ ap (λ n. record p { width = q.width; items = n }) items ∙ ap (λ n. record q { name = n }) name

-- where an identifier refers to at most one register and at most one block
module _ (C : Identifier → Thing → Type 0) (one_register : (x : Identifier) (r s : Register) → C x (Value r) → C x (Value s) → r ≡ s) (one_block : (x : Identifier) (b c : ℕ) → C x (Block b) → C x (Block c) → b ≡ c) where
  of_register : (x : Identifier) (r : Register) (b : Operand) → C x (Value r) → ValueMeans C (values.Register x) b → operands.Register r ≡ b
  of_register x r (operands.Register s) h k = ap operands.Register (one_register x r s h k)
  of_register x r (operands.Number n) h k = cc
  of_register x r b h k = absurd k

  of_number : (v : RawValue) (n : Number) (b : Operand) → literal_of v ≡ Some n → ValueMeans C v b → operands.Number n ≡ b
  of_number v n (operands.Number l) h k = ap operands.Number (some_same (sym h ∙ literal_meant C v l k))
  of_number (values.Register x) n b h k = cc
  of_number values.Undef n b h k = cc
  of_number values.Poison n b h k = cc
  of_number v n b h k = absurd k

  of_undef : (b : Operand) → ValueMeans C values.Undef b → operands.Undef ≡ b
  of_undef operands.Undef k = refl
  of_undef (operands.Number n) k = cc
  of_undef b k = absurd k

  of_poison : (b : Operand) → ValueMeans C values.Poison b → operands.Poison ≡ b
  of_poison operands.Poison k = refl
  of_poison (operands.Number n) k = cc
  of_poison b k = absurd k

  value : (v : RawValue) (a b : Operand) → ValueMeans C v a → ValueMeans C v b → a ≡ b
  value (values.Register x) (operands.Register r) b h k = of_register x r b h k
  value v (operands.Number n) b h k = of_number v n b (literal_meant C v n h) k
  value values.Undef operands.Undef b h k = of_undef b k
  value values.Poison operands.Poison b h k = of_poison b k
  value v a b h k = absurd h

  incoming : (w : RawIncoming) (d e : Operand × ℕ) → IncomingMeans C w d → IncomingMeans C w e → d ≡ e
  incoming w d e h k = pair (value w.value.value d.0 e.0 h.0 k.0) (one_block w.block.identifier d.1 e.1 h.1 k.1)

  -- of an instruction, and of its parts
  -- of a call
  call : (w : RawArguments) (o p : Op) → ArgumentsMean C w o → ArgumentsMean C w p → o ≡ p
  call (arguments.Binary op a b) (core.Binary c set x y) (core.Binary c' set' x' y') h k =
      cc (h.0, h.1, k.0, k.1, value a.operand.value x x' h.2 k.2, value b.operand.value y y' h.3 k.3)
  call (arguments.Binary op a b) (core.Binary c set x y) p h k = absurd k
  call (arguments.Binary op a b) o p h k = absurd h
  call (arguments.Unary op a truth) (core.Unary c t x) (core.Unary c' t' x') h k = cc (h.0, h.1, k.0, k.1, value a.operand.value x x' h.2 k.2)
  call (arguments.Unary op a truth) (core.Unary c t x) p h k = absurd k
  call (arguments.Unary op a truth) o p h k = absurd h

  binary : (w : RawOp) (c : Opcode) (set : Flags) (x y : Operand) (p : Op) → OpMeans C w (core.Binary c set x y) → OpMeans C w p → core.Binary c set x y ≡ p
  binary (ops.Binary op flags n a b) c set x y (core.Binary c' set' x' y') h k = cc (h.0, h.1, k.0, k.1, value a.value x x' h.2 k.2, value b.value y y' h.3 k.3)
  binary (ops.Binary op flags n a b) c set x y p h k = absurd k
  binary (ops.Call w) c set x y p h k = call w.arguments (core.Binary c set x y) p h k
  binary w c set x y p h k = absurd h

  compare : (w : RawOp) (c : Pred) (s : Bool) (m : ℕ) (x y : Operand) (p : Op) → OpMeans C w (core.Compare c s m x y) → OpMeans C w p → core.Compare c s m x y ≡ p
  compare (ops.Compare pred samesign n a b) c s m x y (core.Compare c' s' m' x' y') h k = cc (h.0, h.1, h.2, k.0, k.1, k.2, value a.value x x' h.3 k.3, value b.value y y' h.4 k.4)
  compare (ops.Compare pred samesign n a b) c s m x y p h k = absurd k
  compare (ops.Call w) c s m x y p h k = call w.arguments (core.Compare c s m x y) p h k
  compare w c s m x y p h k = absurd h

  unary : (w : RawOp) (c : Unary) (t : Bool) (x : Operand) (p : Op) → OpMeans C w (core.Unary c t x) → OpMeans C w p → core.Unary c t x ≡ p
  unary (ops.Call w) c t x p h k = call w.arguments (core.Unary c t x) p h k
  unary w c t x p h k = absurd h

  select : (w : RawOp) (z x y : Operand) (p : Op) → OpMeans C w (core.Select z x y) → OpMeans C w p → core.Select z x y ≡ p
  select (ops.Select c a b) z x y (core.Select z' x' y') h k = cc (value c.operand.value z z' h.0 k.0, value a.operand.value x x' h.1 k.1, value b.operand.value y y' h.2 k.2)
  select (ops.Select c a b) z x y p h k = absurd k
  select (ops.Call w) z x y p h k = call w.arguments (core.Select z x y) p h k
  select w z x y p h k = absurd h

  convert : (w : RawOp) (c : Cast) (g : Flags) (m : ℕ) (x : Operand) (p : Op) → OpMeans C w (core.Convert c g m x) → OpMeans C w p → core.Convert c g m x ≡ p
  convert (ops.Convert cast flags from a to) c g m x (core.Convert c' g' m' x') h k = cc (h.0, h.1, h.2, k.0, k.1, k.2, value a.value x x' h.3 k.3)
  convert (ops.Convert cast flags from a to) c g m x p h k = absurd k
  convert (ops.Call w) c g m x p h k = call w.arguments (core.Convert c g m x) p h k
  convert w c g m x p h k = absurd h

  freeze : (w : RawOp) (x : Operand) (p : Op) → OpMeans C w (core.Freeze x) → OpMeans C w p → core.Freeze x ≡ p
  freeze (ops.Freeze n a) x (core.Freeze x') h k = ap core.Freeze (value a.value x x' h k)
  freeze (ops.Freeze n a) x p h k = absurd k
  freeze (ops.Call w) x p h k = call w.arguments (core.Freeze x) p h k
  freeze w x p h k = absurd h

  phi : (w : RawOp) (entries : List (Operand × ℕ)) (p : Op) → OpMeans C w (core.Phi entries) → OpMeans C w p → core.Phi entries ≡ p
  phi (ops.Phi n written) entries (core.Phi others) h k = ap core.Phi (zip_once (IncomingMeans C) incoming written entries others h k)
  phi (ops.Phi n written) entries p h k = absurd k
  phi (ops.Call w) entries p h k = call w.arguments (core.Phi entries) p h k
  phi w entries p h k = absurd h

  op : (w : RawOp) (o p : Op) → OpMeans C w o → OpMeans C w p → o ≡ p
  op w (core.Binary c set x y) p h k = binary w c set x y p h k
  op w (core.Compare c s m x y) p h k = compare w c s m x y p h k
  op w (core.Unary c t x) p h k = unary w c t x p h k
  op w (core.Select z x y) p h k = select w z x y p h k
  op w (core.Convert c g m x) p h k = convert w c g m x p h k
  op w (core.Freeze x) p h k = freeze w x p h k
  op w (core.Phi entries) p h k = phi w entries p h k

  inst : (w : RawInst) (i j : Inst) → InstMeans C w i → InstMeans C w j → i ≡ j
  inst w i j h k =
      let name : i.name ≡ j.name = h.0 ∙ sym k.0 in
      let width : i.width ≡ j.width = h.1 ∙ sym k.1 in
      ap (λ n. record i { name = n }) name ∙ ap (λ n. record i { name = j.name; width = n }) width ∙ ap (λ o. record j { op = o }) (op w.op i.op j.op h.2 k.2)

  case : (w : RawCase) (d e : Number × ℕ) → CaseMeans C w d → CaseMeans C w e → d ≡ e
  case w d e h k = pair (some_same (sym h.0 ∙ k.0)) (one_block w.target.identifier d.1 e.1 h.1 k.1)

  -- of a terminator
  return : (w : RawTerminator) (x : Operand) (t : Terminator) → EndMeans C w (ends.Return x) → EndMeans C w t → ends.Return x ≡ t
  return (terminators.Return n a) x (ends.Return x') h k = ap ends.Return (value a.value x x' h k)
  return (terminators.Return n a) x t h k = absurd k
  return w x t h k = absurd h

  unreachable : (w : RawTerminator) (t : Terminator) → EndMeans C w ends.Unreachable → EndMeans C w t → ends.Unreachable ≡ t
  unreachable terminators.Unreachable ends.Unreachable h k = refl
  unreachable terminators.Unreachable t h k = absurd k
  unreachable w t h k = absurd h

  jump : (w : RawTerminator) (b : ℕ) (t : Terminator) → EndMeans C w (ends.Jump b) → EndMeans C w t → ends.Jump b ≡ t
  jump (terminators.Jump to) b (ends.Jump c) h k = ap ends.Jump (one_block to.identifier b c h k)
  jump (terminators.Jump to) b t h k = absurd k
  jump w b t h k = absurd h

  branch : (w : RawTerminator) (x : Operand) (b c : ℕ) (t : Terminator) → EndMeans C w (ends.Branch x b c) → EndMeans C w t → ends.Branch x b c ≡ t
  branch (terminators.Branch n z to other) x b c (ends.Branch x' b' c') h k = cc (value z.value x x' h.0 k.0, one_block to.identifier b b' h.1 k.1, one_block other.identifier c c' h.2 k.2)
  branch (terminators.Branch n z to other) x b c t h k = absurd k
  branch w x b c t h k = absurd h

  switch : (w : RawTerminator) (x : Operand) (m b : ℕ) (entries : List (Number × ℕ)) (t : Terminator) → EndMeans C w (ends.Switch x m b entries) → EndMeans C w t → ends.Switch x m b entries ≡ t
  switch (terminators.Switch n a other cases) x m b entries (ends.Switch x' m' b' others) h k =
      cc (h.0, k.0, value a.value x x' h.1 k.1, one_block other.identifier b b' h.2 k.2, zip_once (CaseMeans C) case cases entries others h.3 k.3)
  switch (terminators.Switch n a other cases) x m b entries t h k = absurd k
  switch w x m b entries t h k = absurd h

  end : (w : RawTerminator) (s t : Terminator) → EndMeans C w s → EndMeans C w t → s ≡ t
  end w (ends.Return x) t h k = return w x t h k
  end w ends.Unreachable t h k = unreachable w t h k
  end w (ends.Jump b) t h k = jump w b t h k
  end w (ends.Branch x b c) t h k = branch w x b c t h k
  end w (ends.Switch x m b entries) t h k = switch w x m b entries t h k

  block : (w : RawBlock) (b c : CoreBlock) → BlockIsOf C w b → BlockIsOf C w c → b ≡ c
  block w b c h k =
      let name : b.name ≡ c.name = h.0 ∙ sym k.0 in
      ap (λ n. record b { name = n }) name ∙ ap (λ is. record b { name = c.name; insts = is }) (zip_once (InstMeans C) inst w.insts b.insts c.insts h.1 k.1) ∙ ap (λ t. record c { end = t }) (end w.end b.end c.end h.2 k.2)

  function : (raw : RawFunction) (f g : Function) → MeansBy C raw f → MeansBy C raw g → f ≡ g
  function raw f g h k =
      let name : f.name ≡ g.name = h.name ∙ sym k.name in
      let before : f.before ≡ g.before = h.before ∙ sym k.before in
      let width : f.width ≡ g.width = h.width ∙ sym k.width in
      let after : f.after ≡ g.after = h.after ∙ sym k.after in
      ap (λ n. record f { name = n }) name
      ∙ ap (λ n. record f { name = g.name; before = n }) before
      ∙ ap (λ n. record f { name = g.name; before = g.before; width = n }) width
      ∙ ap (λ ps. record f { name = g.name; before = g.before; width = g.width; parameters = ps }) (zip_once ParameterMeans parameter raw.parameters f.parameters g.parameters h.parameters k.parameters)
      ∙ ap (λ n. record g { after = n; blocks = f.blocks }) after
      ∙ ap (λ bs. record g { blocks = bs }) (zip_once (BlockIsOf C) block raw.blocks f.blocks g.blocks h.blocks k.blocks)

-- an identifier refers to what the table of all identifiers says
module _ (raw : RawFunction) (no_repeat : (line : ℕ) → ¬ Repeats HasName IsWrittenOn (written_names raw) line) where
  abbrev pub known : List Known
  known = zip (identifiers_of raw) (map (λ (d : Defined). d.1) (definitions_of raw))

  pub table : Tabulates raw known
  table = tabulates raw known no_repeat refl

  one_register_of : (x : Identifier) (r s : Register) → Calls raw x (Value r) → Calls raw x (Value s) → r ≡ s
  one_register_of x r s p q =
      let (m, r_found) = (table.things x (Value r)).1 p in
      let (n, s_found) = (table.things x (Value s)).1 q in
      cc

  one_block_of : (x : Identifier) (b c : ℕ) → Calls raw x (Block b) → Calls raw x (Block c) → b ≡ c
  one_block_of x b c p q =
      let b_found = (table.things x (Block b)).1 p in
      let c_found = (table.things x (Block c)).1 q in
      cc

pub one_meaning : (earlier : List RawFunction) (raw : RawFunction) (f g : Function) → HasNoFault earlier raw → Means raw f → Means raw g → f ≡ g
one_meaning earlier raw f g none h k =
    let no_repeat = λ (line : ℕ) (again : Repeats HasName IsWrittenOn (written_names raw) line). none Duplicate line (inr (inl again)) in
    function (Calls raw) (one_register_of raw no_repeat) (one_block_of raw no_repeat) raw f g h k

-- ---- one fault

-- the kind that has this rank
abbrev kind_of : ℕ → IrFaultKind
kind_of zero = Numbering
kind_of (suc zero) = Duplicate
kind_of (suc (suc zero)) = Unknown
kind_of (suc (suc (suc n))) = TypeClash

kind_of-rank : (earlier : List RawFunction) (raw : RawFunction) (kind : IrFaultKind) (line : ℕ) → HasFaultAt earlier raw kind line → kind_of (rank kind) ≡ kind
kind_of-rank earlier raw Numbering line h = refl
kind_of-rank earlier raw Duplicate line h = refl
kind_of-rank earlier raw Unknown line h = refl
kind_of-rank earlier raw TypeClash line h = refl
kind_of-rank earlier raw other line h = absurd h

pub one_fault : (earlier : List RawFunction) (raw : RawFunction) (a b : Fault IrFaultKind) → IsFirstNameFault earlier raw a → IsFirstNameFault earlier raw b → a ≡ b
one_fault earlier raw a b p q =
    let kinds : rank a.kind ≡ rank b.kind =
    elim (cases_lt (rank a.kind) (rank b.kind)) [
      | inl lt ↦ absurd (q.first a.kind a.line lt p.line.0)
      | inr ge ↦ elim (cases_lt (rank b.kind) (rank a.kind)) [ inl lt ↦ absurd (p.first b.kind b.line lt q.line.0) | inr ge' ↦ omega arith ]
    ]
    in
    let kind : a.kind ≡ b.kind = sym (kind_of-rank earlier raw a.kind a.line p.line.0) ∙ ap kind_of kinds ∙ kind_of-rank earlier raw b.kind b.line q.line.0 in
    let first : IsFirstLine (HasFaultAt earlier raw b.kind) a.line = subst (λ k. IsFirstLine (HasFaultAt earlier raw k) a.line) kind p.line in
    let le : a.line ≤ b.line = first.1 b.line q.line.0 in
    let ge : b.line ≤ a.line = q.line.1 a.line first.0 in
    let line : a.line ≡ b.line = omega arith in
    ap (λ l. record a { line = l }) line ∙ ap (λ k. record b { kind = k }) kind

pub not_both : (earlier : List RawFunction) (raw : RawFunction) (fault : Fault IrFaultKind) → HasNoFault earlier raw → ¬ IsFirstNameFault earlier raw fault
not_both earlier raw fault none p = none fault.kind fault.line p.line.0
