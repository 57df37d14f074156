-- A function that is meant, by one as written without a fault, meets its checks by names, widths and cases.
use Rattle.ir_resolve.proofs.Common.{◌≡◌, ◌≢◌, inl, inr, ℕ, ◌<◌, List, [], ◌∷◌, ◌++◌, map, get_or, Some, refl, sym, ap, ◌∙◌, arith, Bool, true, false, ◌&&◌, Option, None, is_some, All, slice_get, AllZip, flat_map, cases_lt, map-append, slice_get-get_or, Unary, TruthFits, has_truth, Number, Cast, Trunc, ZExt, SExt, Identifier, Name, block_names, CasesDiffer, IsTyped, CasesFit, CastFits, Read, read, end_of, reads_at_end, Function, Parameter, Inst, Op, Operand, Terminator, RawParameter, RawIdentifier, RawBlock, RawInst, RawArguments, RawOp, TypedOperand, RawTerminator, RawValue, RawOperand, RawCase, Thing, given, written_in, Typed, read_by, read_at_end, named_at_end, cases_of, read_by_call, literal_of, result_width, Repeats, HasNumber, IsCaseOn, OpClashesAt, EndClashesAt, ArgumentsFit, truth_of, ValueMeans, BlockMeans, IncomingMeans, OpMeans, InstMeans, CaseMeans, EndMeans, BlockIsOf, ParameterMeans, ArgumentsMean, IsWellWrittenOp, IsWellWrittenCall}
use Rattle.ir_core.specs.Blocks.{targets_of}
use Rattle.ir_core.specs.Reads.{reads_of}
use Rattle.ir_core.specs.declared.function.Block.{Block as CoreBlock}
use Rattle.ir_core.specs.declared.instruction.Op.TheVariants as core
use Rattle.ir_core.specs.declared.operand.Operand.TheVariants as operands
use Rattle.ir_core.specs.declared.terminator.Terminator.TheVariants as ends
use Rattle.ir_tokens.specs.declared.raw.RawArguments.TheVariants as arguments
use Rattle.ir_tokens.specs.declared.raw.RawOp.TheVariants as ops
use Rattle.ir_tokens.specs.declared.raw.RawTerminator.TheVariants as terminators
use Rattle.ir_tokens.specs.declared.raw.RawValue.TheVariants as values
use Rattle.ir_resolve.proofs.Places.{contained_at, before_place}
use Rattle.ir_resolve.proofs.Tabling.{once}
use Rattle.ir_resolve.proofs.Pairs.{pair_of_second, made_pairs}

pub same_unless : (a b : ℕ) → ¬ (a ≢ b) → a ≡ b
same_unless a b h =
    elim (cases_lt a b) [
      | inl lt ↦ absurd (h (λ e. omega arith))
      | inr ge ↦ elim (cases_lt b a) [ inl lt ↦ absurd (h (λ e. omega arith)) | inr ge' ↦ omega arith ]
    ]

less_unless : (a b : ℕ) → ¬ ¬ (a < b) → a < b
less_unless a b h = elim (cases_lt a b) [ inl lt ↦ lt | inr ge ↦ absurd (h (λ lt. omega arith)) ]

fits_unless : (cast : Cast) (from to : ℕ) → ¬ ¬ CastFits cast from to → CastFits cast from to
fits_unless Trunc from to h = less_unless to from h
fits_unless ZExt from to h = less_unless from to h
fits_unless SExt from to h = less_unless from to h

-- ---- names

pub parameter_names : (ws : List RawParameter) (ps : List Parameter) → AllZip ParameterMeans ws ps → map (λ p. p.name) ps ≡ map given (map (λ p. p.name) ws)
parameter_names [] [] all = refl
parameter_names [] (p ∷ ps) all = absurd all
parameter_names (w ∷ ws) [] all = absurd all
parameter_names (w ∷ ws) (p ∷ ps) all = ap (λ (n : Name). n ∷ map (λ p. p.name) ps) all.0.2 ∙ ap (λ ns. given w.name ∷ ns) (parameter_names ws ps all.1)

module _ (C : Identifier → Thing → Type 0) where
  inst_names : (ws : List RawInst) (is : List Inst) → AllZip (InstMeans C) ws is → map (λ i. i.name) is ≡ map given (map (λ i. Some i.result) ws)
  inst_names [] [] all = refl
  inst_names [] (i ∷ is) all = absurd all
  inst_names (w ∷ ws) [] all = absurd all
  inst_names (w ∷ ws) (i ∷ is) all = ap (λ (n : Name). n ∷ map (λ j. j.name) is) all.0.0 ∙ ap (λ ns. given (Some w.result) ∷ ns) (inst_names ws is all.1)

  pub names_in_blocks : (ws : List RawBlock) (bs : List CoreBlock) → AllZip (BlockIsOf C) ws bs → flat_map block_names bs ≡ map given (flat_map written_in ws)
  names_in_blocks [] [] all = refl
  names_in_blocks [] (b ∷ bs) all = absurd all
  names_in_blocks (w ∷ ws) [] all = absurd all
  names_in_blocks (w ∷ ws) (b ∷ bs) all =
      ap (λ (n : Name). (n ∷ map (λ i. i.name) b.insts) ++ flat_map block_names bs) all.0.0
      ∙ ap (λ ns. (given w.label ∷ ns) ++ flat_map block_names bs) (inst_names w.insts b.insts all.0.1)
      ∙ ap (λ ns. map given (written_in w) ++ ns) (names_in_blocks ws bs all.1)
      ∙ sym (map-append given (written_in w) (flat_map written_in ws))

  pub literal_meant : (v : RawValue) (n : Number) → ValueMeans C v (operands.Number n) → literal_of v ≡ Some n
  literal_meant (values.Register x) n h = h
  literal_meant (values.Number m) n h = h
  literal_meant values.True n h = h
  literal_meant values.False n h = h
  literal_meant values.Undef n h = h
  literal_meant values.Poison n h = h

-- ---- operands as written and as read

-- an operand as written means one that is read, at the same width
abbrev pub ReadMeans : (Identifier → Thing → Type 0) → Typed → Read → Type 0
ReadMeans C t r = ValueMeans C t.operand.value r.operand × (t.width ≡ r.width)

module _ (C : Identifier → Thing → Type 0) (f : Function) (b k : ℕ) where
  call_meant : (w : RawArguments) (n width : ℕ) (o : Op) → ArgumentsMean C w o → width ≡ n → ¬ ¬ ArgumentsFit n w → AllZip (ReadMeans C) (read_by_call w) (reads_of f b k width o)
  call_meant (arguments.Binary op a c) n width (core.Binary op' flags x y) h wide fits =
      let left : a.width ≡ n = same_unless a.width n (λ apart. fits (λ fit. apart fit.0)) in
      let right : c.width ≡ n = same_unless c.width n (λ apart. fits (λ fit. apart fit.1)) in
      ((h.2, left ∙ sym wide), ((h.3, right ∙ sym wide), tt))
  call_meant (arguments.Unary op a truth) n width (core.Unary op' t x) h wide fits =
      let left : a.width ≡ n = same_unless a.width n (λ apart. fits (λ fit. apart fit.0)) in
      ((h.2, left ∙ sym wide), tt)
  call_meant w n width o h wide fits = absurd h

  pub reads_meant : (w : RawOp) (width : ℕ) (o : Op) → OpMeans C w o → width ≡ result_width w → ((line : ℕ) → ¬ OpClashesAt w line) → AllZip (ReadMeans C) (read_by w) (reads_of f b k width o)
  reads_meant (ops.Binary op flags n a c) width (core.Binary op' flags' x y) h wide typed = ((h.2, sym wide), ((h.3, sym wide), tt))
  reads_meant (ops.Compare pred samesign n a c) width (core.Compare pred' samesign' m x y) h wide typed = ((h.3, sym h.2), ((h.4, sym h.2), tt))
  reads_meant (ops.Call w) width o h wide typed = call_meant w.arguments w.width width o h wide (λ unfit. typed w.line ((λ fits. unfit fits.1), refl))
  reads_meant (ops.Select z a c) width (core.Select z' x y) h wide typed =
      let one : z.width ≡ 1 = same_unless z.width 1 (λ apart. typed z.operand.line (inl (apart, refl))) in
      let arms : a.width ≡ c.width = same_unless a.width c.width (λ apart. typed c.operand.line (inr (apart, refl))) in
      ((h.0, one), ((h.1, sym wide), ((h.2, sym arms ∙ sym wide), tt)))
  reads_meant (ops.Convert cast flags from a to) width (core.Convert cast' flags' n x) h wide typed = ((h.3, sym h.2), tt)
  reads_meant (ops.Freeze n a) width (core.Freeze x) h wide typed = ((h, sym wide), tt)
  reads_meant (ops.Phi n incoming) width (core.Phi entries) h wide typed =
      made_pairs (ReadMeans C) (IncomingMeans C) (λ i. record { width = n; operand = i.value }) (λ (e : Operand × ℕ). read e.1 (end_of f e.1) width e.0) (λ i e means. (means.0, sym wide)) incoming entries h
  reads_meant w width o h wide typed = absurd h

  pub reads_meant_at_end : (returned : ℕ) (w : RawTerminator) (t : Terminator) → f.width ≡ returned → EndMeans C w t → ((line : ℕ) → ¬ EndClashesAt returned w line) → AllZip (ReadMeans C) (read_at_end w) (reads_at_end f b k t)
  reads_meant_at_end returned (terminators.Return n a) (ends.Return x) same h typed = ((h, same_unless n returned (λ apart. typed a.line (apart, refl)) ∙ sym same), tt)
  reads_meant_at_end returned terminators.Unreachable ends.Unreachable same h typed = tt
  reads_meant_at_end returned (terminators.Jump to) (ends.Jump c) same h typed = tt
  reads_meant_at_end returned (terminators.Branch n z to other) (ends.Branch x c d) same h typed = ((h.0, same_unless n 1 (λ apart. typed z.line (apart, refl))), tt)
  reads_meant_at_end returned (terminators.Switch n a other cases) (ends.Switch x m c entries) same h typed = ((h.1, sym h.0), tt)
  reads_meant_at_end returned w t same h typed = absurd h

pub targets_meant : (C : Identifier → Thing → Type 0) (w : RawTerminator) (t : Terminator) → EndMeans C w t → AllZip (λ x c. BlockMeans C x.identifier c) (named_at_end w) (targets_of t)
targets_meant C (terminators.Return n a) (ends.Return x) h = tt
targets_meant C terminators.Unreachable ends.Unreachable h = tt
targets_meant C (terminators.Jump to) (ends.Jump c) h = (h, tt)
targets_meant C (terminators.Branch n z to other) (ends.Branch x c d) h = (h.1, (h.2, tt))
targets_meant C (terminators.Switch n a other cases) (ends.Switch x m c entries) h =
    (h.2, made_pairs (λ x c. BlockMeans C x.identifier c) (CaseMeans C) (λ (c : RawCase). c.target) (λ (e : Number × ℕ). e.1) (λ c e means. means.1) cases entries h.3)
targets_meant C w t h = absurd h

-- ---- types and cases

truth_fits : (op : Unary) (truth : Option TypedOperand) → is_some truth ≡ has_truth op → TruthFits op (truth_of truth)
truth_fits op None own = refl
truth_fits op (Some t) own = rw (sym own) (kept (truth_of (Some t)))
  where
    kept : (b : Bool) → (b && true) ≡ b
    kept true = refl
    kept false = refl

call_typed : (C : Identifier → Thing → Type 0) (w : RawArguments) (width : ℕ) (o : Op) → ArgumentsMean C w o → IsWellWrittenCall w → IsTyped width o
call_typed C (arguments.Binary op a c) width (core.Binary op' flags x y) h own = rw h.1 refl
call_typed C (arguments.Unary op a truth) width (core.Unary op' t x) h own = rw (h.0, h.1) (truth_fits op truth own)
call_typed C w width o h own = absurd h

pub op_typed : (C : Identifier → Thing → Type 0) (w : RawOp) (width : ℕ) (o : Op) → OpMeans C w o → width ≡ result_width w → ((line : ℕ) → ¬ OpClashesAt w line) → IsWellWrittenOp w → IsTyped width o
op_typed C (ops.Binary op flags n a c) width (core.Binary op' flags' x y) h wide typed own = rw (h.0, h.1) own
op_typed C (ops.Compare pred samesign n a c) width (core.Compare pred' samesign' m x y) h wide typed own = wide
op_typed C (ops.Call w) width o h wide typed own = call_typed C w.arguments width o h own
op_typed C (ops.Select z a c) width (core.Select z' x y) h wide typed own = tt
op_typed C (ops.Convert cast flags from a to) width (core.Convert cast' flags' n x) h wide typed own = rw (h.0, h.1, h.2, wide) (own, fits_unless cast from to (λ unfit. typed a.line (unfit, refl)))
op_typed C (ops.Freeze n a) width (core.Freeze x) h wide typed own = tt
op_typed C (ops.Phi n incoming) width (core.Phi entries) h wide typed own = tt
op_typed C w width o h wide typed own = absurd h

module _ (C : Identifier → Thing → Type 0) (cases : List RawCase) (entries : List (Number × ℕ)) (all : AllZip (CaseMeans C) cases entries) where
  -- no two cases have one value, if none has that of an earlier one
  differ_before : ((line : ℕ) → ¬ Repeats HasNumber IsCaseOn cases line) → (i j : ℕ) (c d : Number × ℕ) → i < j → slice_get entries i ≡ Some c → slice_get entries j ≡ Some d → ¬ (c.0.number ≡ d.0.number)
  differ_before once i j c d lt c_at d_at same =
      let (v, v_at, v_means) = pair_of_second (CaseMeans C) cases entries i c all c_at in
      let (w, w_at, w_means) = pair_of_second (CaseMeans C) cases entries j d all d_at in
      once w.value.line (j, (w, d.0.number, w_at, (d.0, w_means.0, refl), (v, before_place j cases v i lt v_at, (c.0, v_means.0, same)), refl))

  cases_differ : ((line : ℕ) → ¬ Repeats HasNumber IsCaseOn cases line) → CasesDiffer entries
  cases_differ once i j c d c_at d_at same =
      elim (cases_lt i j) [
        | inl lt ↦ absurd (differ_before once i j c d lt c_at d_at same)
        | inr ge ↦ elim (cases_lt j i) [ inl lt ↦ absurd (differ_before once j i d c lt d_at c_at (sym same)) | inr ge' ↦ omega arith ]
      ]

  case_widths : (returned n m : ℕ) (a : RawOperand) (other : RawIdentifier) → m ≡ n → ((line : ℕ) → ¬ EndClashesAt returned (terminators.Switch n a other cases) line) → All (λ e. e.0.width ≡ m) entries
  case_widths returned n m a other is typed k d lt =
      let e : Number × ℕ = get_or entries k d in
      let (w, w_at, w_means) = pair_of_second (CaseMeans C) cases entries k e all (slice_get-get_or entries k d lt) in
      let there = contained_at cases k w w_at in
      let written : w.width ≡ n = same_unless w.width n (λ apart. typed w.value.line (w, there, (inl apart, refl))) in
      let own : e.0.width ≡ w.width = same_unless e.0.width w.width (λ apart. typed w.value.line (w, there, (inr (inr (e.0, w_means.0, apart)), refl))) in
      own ∙ written ∙ sym is

pub cases_fit : (C : Identifier → Thing → Type 0) (returned : ℕ) (w : RawTerminator) (t : Terminator) → EndMeans C w t → ((line : ℕ) → ¬ EndClashesAt returned w line) → ((line : ℕ) → ¬ Repeats HasNumber IsCaseOn (cases_of w) line) → CasesFit t
cases_fit C returned (terminators.Return n a) (ends.Return x) h typed once = tt
cases_fit C returned terminators.Unreachable ends.Unreachable h typed once = tt
cases_fit C returned (terminators.Jump to) (ends.Jump c) h typed once = tt
cases_fit C returned (terminators.Branch n z to other) (ends.Branch x c d) h typed once = tt
cases_fit C returned (terminators.Switch n a other cases) (ends.Switch x m c entries) h typed once = (cases_differ C cases entries h.3 once, case_widths C cases entries h.3 returned n m a other h.0 typed)
cases_fit C returned w t h typed once = absurd h
