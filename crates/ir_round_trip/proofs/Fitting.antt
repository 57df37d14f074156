-- The canonical form of a function that meets its checks agrees in its types, and uses only what it defines.
use Rattle.ir_round_trip.proofs.Common.{◌≡◌, inl, inr, ℕ, List, [], map, Some, refl, sym, ap, subst, ◌∙◌, arith, slice_get, AllZip, All-contains, Identifier, OperandHasWidth, IsTyped, CasesFit, Op, Operand, Terminator, RawIdentifier, RawOp, RawTerminator, RawValue, RawIncoming, RawCase, Thing, Value, named_by, cases_of, literal_of, result_width, LiteralClashes, IsUnknownValue, Repeats, HasNumber, IsCaseOn, OpClashesAt, EndClashesAt, ValueMeans, BlockMeans, IncomingMeans, OpMeans, CaseMeans, EndMeans, place_of_contained, contained_at, place_before, some_same, pair_of_first, made_pairs, literal_meant, TypesFit, EndTypesFit}
use Rattle.ops.specs.Number.{Number}
use Rattle.ir_core.specs.declared.function.Function.{Function}
use Rattle.ir_core.specs.declared.instruction.Op.TheVariants as core
use Rattle.ir_core.specs.declared.operand.Operand.TheVariants as operands
use Rattle.ir_core.specs.declared.operand.Register.{Register}
use Rattle.ir_core.specs.declared.terminator.Terminator.TheVariants as ends
use Rattle.ir_tokens.specs.declared.raw.RawOp.TheVariants as ops
use Rattle.ir_tokens.specs.declared.raw.RawTerminator.TheVariants as terminators
use Rattle.ir_tokens.specs.declared.raw.RawValue.TheVariants as values

module _ (C : Identifier → Thing → Type 0) where
  -- ---- values

  -- an identifier that is read refers to a register
  pub register_meant : (x : Identifier) (a : Operand) → ValueMeans C (values.Register x) a → (r : Register) × (a ≡ operands.Register r) × C x (Value r)
  register_meant x (operands.Register r) h = (r, refl, h)
  register_meant x (operands.Number n) h = cc
  register_meant x operands.Undef h = absurd h
  register_meant x operands.Poison h = absurd h

  pub value_known : (v : RawValue) (a : Operand) → ValueMeans C v a → ¬ IsUnknownValue C v
  value_known v a h (x, is, none) = let (r, same, calls) = register_meant x a (subst (λ w. ValueMeans C w a) is h) in none r calls

  pub literal_fits : (f : Function) (width : ℕ) (v : RawValue) (a : Operand) → ValueMeans C v a → OperandHasWidth f width a → ¬ LiteralClashes width v
  literal_fits f width (values.Register x) a h wide (n, is, apart) = cc
  literal_fits f width values.Undef a h wide (n, is, apart) = cc
  literal_fits f width values.Poison a h wide (n, is, apart) = cc
  literal_fits f width v (operands.Number m) h wide (n, is, apart) =
      let literal : Some n ≡ Some m = sym is ∙ literal_meant C v m h in
      let same : n ≡ m = cc in
      apart (ap (λ (k : Number). k.width) same ∙ wide)
  literal_fits f width v a h wide clash = absurd h

  -- ---- blocks that are named

  abbrev pub IsBlockName : RawIdentifier → ℕ → Type 0
  IsBlockName w b = BlockMeans C w.identifier b

  pub op_names : (w : RawOp) (o : Op) → OpMeans C w o → (bs : List ℕ) × AllZip IsBlockName (named_by w) bs
  op_names (ops.Phi width written) (core.Phi entries) h =
      (map (λ e. e.1) entries, made_pairs IsBlockName (IncomingMeans C) (λ (i : RawIncoming). i.block) (λ (e : Operand × ℕ). e.1) (λ i e means. means.1) written entries h)
  op_names (ops.Binary op flags width a b) o h = ([], tt)
  op_names (ops.Compare pred samesign width a b) o h = ([], tt)
  op_names (ops.Call w) o h = ([], tt)
  op_names (ops.Select c a b) o h = ([], tt)
  op_names (ops.Convert cast flags from a to) o h = ([], tt)
  op_names (ops.Freeze width a) o h = ([], tt)
  op_names w o h = absurd h

  -- ---- types

  pub op_fits : (w : RawOp) (width line : ℕ) (o : Op) → OpMeans C w o → width ≡ result_width w → TypesFit w → IsTyped width o → ¬ OpClashesAt w line
  op_fits (ops.Select c a b) width line o h wide fit typed clash = elim clash [ inl (apart, on) ↦ apart fit.0 | inr (apart, on) ↦ apart (sym fit.1) ]
  op_fits (ops.Convert cast flags from a to) width line (core.Convert c g n x) h wide fit typed clash = clash.0 (rw (h.0, h.2, wide) at typed.1)
  op_fits (ops.Call w) width line o h wide fit typed clash = clash.0 fit
  op_fits (ops.Binary op flags n a b) width line o h wide fit typed clash = clash
  op_fits (ops.Compare pred samesign n a b) width line o h wide fit typed clash = clash
  op_fits (ops.Freeze n a) width line o h wide fit typed clash = clash
  op_fits (ops.Phi n written) width line o h wide fit typed clash = clash
  op_fits w width line o h wide fit typed clash = absurd h

  module _ (cases : List RawCase) (entries : List (Number × ℕ)) (all : AllZip (CaseMeans C) cases entries) where
    -- the number of a case as it is written
    case_entry : (k : ℕ) (c : RawCase) → slice_get cases k ≡ Some c → (e : Number × ℕ) × (slice_get entries k ≡ Some e) × (literal_of c.value.value ≡ Some e.0)
    case_entry k c at = let (e, e_at, means) = pair_of_first (CaseMeans C) cases entries k c all at in (e, e_at, means.0)

  pub end_fits : (returned line : ℕ) (w : RawTerminator) (t : Terminator) → EndMeans C w t → EndTypesFit returned w → CasesFit t → ¬ EndClashesAt returned w line
  end_fits returned line (terminators.Return n a) t h fit differ clash = clash.0 fit
  end_fits returned line (terminators.Branch n c to other) t h fit differ clash = clash.0 fit
  end_fits returned line (terminators.Switch n a other cases) (ends.Switch x m b entries) h fit differ (c, among, (clash, on)) =
      let (k, at) = place_of_contained cases c among in
      let (e, e_at, literal) = case_entry cases entries h.3 k c at in
      let written : c.width ≡ n = All-contains (λ (d : RawCase). d.width ≡ n) cases c fit among in
      let own : e.0.width ≡ m = All-contains (λ (d : Number × ℕ). d.0.width ≡ m) entries e differ.1 (contained_at entries k e e_at) in
      elim clash [
        | inl apart ↦ apart written
        | inr (inl none) ↦ cc
        | inr (inr (number, is, apart)) ↦ let same : number ≡ e.0 = some_same (sym is ∙ literal) in apart (ap (λ (i : Number). i.width) same ∙ own ∙ h.0 ∙ sym written)
      ]
  end_fits returned line (terminators.Jump to) t h fit differ clash = clash
  end_fits returned line terminators.Unreachable t h fit differ clash = clash
  end_fits returned line w t h fit differ clash = absurd h

  -- no two cases have the same number
  pub cases_differ : (line : ℕ) (w : RawTerminator) (t : Terminator) → EndMeans C w t → CasesFit t → ¬ Repeats HasNumber IsCaseOn (cases_of w) line
  cases_differ line (terminators.Switch n a other cases) (ends.Switch x m b entries) h differ (j, (c, number, at, (p, literal, is), (d, before, (q, literal', is')), on)) =
      let (i, lt, d_at) = place_before j cases d before in
      let (e, e_at, e_is) = case_entry cases entries h.3 j c at in
      let (g, g_at, g_is) = case_entry cases entries h.3 i d d_at in
      let own : p ≡ e.0 = some_same (sym literal ∙ e_is) in
      let other_own : q ≡ g.0 = some_same (sym literal' ∙ g_is) in
      let same : g.0.number ≡ e.0.number = ap (λ (k : Number). k.number) (sym other_own) ∙ is' ∙ sym is ∙ ap (λ (k : Number). k.number) own in
      let one : i ≡ j = differ.0 i j g e g_at e_at same in
      omega arith
  cases_differ line (terminators.Return n a) t h differ (j, (c, number, at, has, before, on)) = cc
  cases_differ line (terminators.Jump to) t h differ (j, (c, number, at, has, before, on)) = cc
  cases_differ line (terminators.Branch n v to other) t h differ (j, (c, number, at, has, before, on)) = cc
  cases_differ line terminators.Unreachable t h differ (j, (c, number, at, has, before, on)) = cc
  cases_differ line w t h differ again = absurd h
