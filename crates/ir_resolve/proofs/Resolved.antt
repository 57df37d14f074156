-- A function that is meant, by one as written without a fault, is resolved.
use Rattle.ir_resolve.proofs.Common.{◌≡◌, inl, inr, ℕ, ◌<◌, ◌==◌, Bool, true, false, cond, [], ◌++◌, map, length, Option, None, Some, refl, sym, ap, subst, ◌∙◌, arith, Contains, slice_get, option_map, option_and_then, flat_map, cases_lt, map-append, Contains-append_left, Contains-append_right, Number, Identifier, Named, block_names, names_of, width_of, NamesDiffer, IsKnown, OperandHasWidth, IsInst, IsTyped, CasesFit, IsBlock, Names, Read, IsRead, reads_at_end, reads_by, reads_in, Function, Inst, Operand, Register, RawFunction, RawBlock, RawInst, RawValue, SomeAt, Calls, given, written_in, written_names, Typed, read_by, read_at_end, named_at_end, cases_of, read_in, literal_of, Repeats, HasName, IsWrittenOn, HasNumber, IsCaseOn, RegisterHasWidth, CallsRegister, TypeClashAt, ValueMeans, BlockMeans, InstMeans, BlockIsOf, ParameterMeans, Means, IsWellWrittenOp, IsWellWritten, IsWellNamed}
use Rattle.ir_core.specs.Blocks.{targets_of}
use Rattle.ir_core.specs.Reads.{reads_of}
use Rattle.ir_core.specs.declared.function.Block.{Block as CoreBlock}
use Rattle.ir_core.specs.declared.operand.Operand.TheVariants as operands
use Rattle.ir_core.specs.declared.operand.Register.TheVariants as registers
use Rattle.ir_tokens.specs.declared.raw.RawValue.TheVariants as values
use Rattle.ir_resolve.specs.TypedReads.{reads_of as all_reads}
use Rattle.ir_resolve.proofs.Places.{place_of_contained, contained_at}
use Rattle.ir_resolve.proofs.Series.{named_from}
use Rattle.ir_resolve.proofs.Tabling.{width_of_register, once}
use Rattle.ir_resolve.proofs.Checked.{contained_in_some}
use Rattle.ir_resolve.proofs.Pairs.{pair_of_first, pair_of_second, same_length}
use Rattle.ir_resolve.proofs.Forming.{same_unless, parameter_names, names_in_blocks, literal_meant, ReadMeans, reads_meant, reads_meant_at_end, targets_meant, op_typed, cases_fit}

module _ (raw : RawFunction) (f : Function) (m : Means raw f) where
  -- ---- names

  pub names_are : names_of f ≡ map given (written_names raw)
  names_are =
      ap (λ ns. ns ++ flat_map block_names f.blocks) (parameter_names raw.parameters f.parameters m.parameters)
      ∙ ap (λ ns. map given (map (λ p. p.name) raw.parameters) ++ ns) (names_in_blocks (Calls raw) raw.blocks f.blocks m.blocks)
      ∙ sym (map-append given (map (λ p. p.name) raw.parameters) (flat_map written_in raw.blocks))

  names_differ : ((line : ℕ) → ¬ Repeats HasName IsWrittenOn (written_names raw) line) → NamesDiffer (names_of f)
  names_differ no_repeat i j name i_at j_at =
      let at_i = named_from 0 (map given (written_names raw)) i name (ap (λ ns. slice_get ns i) (sym names_are) ∙ i_at) in
      let at_j = named_from 0 (map given (written_names raw)) j name (ap (λ ns. slice_get ns j) (sym names_are) ∙ j_at) in
      elim (cases_lt i j) [
        | inl lt ↦ absurd (once (written_names raw) no_repeat j i (Named name) lt at_i at_j)
        | inr ge ↦ elim (cases_lt j i) [ inl lt ↦ absurd (once (written_names raw) no_repeat i j (Named name) lt at_j at_i) | inr ge' ↦ omega arith ]
      ]

  -- ---- registers

  width_is : (r : Register) (width : ℕ) → RegisterHasWidth raw r width → width_of f r ≡ Some width
  width_is (registers.Parameter k) width (p, at, is) =
      let (q, q_at, means) = pair_of_first ParameterMeans raw.parameters f.parameters k p m.parameters at in
      ap (option_map (λ q. q.width)) q_at ∙ ap Some (means.0 ∙ is)
  width_is (registers.Result d j) width (inst, (b, at, inst_at), is) =
      let (c, c_at, means) = pair_of_first (BlockIsOf (Calls raw)) raw.blocks f.blocks d b m.blocks at in
      let (i, i_at, i_means) = pair_of_first (InstMeans (Calls raw)) b.insts c.insts j inst means.1 inst_at in
      ap (option_and_then (λ (x : CoreBlock). option_map (λ i. i.width) (slice_get x.insts j))) c_at ∙ ap (option_map (λ i. i.width)) i_at ∙ ap Some (i_means.1 ∙ is)

  -- a value that fits the width that is written for it is known, and has the width

  value_fits : (v : RawValue) (a : Operand) (width : ℕ) → ValueMeans (Calls raw) v a → ((n : Number) → literal_of v ≡ Some n → n.width ≡ width)
      → ((x : Identifier) (r : Register) (other : ℕ) → v ≡ values.Register x → CallsRegister raw x r other → other ≡ width) → IsKnown f a × OperandHasWidth f width a
  value_fits v (operands.Number n) width means literal register = (tt, literal n (literal_meant (Calls raw) v n means))
  value_fits v operands.Undef width means literal register = (tt, tt)
  value_fits v operands.Poison width means literal register = (tt, tt)
  value_fits (values.Register x) (operands.Register r) width means literal register =
      let (other, wide) = width_of_register raw r means.0 in
      let is : width_of f r ≡ Some other = width_is r other wide in
      (rw is refl, is ∙ ap Some (register x r other refl (means, wide)))
  value_fits v (operands.Register r) width means literal register = absurd means

  -- ---- operands, and targets of terminators

  module _ (no_clash : (line : ℕ) → ¬ TypeClashAt raw line) where
    abbrev IsWritten : Read → Type 0
    IsWritten r = (t : Typed) × Contains (all_reads raw) t × ReadMeans (Calls raw) t r

    module _ (b k i : ℕ) (r : Read) (block : CoreBlock) (w : RawBlock) (in_raw : Contains raw.blocks w) (means : BlockIsOf (Calls raw) w block) where
      written_at_end : (is_end : Bool) → slice_get (cond is_end (reads_at_end f b k block.end) []) i ≡ Some r → IsWritten r
      written_at_end true at =
          let all = reads_meant_at_end (Calls raw) f b k raw.width w.end block.end m.width means.2 (λ line clash. no_clash line (inr (w, in_raw, inr clash))) in
          let (t, t_at, t_means) = pair_of_second (ReadMeans (Calls raw)) (read_at_end w.end) (reads_at_end f b k block.end) i r all at in
          (t, contained_in_some read_in raw.blocks w t in_raw (Contains-append_right (flat_map (λ (j : RawInst). read_by j.op) w.insts) (read_at_end w.end) t (contained_at (read_at_end w.end) i t t_at)), t_means)
      written_at_end false at = cc

      written_at_place : (o : Option Inst) → slice_get block.insts k ≡ o → slice_get (reads_by f b k block o) i ≡ Some r → IsWritten r
      written_at_place None is at = written_at_end (k == length block.insts) at
      written_at_place (Some inst) is at =
          let (v, v_at, v_means) = pair_of_second (InstMeans (Calls raw)) w.insts block.insts k inst means.1 is in
          let in_insts = contained_at w.insts k v v_at in
          let all = reads_meant (Calls raw) f b k v.op inst.width inst.op v_means.2 v_means.1 (λ line clash. no_clash line (inr (w, in_raw, inl (v, in_insts, clash)))) in
          let (t, t_at, t_means) = pair_of_second (ReadMeans (Calls raw)) (read_by v.op) (reads_of f b k inst.width inst.op) i r all at in
          let in_reads = contained_in_some (λ (j : RawInst). read_by j.op) w.insts v t in_insts (contained_at (read_by v.op) i t t_at) in
          (t, contained_in_some read_in raw.blocks w t in_raw (Contains-append_left (flat_map (λ (j : RawInst). read_by j.op) w.insts) (read_at_end w.end) t in_reads), t_means)

    written_in_block : (b k i : ℕ) (r : Read) (o : Option CoreBlock) → slice_get f.blocks b ≡ o → slice_get (reads_in f b k o) i ≡ Some r → IsWritten r
    written_in_block b k i r None is at = cc
    written_in_block b k i r (Some block) is at =
        let (w, w_at, means) = pair_of_second (BlockIsOf (Calls raw)) raw.blocks f.blocks b block m.blocks is in
        written_at_place b k i r block w (contained_at raw.blocks b w w_at) means (slice_get block.insts k) refl at

    read_fits : (b k i : ℕ) (r : Read) → IsRead f b k i r → IsKnown f r.operand × OperandHasWidth f r.width r.operand
    read_fits b k i r at =
        let (t, there, means) = written_in_block b k i r (slice_get f.blocks b) refl at in
        let line = t.operand.line in
        subst (λ width. IsKnown f r.operand × OperandHasWidth f width r.operand) means.1
        (value_fits t.operand.value r.operand t.width means.0
        (λ n is. same_unless n.width t.width (λ apart. no_clash line (inl (t, there, (inl (n, is, apart), refl)))))
        (λ x register other is calls. same_unless other t.width (λ apart. no_clash line (inl (t, there, (inr (x, register, other, is, calls, apart), refl))))))

    insts_typed : ((block : RawBlock) (inst : RawInst) → Contains raw.blocks block → Contains block.insts inst → IsWellWrittenOp inst.op) → (b k : ℕ) (inst : Inst) → IsInst f b k inst → IsTyped inst.width inst.op
    insts_typed flags b k inst is =
        let (w, w_at, means) = pair_of_second (BlockIsOf (Calls raw)) raw.blocks f.blocks b is.block m.blocks is.is_block in
        let (v, v_at, v_means) = pair_of_second (InstMeans (Calls raw)) w.insts is.block.insts k inst means.1 is.is_inst in
        let in_raw = contained_at raw.blocks b w w_at in
        let in_insts = contained_at w.insts k v v_at in
        op_typed (Calls raw) v.op inst.width inst.op v_means.2 v_means.1 (λ line clash. no_clash line (inr (w, in_raw, inl (v, in_insts, clash)))) (flags w v in_raw in_insts)

    all_cases_fit : ((line : ℕ) → ¬ SomeAt raw.blocks (λ block. Repeats HasNumber IsCaseOn (cases_of block.end)) line) → (b : ℕ) (block : CoreBlock) → IsBlock f b block → CasesFit block.end
    all_cases_fit no_case b block is =
        let (w, w_at, means) = pair_of_second (BlockIsOf (Calls raw)) raw.blocks f.blocks b block m.blocks is in
        let in_raw = contained_at raw.blocks b w w_at in
        cases_fit (Calls raw) raw.width w.end block.end means.2 (λ line clash. no_clash line (inr (w, in_raw, inr clash))) (λ line again. no_case line (w, in_raw, again))

  names_within : (b c : ℕ) → Names f b c → c < length f.blocks
  names_within b c (block, is, there) =
      let (w, w_at, means) = pair_of_second (BlockIsOf (Calls raw)) raw.blocks f.blocks b block m.blocks is in
      let (j, c_at) = place_of_contained (targets_of block.end) c there in
      let (x, x_at, calls) = pair_of_second (λ x d. BlockMeans (Calls raw) x.identifier d) (named_at_end w.end) (targets_of block.end) j c (targets_meant (Calls raw) w.end block.end means.2) c_at in
      let lt : c < length raw.blocks = calls.0 in
      omega (arith, same_length (BlockIsOf (Calls raw)) raw.blocks f.blocks m.blocks)

pub resolved : (raw : RawFunction) (f : Function) → Means raw f → ((line : ℕ) → ¬ Repeats HasName IsWrittenOn (written_names raw) line)
    → ((line : ℕ) → ¬ SomeAt raw.blocks (λ block. Repeats HasNumber IsCaseOn (cases_of block.end)) line) → ((line : ℕ) → ¬ TypeClashAt raw line) → IsWellWritten raw → IsWellNamed f
resolved raw f m no_repeat no_case no_clash w = record {
  some_block = let some : 0 < length raw.blocks = w.some_block in omega (arith, same_length (BlockIsOf (Calls raw)) raw.blocks f.blocks m.blocks);
  names = names_differ raw f m no_repeat;
  registers = λ b k i r at. (read_fits raw f m no_clash b k i r at).0;
  blocks = names_within raw f m;
  operands = λ b k i r at. (read_fits raw f m no_clash b k i r at).1;
  insts = insts_typed raw f m no_clash w.insts;
  cases = all_cases_fit raw f m no_clash no_case;
}
