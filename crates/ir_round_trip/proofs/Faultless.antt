-- The canonical form of a function that meets its checks has no fault as it is written.
use Rattle.ir_round_trip.proofs.Common.{◌≡◌, inl, inr, ℕ, List, length, Some, sym, ap, subst, ◌∙◌, arith, Contains, slice_get, option_map, option_and_then, All-contains, slice_get-map, Identifier, Named, Numbered, Parameter, Inst, OperandHasWidth, IsFormed, Name, names_of, width_of, targets_of, Read, IsRead, reads_of, reads_at_end, RawFunction, RawBlock, RawInst, RawIdentifier, Numbering, Duplicate, Unknown, TypeClash, Value, name_in, given, written_names, Calls, Typed, read_by, read_at_end, named_by, named_at_end, NumberingAt, Repeats, HasName, IsWrittenOn, HasNameOf, DuplicateAt, UnknownAt, RegisterHasWidth, CallsRegister, ValueClashes, BlockClashesAt, TypeClashAt, ValueMeans, BlockMeans, InstMeans, BlockIsOf, ParameterMeans, Means, HasNoFault, place_of_contained, contained_at, place_before, some_same, pair_of_first, ReadMeans, reads_meant, reads_meant_at_end, targets_meant, table, TypesFit, BlockTypesFit, WritesFunction}
use Rattle.ir_core.specs.declared.function.Function.{Function}
use Rattle.ir_core.specs.declared.function.Block.{Block as CoreBlock}
use Rattle.ir_core.specs.declared.operand.Register.{Register}
use Rattle.ir_core.specs.declared.operand.Register.TheVariants as registers
use Rattle.ir_resolve.specs.TypedReads.{reads_of as all_reads}
use Rattle.ir_round_trip.proofs.Naming.{names_are, identifiers_are}
use Rattle.ir_round_trip.proofs.Known.{inst_reads, end_reads}
use Rattle.ir_round_trip.proofs.Canonical.{is_meant}
use Rattle.ir_round_trip.proofs.Places.{StandsIn, in_inst, in_end, stands_in}
use Rattle.ir_round_trip.proofs.Fitting.{register_meant, value_known, literal_fits, IsBlockName, op_names, op_fits, end_fits, cases_differ}

module _ (raw : RawFunction) (f : Function) (writes : WritesFunction raw f) (formed : IsFormed f) where
  m : Means raw f
  m = is_meant raw f writes.means formed

  -- ---- names and numbers

  no_numbering : (line : ℕ) → ¬ NumberingAt raw line
  no_numbering line (p, (w, identifier, w_at, at, (written, n, is, number, other, on))) =
      let called_so = writes.names p written (w_at ∙ ap Some is) in
      let called = ap (λ names. slice_get names p) (identifiers_are raw f writes.means) in
      let same : Some identifier ≡ Some (Numbered n) = cc in
      other (some_same same)

  -- a name that is written is that of the thing
  name_at : (p : ℕ) (w : RawIdentifier) (name : List ℕ) → slice_get (written_names raw) p ≡ Some (Some w) → w.identifier ≡ Named name → slice_get (names_of f) p ≡ Some (Some name)
  name_at p w name at is =
      ap (λ (names : List Name). slice_get names p) (names_are raw f writes.means) ∙ slice_get-map given (written_names raw) p ∙ ap (option_map given) at ∙ ap (λ x. Some (name_in x)) is

  no_repeat : (line : ℕ) → ¬ Repeats HasName IsWrittenOn (written_names raw) line
  no_repeat line (j, (w, name, at, (v, is, named), (w', before, (v', is', named')), on)) =
      let (i, lt, at') = place_before j (written_names raw) w' before in
      let one : i ≡ j = formed.names i j name (name_at i v' name (at' ∙ ap Some is') named') (name_at j v name (at ∙ ap Some is) named) in
      omega arith

  no_duplicate : (earlier : List RawFunction) → ¬ HasNameOf earlier f.name → (line : ℕ) → ¬ DuplicateAt earlier raw line
  no_duplicate earlier first line h = elim h [
    | inl (named, on) ↦ first (subst (HasNameOf earlier) (sym writes.means.name) named)
    | inr (inl again) ↦ no_repeat line again
    | inr (inr (w, among, again)) ↦
        let (b, at) = place_of_contained raw.blocks w among in
        let (block, is, means) = pair_of_first (BlockIsOf (Calls raw)) raw.blocks f.blocks b w m.blocks at in
        cases_differ (Calls raw) line w.end block.end means.2 (formed.cases b block is) again
  ]

  -- ---- types that are written in one instruction

  no_block_clash : (w : RawBlock) (line : ℕ) → Contains raw.blocks w → ¬ BlockClashesAt raw.width w line
  no_block_clash w line among clash =
      let (b, at) = place_of_contained raw.blocks w among in
      let (block, is, means) = pair_of_first (BlockIsOf (Calls raw)) raw.blocks f.blocks b w m.blocks at in
      let types = All-contains (BlockTypesFit raw.width) raw.blocks w writes.types among in
      elim clash [
        | inl (v, v_among, v_clash) ↦
            let (k, v_at) = place_of_contained w.insts v v_among in
            let (inst, inst_at, v_means) = pair_of_first (InstMeans (Calls raw)) w.insts block.insts k v means.1 v_at in
            op_fits (Calls raw) v.op inst.width line inst.op v_means.2 v_means.1 (All-contains (λ (i : RawInst). TypesFit i.op) w.insts v types.0 v_among)
            (formed.insts b k inst (record { block = block; is_block = is; is_inst = inst_at })) v_clash
        | inr end_clash ↦ end_fits (Calls raw) raw.width line w.end block.end means.2 types.1 (formed.cases b block is) end_clash
      ]

  -- ---- operands

  -- an operand that is written is one that is read
  abbrev IsOneRead : Typed → Type 0
  IsOneRead t = (r : Read) × ReadMeans (Calls raw) t r × OperandHasWidth f r.width r.operand

  read_there : (b k i : ℕ) (r : Read) (t : Typed) → IsRead f b k i r → ReadMeans (Calls raw) t r → IsOneRead t
  read_there b k i r t is means = (r, means, formed.operands b k i r is)

  one_read : (t : Typed) → StandsIn read_by read_at_end raw t → IsOneRead t
  one_read t (in_inst b k q w v at v_at t_at) =
      let (block, is, means) = pair_of_first (BlockIsOf (Calls raw)) raw.blocks f.blocks b w m.blocks at in
      let (inst, inst_at, v_means) = pair_of_first (InstMeans (Calls raw)) w.insts block.insts k v means.1 v_at in
      let all = reads_meant (Calls raw) f b k v.op inst.width inst.op v_means.2 v_means.1 (λ line clash. no_block_clash w line (contained_at raw.blocks b w at) (inl (v, contained_at w.insts k v v_at, clash))) in
      let (r, r_at, r_means) = pair_of_first (ReadMeans (Calls raw)) (read_by v.op) (reads_of f b k inst.width inst.op) q t all t_at in
      read_there b k q r t (ap (λ rs. slice_get rs q) (inst_reads f b k block inst is inst_at) ∙ r_at) r_means
  one_read t (in_end b q w at t_at) =
      let (block, is, means) = pair_of_first (BlockIsOf (Calls raw)) raw.blocks f.blocks b w m.blocks at in
      let n = length block.insts in
      let all = reads_meant_at_end (Calls raw) f b n raw.width w.end block.end m.width means.2 (λ line clash. no_block_clash w line (contained_at raw.blocks b w at) (inr clash)) in
      let (r, r_at, r_means) = pair_of_first (ReadMeans (Calls raw)) (read_at_end w.end) (reads_at_end f b n block.end) q t all t_at in
      read_there b n q r t (ap (λ rs. slice_get rs q) (end_reads f b block is) ∙ r_at) r_means

  read_is : (t : Typed) → Contains (all_reads raw) t → IsOneRead t
  read_is t among = one_read t (stands_in read_by read_at_end raw t among)

  -- a block that is named is a block of the function
  one_target : (w : RawIdentifier) → StandsIn named_by named_at_end raw w → (b : ℕ) × BlockMeans (Calls raw) w.identifier b
  one_target x (in_inst b k q w v at v_at x_at) =
      let (block, is, means) = pair_of_first (BlockIsOf (Calls raw)) raw.blocks f.blocks b w m.blocks at in
      let (inst, inst_at, v_means) = pair_of_first (InstMeans (Calls raw)) w.insts block.insts k v means.1 v_at in
      let (bs, all) = op_names (Calls raw) v.op inst.op v_means.2 in
      let (c, c_at, calls) = pair_of_first (IsBlockName (Calls raw)) (named_by v.op) bs q x all x_at in
      (c, calls)
  one_target x (in_end b q w at x_at) =
      let (block, is, means) = pair_of_first (BlockIsOf (Calls raw)) raw.blocks f.blocks b w m.blocks at in
      let (c, c_at, calls) = pair_of_first (IsBlockName (Calls raw)) (named_at_end w.end) (targets_of block.end) q x (targets_meant (Calls raw) w.end block.end means.2) x_at in
      (c, calls)

  no_unknown : (line : ℕ) → ¬ UnknownAt raw line
  no_unknown line h = elim h [
    | inl (t, among, (unknown, on)) ↦ let (r, means, wide) = read_is t among in value_known (Calls raw) t.operand.value r.operand means.0 unknown
    | inr (w, among, (unknown, on)) ↦ let (b, calls) = one_target w (stands_in named_by named_at_end raw w among) in unknown b calls
  ]

  -- ---- the widths of operands

  width_is : (r : Register) (width : ℕ) → RegisterHasWidth raw r width → width_of f r ≡ Some width
  width_is (registers.Parameter k) width (p, at, is) =
      let (q, q_at, means) = pair_of_first ParameterMeans raw.parameters f.parameters k p m.parameters at in
      ap (option_map (λ (x : Parameter). x.width)) q_at ∙ ap Some (means.0 ∙ is)
  width_is (registers.Result b k) width (v, (w, at, v_at), is) =
      let (block, is_block, means) = pair_of_first (BlockIsOf (Calls raw)) raw.blocks f.blocks b w m.blocks at in
      let (inst, inst_at, v_means) = pair_of_first (InstMeans (Calls raw)) w.insts block.insts k v means.1 v_at in
      ap (option_and_then (λ (x : CoreBlock). option_map (λ (i : Inst). i.width) (slice_get x.insts k))) is_block ∙ ap (option_map (λ (i : Inst). i.width)) inst_at ∙ ap Some (v_means.1 ∙ is)

  -- an identifier refers to one register only
  one_register : (x : Identifier) (r s : Register) → Calls raw x (Value r) → Calls raw x (Value s) → r ≡ s
  one_register x r s p q =
      let (n, r_found) = ((table raw no_repeat).things x (Value r)).1 p in
      let (k, s_found) = ((table raw no_repeat).things x (Value s)).1 q in
      cc

  register_fits : (x : Identifier) (r s : Register) (width other : ℕ) → Calls raw x (Value s) → width_of f s ≡ Some width → CallsRegister raw x r other → other ≡ width
  register_fits x r s width other calls wide (calls', wide') =
      let same : r ≡ s = one_register x r s calls' calls in
      some_same (sym (width_is r other wide') ∙ ap (width_of f) same ∙ wide)

  read_fits : (t : Typed) → IsOneRead t → ¬ ValueClashes (CallsRegister raw) t.width t.operand.value
  read_fits t (r, means, wide) clash =
      let fits : OperandHasWidth f t.width r.operand = subst (λ width. OperandHasWidth f width r.operand) (sym means.1) wide in
      elim clash [
        | inl literal ↦ literal_fits (Calls raw) f t.width t.operand.value r.operand means.0 fits literal
        | inr (x, register, other, is, calls, apart) ↦
            let (s, same, calls_s) = register_meant (Calls raw) x r.operand (subst (λ v. ValueMeans (Calls raw) v r.operand) is means.0) in
            apart (register_fits x register s t.width other calls_s (subst (OperandHasWidth f t.width) same fits) calls)
      ]

  no_type_clash : (line : ℕ) → ¬ TypeClashAt raw line
  no_type_clash line h = elim h [
    | inl (t, among, (clash, on)) ↦ read_fits t (read_is t among) clash
    | inr (w, among, clash) ↦ no_block_clash w line among clash
  ]

  pub no_fault : (earlier : List RawFunction) → ¬ HasNameOf earlier f.name → HasNoFault earlier raw
  no_fault earlier first Numbering line = no_numbering line
  no_fault earlier first Duplicate line = no_duplicate earlier first line
  no_fault earlier first Unknown line = no_unknown line
  no_fault earlier first TypeClash line = no_type_clash line
  no_fault earlier first kind line = λ h. h
