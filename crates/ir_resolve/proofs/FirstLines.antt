-- Each kind of fault of a function as written has a first line, or there is no fault of the kind.
use Rattle.ir_resolve.proofs.Common.{◌≡◌, ◌≢◌, ◌⊎◌, inl, inr, ℕ, Bool, true, false, List, length, is_some, Option, None, Some, refl, sym, ap, subst, ◌∙◌, slice_get, map_dec, dec_lt, false≢true, slice_get_within, same_Some, Number, Cast, Trunc, ZExt, SExt, CastFits, Identifier, Named, Numbered, Register, RawFunction, RawBlock, RawIdentifier, RawInst, RawArguments, RawOp, RawCall, TypedOperand, RawTerminator, RawValue, RawCase, Entity, SomeAt, lesser, written_names, called_in, Typed, cases_of, IsMisnumbered, MisnumbersHere, NumberingAt, Repeats, HasName, IsWrittenOn, literal_of, HasNumber, IsCaseOn, HasNameOf, DuplicateAt, IsUnknownValue, IsUnknownBlock, UnknownIn, UnknownAt, LiteralClashes, ValueClashes, ReadClashesIn, OpClashesAt, CaseClashes, EndClashesAt, BlockClashesAt, TypeClashAt, TruthIsBit, ArgumentsFit, CallFits, Known, CallsIn, CallsRegisterIn, entity_in, register_of, block_of, Tabulates}
use Rattle.ir_tokens.specs.declared.raw.RawArguments.TheVariants as arguments
use Rattle.ir_tokens.specs.declared.raw.RawOp.TheVariants as ops
use Rattle.ir_tokens.specs.declared.raw.RawTerminator.TheVariants as terminators
use Rattle.ir_tokens.specs.declared.raw.RawValue.TheVariants as values
use Rattle.ir_resolve.specs.declared.names.definition.Entity.TheVariants as entities
use Rattle.ir_resolve.specs.TypedReads.{reads_of, targets_of}
use Rattle.ir_resolve.proofs.Places.{place_of_contained, contained_at}
use Rattle.ir_resolve.proofs.Unknowns.{value_unknown, block_unknown}
use Rattle.ir_resolve.proofs.Checked.{unknown_first, clash_first}
use Rattle.ir_resolve.proofs.Deciding.{dec_either, dec_not, dec_number, dec_name, dec_one, FirstOf, first_moved, first_on, first_of_two, first_of_some, first_by_place, first_at, HasOne, first_again}

-- ---- numbers of the series

dec_identifier : (x y : Identifier) → Dec (x ≡ y)
dec_identifier (Named a) (Named b) = map_dec (λ e. ap Named e) (λ e. cc) (dec_name a b)
dec_identifier (Numbered m) (Numbered n) = map_dec (λ e. ap Numbered e) (λ e. cc) (dec_number m n)
dec_identifier (Named a) (Numbered n) = no (λ e. cc)
dec_identifier (Numbered m) (Named b) = no (λ e. cc)

misnumbered_by : (line : ℕ) (x : Identifier) (identifier : Identifier) → FirstOf (λ at. (n : ℕ) × (x ≡ Numbered n) × (identifier ≢ Numbered n) × (line ≡ at))
misnumbered_by line (Named text) identifier = (None, λ at (n, is, other, on). cc)
misnumbered_by line (Numbered m) identifier =
    first_moved (λ at. (identifier ≢ Numbered m) × (line ≡ at)) (λ at. (n : ℕ) × (Numbered m ≡ Numbered n) × (identifier ≢ Numbered n) × (line ≡ at))
    (λ at (other, on). (m, refl, other, on))
    (λ at (n, is, other, on). let same : m ≡ n = cc in (λ e. other (e ∙ ap Numbered same), on))
    (first_on line (dec_not (dec_identifier identifier (Numbered m))))

first_misnumbered : (identifier : Identifier) (written : Option RawIdentifier) → FirstOf (IsMisnumbered written identifier)
first_misnumbered identifier None = (None, λ at (w, n, is, number, other, on). cc)
first_misnumbered identifier (Some w) =
    first_moved (λ at. (n : ℕ) × (w.identifier ≡ Numbered n) × (identifier ≢ Numbered n) × (w.line ≡ at)) (IsMisnumbered (Some w) identifier)
    (λ at (n, number, other, on). (w, n, refl, number, other, on))
    (λ at (v, n, is, number, other, on). let same : w ≡ v = same_Some w v is in (n, ap (λ (x : RawIdentifier). x.identifier) same ∙ number, other, ap (λ (x : RawIdentifier). x.line) same ∙ on))
    (misnumbered_by w.line w.identifier identifier)

pub first_numbering : (raw : RawFunction) → FirstOf (NumberingAt raw)
first_numbering raw =
    let written = written_names raw in
    first_by_place (MisnumbersHere written) (length written)
    (λ p. first_moved (λ line. (w : Option RawIdentifier) × (slice_get written p ≡ Some w) × ((i : Identifier) × (slice_get (called_in written) p ≡ Some i) × IsMisnumbered w i line)) (MisnumbersHere written p)
    (λ line (w, w_at, (i, i_at, is)). (w, i, w_at, i_at, is)) (λ line (w, i, w_at, i_at, is). (w, w_at, (i, i_at, is)))
    (first_at (λ w line. (i : Identifier) × (slice_get (called_in written) p ≡ Some i) × IsMisnumbered w i line) written p
    (λ w. first_at (λ i line. IsMisnumbered w i line) (called_in written) p (λ i. first_misnumbered i w))))
    (λ p line (w, i, w_at, i_at, is). slice_get_within written p w w_at)

-- ---- names that are given twice

one_name : (written : Option RawIdentifier) → HasOne HasName IsWrittenOn written ⊎ ((name : List ℕ) → ¬ HasName written name)
one_name None = inr (λ name (w, is, named). cc)
one_name (Some w) = by w.identifier refl
  where
    by : (x : Identifier) → w.identifier ≡ x → HasOne HasName IsWrittenOn (Some w) ⊎ ((name : List ℕ) → ¬ HasName (Some w) name)
    by (Numbered n) is = inr (λ name (v, same, named). let number : Numbered n ≡ Named name = sym is ∙ ap (λ (r : RawIdentifier). r.identifier) (same_Some w v same) ∙ named in cc)
    by (Named text) is = inl (
      text,
      w.line,
      (w, refl, is),
      λ name (v, same, named). let one : Named name ≡ Named text = sym named ∙ sym (ap (λ (r : RawIdentifier). r.identifier) (same_Some w v same)) ∙ is in cc,
      (w, refl, refl),
      λ at (v, same, on). ap (λ (r : RawIdentifier). r.line) (same_Some w v same) ∙ on,
    )

one_number : (c : RawCase) → HasOne HasNumber IsCaseOn c ⊎ ((number : ℕ) → ¬ HasNumber c number)
one_number c = by (literal_of c.value.value) refl
  where
    by : (found : Option Number) → literal_of c.value.value ≡ found → HasOne HasNumber IsCaseOn c ⊎ ((number : ℕ) → ¬ HasNumber c number)
    by None is = inr (λ number (n, literal, has). let none : None ≡ Some n = sym is ∙ literal in cc)
    by (Some m) is = inl (
      m.number,
      c.value.line,
      (m, is, refl),
      λ number (n, literal, has). sym has ∙ ap (λ (x : Number). x.number) (same_Some n m (sym literal ∙ is)),
      refl,
      λ at on. on,
    )

dec_name_of : (earlier : List RawFunction) (name : List ℕ) → Dec (HasNameOf earlier name)
dec_name_of earlier name =
    map_dec (λ (other, among, is). let (k, at) = place_of_contained earlier other among in (k, other, at, is)) (λ (k, other, at, is). (other, contained_at earlier k other at, is))
    (dec_one (λ (other : RawFunction). other.name ≡ name) earlier (λ other. dec_name other.name name))

pub first_duplicate : (earlier : List RawFunction) (raw : RawFunction) → FirstOf (DuplicateAt earlier raw)
first_duplicate earlier raw =
    let Names : ℕ → Type 0 = Repeats HasName IsWrittenOn (written_names raw) in
    let Cases : ℕ → Type 0 = SomeAt raw.blocks (λ block. Repeats HasNumber IsCaseOn (cases_of block.end)) in
    first_of_two (λ line. HasNameOf earlier raw.name × (raw.line ≡ line)) (λ line. Names line ⊎ Cases line)
    (first_on raw.line (dec_name_of earlier raw.name))
    (first_of_two Names Cases (first_again HasName IsWrittenOn dec_name one_name (written_names raw))
    (first_of_some (λ (block : RawBlock). Repeats HasNumber IsCaseOn (cases_of block.end)) raw.blocks (λ block. first_again HasNumber IsCaseOn dec_number one_number (cases_of block.end))))

-- ---- literals

dec_literal_clash : (width : ℕ) (v : RawValue) → Dec (LiteralClashes width v)
dec_literal_clash width v = by (literal_of v) refl
  where
    by : (found : Option Number) → literal_of v ≡ found → Dec (LiteralClashes width v)
    by None is = no (λ (n, literal, apart). let none : None ≡ Some n = sym is ∙ literal in cc)
    by (Some m) is = map_dec (λ apart. (m, is, apart)) (λ (n, literal, apart). subst (λ (x : Number). x.width ≢ width) (same_Some n m (sym literal ∙ is)) apart) (dec_not (dec_number m.width width))

-- ---- what is not defined, by a table of what the function defines

module _ (known : List Known) where
  dec_unknown_value : (v : RawValue) → Dec (IsUnknownValue (CallsIn known) v)
  dec_unknown_value (values.Register x) = by (is_some (register_of (entity_in known x))) refl
    where
      by : (found : Bool) → is_some (register_of (entity_in known x)) ≡ found → Dec (IsUnknownValue (CallsIn known) (values.Register x))
      by true is = no (λ none. false≢true ((value_unknown known (values.Register x) x (register_of (entity_in known x)) false refl refl is).1 none))
      by false is = yes ((value_unknown known (values.Register x) x (register_of (entity_in known x)) true refl refl is).0 refl)
  dec_unknown_value (values.Number n) = no (λ (x, is, none). cc)
  dec_unknown_value values.True = no (λ (x, is, none). cc)
  dec_unknown_value values.False = no (λ (x, is, none). cc)
  dec_unknown_value values.Undef = no (λ (x, is, none). cc)
  dec_unknown_value values.Poison = no (λ (x, is, none). cc)

  dec_unknown_block : (x : Identifier) → Dec (IsUnknownBlock (CallsIn known) x)
  dec_unknown_block x = by (is_some (block_of (entity_in known x))) refl
    where
      by : (found : Bool) → is_some (block_of (entity_in known x)) ≡ found → Dec (IsUnknownBlock (CallsIn known) x)
      by true is = no (λ none. false≢true ((block_unknown known x (block_of (entity_in known x)) false refl is).1 none))
      by false is = yes ((block_unknown known x (block_of (entity_in known x)) true refl is).0 refl)

  first_unknown_in : (reads : List Typed) (targets : List RawIdentifier) → FirstOf (UnknownIn (CallsIn known) reads targets)
  first_unknown_in reads targets =
      let Read : Typed → ℕ → Type 0 = λ t at. IsUnknownValue (CallsIn known) t.operand.value × (t.operand.line ≡ at) in
      let Target : RawIdentifier → ℕ → Type 0 = λ w at. IsUnknownBlock (CallsIn known) w.identifier × (w.line ≡ at) in
      first_of_two (SomeAt reads Read) (SomeAt targets Target)
      (first_of_some Read reads (λ t. first_on t.operand.line (dec_unknown_value t.operand.value)))
      (first_of_some Target targets (λ w. first_on w.line (dec_unknown_block w.identifier)))

  -- ---- types

  dec_entity_clash : (width : ℕ) (found : Option Entity) → Dec ((r : Register) × (other : ℕ) × (found ≡ Some (entities.Register r other)) × (other ≢ width))
  dec_entity_clash width None = no (λ (r, other, is, apart). cc)
  dec_entity_clash width (Some (entities.Block b)) = no (λ (r, other, is, apart). cc)
  dec_entity_clash width (Some (entities.Register r m)) =
      map_dec (λ apart. (r, m, refl, apart)) (λ (s, other, is, apart). let same : other ≡ m = cc in subst (λ n. n ≢ width) same apart) (dec_not (dec_number m width))

  dec_register_clash : (width : ℕ) (v : RawValue) → Dec ((x : Identifier) × (r : Register) × (other : ℕ) × (v ≡ values.Register x) × CallsRegisterIn known x r other × (other ≢ width))
  dec_register_clash width (values.Register x) =
      map_dec (λ (r, other, is, apart). (x, r, other, refl, is, apart))
      (λ (y, r, other, is, calls, apart). let same : y ≡ x = cc in (r, other, subst (λ z. CallsRegisterIn known z r other) same calls, apart))
      (dec_entity_clash width (entity_in known x))
  dec_register_clash width (values.Number n) = no (λ (x, r, other, is, calls, apart). cc)
  dec_register_clash width values.True = no (λ (x, r, other, is, calls, apart). cc)
  dec_register_clash width values.False = no (λ (x, r, other, is, calls, apart). cc)
  dec_register_clash width values.Undef = no (λ (x, r, other, is, calls, apart). cc)
  dec_register_clash width values.Poison = no (λ (x, r, other, is, calls, apart). cc)

  first_clash_in : (reads : List Typed) → FirstOf (ReadClashesIn (CallsRegisterIn known) reads)
  first_clash_in reads =
      first_of_some (λ (t : Typed) at. ValueClashes (CallsRegisterIn known) t.width t.operand.value × (t.operand.line ≡ at)) reads
      (λ t. first_on t.operand.line (dec_either (dec_literal_clash t.width t.operand.value) (dec_register_clash t.width t.operand.value)))

dec_cast : (cast : Cast) (from to : ℕ) → Dec (CastFits cast from to)
dec_cast Trunc from to = dec_lt to from
dec_cast ZExt from to = dec_lt from to
dec_cast SExt from to = dec_lt from to

-- both of two
dec_both : {P Q : Type 0} → Dec P → Dec Q → Dec (P × Q)
dec_both (yes p) (yes q) = yes (p, q)
dec_both (yes p) (no q) = no (λ h. q h.1)
dec_both (no p) q = no (λ h. p h.0)

dec_truth : (truth : Option TypedOperand) → Dec (TruthIsBit truth)
dec_truth None = yes tt
dec_truth (Some t) = dec_both (dec_number t.width 1) (dec_not (dec_literal_clash 1 t.operand.value))

dec_arguments : (width : ℕ) (w : RawArguments) → Dec (ArgumentsFit width w)
dec_arguments width (arguments.Binary op a b) = dec_both (dec_number a.width width) (dec_number b.width width)
dec_arguments width (arguments.Unary op a truth) = dec_both (dec_number a.width width) (dec_truth truth)

dec_call : (call : RawCall) → Dec (CallFits call)
dec_call call = dec_both (dec_number call.named call.width) (dec_arguments call.width call.arguments)

first_op_clash : (op : RawOp) → FirstOf (OpClashesAt op)
first_op_clash (ops.Select c a b) =
    first_of_two (λ line. (c.width ≢ 1) × (c.operand.line ≡ line)) (λ line. (a.width ≢ b.width) × (b.operand.line ≡ line))
    (first_on c.operand.line (dec_not (dec_number c.width 1))) (first_on b.operand.line (dec_not (dec_number a.width b.width)))
first_op_clash (ops.Convert cast flags from a to) = first_on a.line (dec_not (dec_cast cast from to))
first_op_clash (ops.Call call) = first_on call.line (dec_not (dec_call call))
first_op_clash (ops.Binary op flags width a b) = (None, λ line h. h)
first_op_clash (ops.Compare pred samesign width a b) = (None, λ line h. h)
first_op_clash (ops.Freeze width a) = (None, λ line h. h)
first_op_clash (ops.Phi width incoming) = (None, λ line h. h)

dec_no_literal : (v : RawValue) → Dec (literal_of v ≡ None)
dec_no_literal v = by (literal_of v)
  where
    by : (found : Option Number) → Dec (found ≡ None)
    by None = yes refl
    by (Some n) = no (λ e. cc)

first_end_clash : (returned : ℕ) (end : RawTerminator) → FirstOf (EndClashesAt returned end)
first_end_clash returned (terminators.Return width a) = first_on a.line (dec_not (dec_number width returned))
first_end_clash returned (terminators.Branch width c to other) = first_on c.line (dec_not (dec_number width 1))
first_end_clash returned (terminators.Switch width a other cases) =
    first_of_some (λ (c : RawCase) at. CaseClashes width c × (c.value.line ≡ at)) cases
    (λ c. first_on c.value.line (dec_either (dec_not (dec_number c.width width)) (dec_either (dec_no_literal c.value.value) (dec_literal_clash c.width c.value.value))))
first_end_clash returned terminators.Unreachable = (None, λ line h. h)
first_end_clash returned (terminators.Jump to) = (None, λ line h. h)

first_block_clash : (returned : ℕ) (block : RawBlock) → FirstOf (BlockClashesAt returned block)
first_block_clash returned block =
    first_of_two (SomeAt block.insts (λ i. OpClashesAt i.op)) (EndClashesAt returned block.end)
    (first_of_some (λ (i : RawInst). OpClashesAt i.op) block.insts (λ i. first_op_clash i.op)) (first_end_clash returned block.end)

-- ---- for the whole function

module _ (raw : RawFunction) (known : List Known) (table : Tabulates raw known) where
  pub first_unknown : FirstOf (UnknownAt raw)
  first_unknown = let (found, first) = first_unknown_in known (reads_of raw) (targets_of raw) in (found, unknown_first raw known table (reads_of raw) (targets_of raw) found refl refl first)

  pub first_type_clash : FirstOf (TypeClashAt raw)
  first_type_clash =
      let (read, first_read) = first_clash_in known (reads_of raw) in
      let (block, first_block) = first_of_some (BlockClashesAt raw.width) raw.blocks (first_block_clash raw.width) in
      (lesser read block, clash_first raw known table (reads_of raw) raw.blocks read block (lesser read block) refl refl first_read first_block refl)
