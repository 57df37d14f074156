-- What is not defined or clashes by the table does so in the function, and what the function is built of is defined.
use Rattle.ir_resolve.proofs.Common.{◌≡◌, ◌⊎◌, inl, inr, ℕ, zero, suc, List, [], ◌∷◌, get_or, Option, None, refl, sym, subst, arith, Contains, flat_map, AllByRecursion, recursion_from_All, Contains-get_or, Contains-append_left, Contains-append_right, Identifier, Register, RawFunction, RawBlock, RawInst, RawIdentifier, RawCase, RawValue, RawTerminator, IsFirst, SomeAt, lesser, Thing, Value, Block, Calls, Typed, read_by, named_by, read_at_end, named_at_end, cases_of, read_in, named_in, literal_of, IsUnknownValue, IsUnknownBlock, UnknownIn, UnknownAt, CallsRegister, ValueClashes, ReadClashesIn, EndClashesAt, BlockClashesAt, TypeClashAt, Known, CallsIn, CallsRegisterIn, IsReadyInst, IsReadyEnd, IsReadyBlock, Tabulates}
use Rattle.ir_tokens.specs.declared.raw.RawTerminator.TheVariants as terminators
use Rattle.ir_resolve.specs.TypedReads.{reads_of, targets_of}
use Rattle.ir_resolve.proofs.Firsts.{first_either, first_same}

some_weaker : {X : Type 0} (P Q : X → ℕ → Type 0) (xs : List X) → ((x : X) (line : ℕ) → P x line → Q x line) → (line : ℕ) → SomeAt xs P line → SomeAt xs Q line
some_weaker P Q xs f line (x, there, p) = (x, there, f x line p)

-- ---- with fewer names in the table more are unknown

module _ (F G : Identifier → Thing → Type 0) (to : (x : Identifier) (thing : Thing) → G x thing → F x thing) where
  unknown_value : (v : RawValue) → IsUnknownValue F v → IsUnknownValue G v
  unknown_value v (x, is, none) = (x, is, λ r call. none r (to x (Value r) call))

  unknown_block : (x : Identifier) → IsUnknownBlock F x → IsUnknownBlock G x
  unknown_block x none b call = none b (to x (Block b) call)

  unknown_in : (reads : List Typed) (targets : List RawIdentifier) (line : ℕ) → UnknownIn F reads targets line → UnknownIn G reads targets line
  unknown_in reads targets line h =
      elim h [
        | inl r ↦ inl (some_weaker (λ t at. IsUnknownValue F t.operand.value × (t.operand.line ≡ at)) (λ t at. IsUnknownValue G t.operand.value × (t.operand.line ≡ at)) reads (λ t at (u, on). (unknown_value t.operand.value u, on)) line r)
        | inr b ↦ inr (some_weaker (λ w at. IsUnknownBlock F w.identifier × (w.line ≡ at)) (λ w at. IsUnknownBlock G w.identifier × (w.line ≡ at)) targets (λ w at (u, on). (unknown_block w.identifier u, on)) line b)
      ]

module _ (F G : Identifier → Register → ℕ → Type 0) (to : (x : Identifier) (r : Register) (width : ℕ) → F x r width → G x r width) where
  value_clash : (width : ℕ) (v : RawValue) → ValueClashes F width v → ValueClashes G width v
  value_clash width v h = elim h [ inl literal ↦ inl literal | inr (x, r, other, is, call, apart) ↦ inr (x, r, other, is, to x r other call, apart) ]

  clash_in : (reads : List Typed) (line : ℕ) → ReadClashesIn F reads line → ReadClashesIn G reads line
  clash_in reads = some_weaker (λ t at. ValueClashes F t.width t.operand.value × (t.operand.line ≡ at)) (λ t at. ValueClashes G t.width t.operand.value × (t.operand.line ≡ at)) reads (λ t at (clash, on). (value_clash t.width t.operand.value clash, on))

module _ (raw : RawFunction) (known : List Known) (table : Tabulates raw known) where
  unknown_from : (reads : List Typed) (targets : List RawIdentifier) (line : ℕ) → UnknownIn (CallsIn known) reads targets line → UnknownIn (Calls raw) reads targets line
  unknown_from = unknown_in (CallsIn known) (Calls raw) (λ x thing call. (table.things x thing).1 call)

  unknown_to : (reads : List Typed) (targets : List RawIdentifier) (line : ℕ) → UnknownIn (Calls raw) reads targets line → UnknownIn (CallsIn known) reads targets line
  unknown_to = unknown_in (Calls raw) (CallsIn known) (λ x thing call. (table.things x thing).0 call)

  pub unknown_first : (reads : List Typed) (targets : List RawIdentifier) (found : Option ℕ) → reads ≡ reads_of raw → targets ≡ targets_of raw → IsFirst (UnknownIn (CallsIn known) reads targets) found → IsFirst (UnknownAt raw) found
  unknown_first reads targets found all_reads all_targets first =
      subst (λ ts. IsFirst (UnknownIn (Calls raw) (reads_of raw) ts) found) all_targets
      (subst (λ rs. IsFirst (UnknownIn (Calls raw) rs targets) found) all_reads
      (first_same (UnknownIn (CallsIn known) reads targets) (UnknownIn (Calls raw) reads targets) (unknown_from reads targets) (unknown_to reads targets) found first))

  pub clash_first : (reads : List Typed) (blocks : List RawBlock) (read block found : Option ℕ) → reads ≡ reads_of raw → blocks ≡ raw.blocks → IsFirst (ReadClashesIn (CallsRegisterIn known) reads) read → IsFirst (SomeAt blocks (BlockClashesAt raw.width)) block
      → found ≡ lesser read block → IsFirst (TypeClashAt raw) found
  clash_first reads blocks read block found all_reads all_blocks first_read first_block is =
      let of_reads =
      subst (λ rs. IsFirst (ReadClashesIn (CallsRegister raw) rs) read) all_reads
      (first_same (ReadClashesIn (CallsRegisterIn known) reads) (ReadClashesIn (CallsRegister raw) reads)
      (clash_in (CallsRegisterIn known) (CallsRegister raw) (λ x r width. (table.registers x r width).0) reads)
      (clash_in (CallsRegister raw) (CallsRegisterIn known) (λ x r width. (table.registers x r width).1) reads) read first_read)
      in
      let of_blocks = subst (λ bs. IsFirst (SomeAt bs (BlockClashesAt raw.width)) block) all_blocks first_block in
      rw is (first_either (ReadClashesIn (CallsRegister raw) (reads_of raw)) (SomeAt raw.blocks (BlockClashesAt raw.width)) read block of_reads of_blocks)

-- ---- what the function is built of is defined

each_contained : {X : Type 0} (P : X → Type 0) (xs : List X) → ((x : X) → Contains xs x → P x) → AllByRecursion P xs
each_contained P xs f = recursion_from_All P xs (λ k d lt. f (get_or xs k d) (Contains-get_or xs k d lt))

pub contained_behind : {X : Type 0} (y : X) (xs : List X) (x : X) → Contains (y ∷ xs) x → (y ≡ x) ⊎ Contains xs x
contained_behind y xs x (zero, lt, is) = inl is
contained_behind y xs x (suc k, lt, is) = inr (k, omega arith, is)

pub contained_in_some : {X Y : Type 0} (f : X → List Y) (xs : List X) (x : X) (y : Y) → Contains xs x → Contains (f x) y → Contains (flat_map f xs) y
contained_in_some f [] x y (k, lt, is) there = absurd (omega arith)
contained_in_some f (z ∷ xs) x y in_xs there =
    elim (contained_behind z xs x in_xs) [
      | inl one ↦ Contains-append_left (f z) (flat_map f xs) y (subst (λ w. Contains (f w) y) (sym one) there)
      | inr behind ↦ Contains-append_right (f z) (flat_map f xs) y (contained_in_some f xs x y behind there)
    ]

-- a case whose value is no number clashes
case_clash : (returned : ℕ) (end : RawTerminator) (c : RawCase) → Contains (cases_of end) c → literal_of c.value.value ≡ None → EndClashesAt returned end c.value.line
case_clash returned (terminators.Return width a) c (k, lt, is) none = absurd (omega arith)
case_clash returned terminators.Unreachable c (k, lt, is) none = absurd (omega arith)
case_clash returned (terminators.Jump to) c (k, lt, is) none = absurd (omega arith)
case_clash returned (terminators.Branch width a to other) c (k, lt, is) none = absurd (omega arith)
case_clash returned (terminators.Switch width a other cases) c there none = (c, there, (inr (inl none), refl))

module _ (raw : RawFunction) (known : List Known) (table : Tabulates raw known) (no_unknown : (line : ℕ) → ¬ UnknownAt raw line) (no_clash : (line : ℕ) → ¬ TypeClashAt raw line) where
  known_read : (t : Typed) → Contains (reads_of raw) t → ¬ IsUnknownValue (CallsIn known) t.operand.value
  known_read t there un = no_unknown t.operand.line (unknown_from raw known table (reads_of raw) (targets_of raw) t.operand.line (inl (t, there, (un, refl))))

  known_target : (w : RawIdentifier) → Contains (targets_of raw) w → ¬ IsUnknownBlock (CallsIn known) w.identifier
  known_target w there un = no_unknown w.line (unknown_from raw known table (reads_of raw) (targets_of raw) w.line (inr (w, there, (un, refl))))

  module _ (block : RawBlock) (in_raw : Contains raw.blocks block) where
    ready_inst : (i : RawInst) → Contains block.insts i → IsReadyInst known i
    ready_inst i there = (
      each_contained (λ t. ¬ IsUnknownValue (CallsIn known) t.operand.value) (read_by i.op) (λ t in_op. known_read t (contained_in_some read_in raw.blocks block t in_raw
          (Contains-append_left (flat_map (λ (j : RawInst). read_by j.op) block.insts) (read_at_end block.end) t (contained_in_some (λ (j : RawInst). read_by j.op) block.insts i t there in_op)))),
      each_contained (λ w. ¬ IsUnknownBlock (CallsIn known) w.identifier) (named_by i.op) (λ w in_op. known_target w (contained_in_some named_in raw.blocks block w in_raw
          (Contains-append_left (flat_map (λ (j : RawInst). named_by j.op) block.insts) (named_at_end block.end) w (contained_in_some (λ (j : RawInst). named_by j.op) block.insts i w there in_op)))),
    )

    ready_end : IsReadyEnd known block.end
    ready_end = (
      each_contained (λ t. ¬ IsUnknownValue (CallsIn known) t.operand.value) (read_at_end block.end) (λ t in_end. known_read t (contained_in_some read_in raw.blocks block t in_raw
          (Contains-append_right (flat_map (λ (j : RawInst). read_by j.op) block.insts) (read_at_end block.end) t in_end))),
      each_contained (λ w. ¬ IsUnknownBlock (CallsIn known) w.identifier) (named_at_end block.end) (λ w in_end. known_target w (contained_in_some named_in raw.blocks block w in_raw
          (Contains-append_right (flat_map (λ (j : RawInst). named_by j.op) block.insts) (named_at_end block.end) w in_end))),
      each_contained (λ c. ¬ (literal_of c.value.value ≡ None)) (cases_of block.end) (λ c there none. no_clash c.value.line (inr (block, in_raw, inr (case_clash raw.width block.end c there none)))),
    )

  pub ready : AllByRecursion (IsReadyBlock known) raw.blocks
  ready = each_contained (IsReadyBlock known) raw.blocks (λ block in_raw. (each_contained (IsReadyInst known) block.insts (ready_inst block in_raw), ready_end block in_raw))
