-- What the parser reads as a statement is what the grammar spells with the tokens that it takes.
use Rattle.rule_parse.proofs.Common.{◌≡◌, ℕ, Bool, true, false, List, [], ◌∷◌, ◌++◌, map, Option, Some, None, Result, Ok, Err, refl, sym, ap, subst, ◌∙◌, ⊎_elim, codes, drop, if◌then◌else◌, bytes_eq, Flags, Pred, Cast, no_flags, flags_of, flags_of_cast, flags_of_icmp, icmp_flags, Flag, predicate_keyword, pred_in, AddsFlags, flag_keyword, has_flag, with_flag, same_word, pred_in-is, flag_in-is, flags_are_icmp, taken_flags, Syntax, RuleFault, Half, Source, Target, RawOp, Copy, RawOperand, RawArgument, Operation, is_constant, Constant, RawNode, SpellsWholeTerm, mark_at, term_at, ◌>>=◌, SpellsType, SpellsArgument, SpellsUntyped, SpellsOperand, SpellsPair, SpellsFlags, SpellsTruth, SpellsOpcode, SpellsTo, SpellsOp, literal_value, fault, name_within, type_at, maybe_type, line_end, register_at, known_or_misplaced, source_word, term_argument_at, argument_at, typed_at, operand_at, to_at, next_flag, flag_or_end, flags_at, pair_at, binary_at, pred_at, compare_at, is_truth_next, truth_at, unary_at, select_at, convert_at, freeze_at, copy_at, operation_at, other_at, operation_or_other, op_at, Is, Comma, ◌⨾◌, Maybe, Token, Register, Word, Number, Mark, operation_in, source_word_in, argument_of, done, bind_ok, bound, read_as, passed, refused_not, not_left_out, chosen, Takes, taken_to, one, word_as, name_within-is, type_at-is, maybe_type-is, line_end-is, term_at-is, mark_at-is, Version, Limits}
use Rattle.ops.specs.declared.opcode.Opcode.{Opcode}
use Rattle.ops.specs.declared.opcode.Unary.{Unary as Intrinsic}
use Rattle.rule_parse.specs.declared.raw.RawOp.TheVariants.{Binary, Compare, Unary, Select, Convert, Freeze}
use Rattle.rule_parse.specs.declared.raw.RawArgument.TheVariants as arguments
use Rattle.rule_parse.specs.declared.word.Operation.TheVariants as operations
use Rattle.rule_terms.specs.declared.raw.RawNode.TheVariants as raw_nodes
use Rattle.rule_tokens.specs.Tokens.{Opcode as OpcodeToken}
use Rattle.rule_tokens.proofs.Takes.{both, nothing}
use Rattle.rule_parse.proofs.Pieces.{IsOpcode, operation_in-is, truth_flag-is, source_word_in-is}

module _ (limits : Limits) where
  -- ---- operands

  register_at-is : (half : Half) (line : ℕ) (name : List ℕ) (rest : List Token) (x : RawArgument × List Token) → register_at limits line name rest ≡ Ok x → Takes (SpellsArgument limits half x.0) (Register name ∷ rest) x.1
  register_at-is half line name rest x e =
      let n = bind_ok (name_within limits line name) _ _ e in
      let w = name_within-is limits line name n.0 n.1 in
      read_as (λ (y : RawArgument × List Token). Takes (SpellsArgument limits half y.0) (Register name ∷ rest) y.1) (arguments.Register n.0, rest) x n.2
      (one (Register name) rest (w.0, ap (λ (r : List ℕ). Register r ∷ []) w.1))

  known-is : (line : ℕ) (word : List ℕ) (value : RawArgument) (found : Option RawArgument) → source_word_in word ≡ found → known_or_misplaced line word found ≡ Ok value → SpellsArgument limits Source value (Word word ∷ [])
  known-is line word value (Some v) f e = read_as (λ (y : RawArgument). SpellsArgument limits Source y (Word word ∷ [])) v value e (source_word_in-is limits word v f)
  known-is line word value None f e = absurd cc

  constant-is : (line : ℕ) (word : List ℕ) (value : RawArgument) → is_constant word ≡ true → (name_within limits line word >>= λ held. Ok (arguments.Constant held)) ≡ Ok value → SpellsArgument limits Source value (Word word ∷ [])
  constant-is line word value c e =
      let n = bind_ok (name_within limits line word) _ _ e in
      let w = name_within-is limits line word n.0 n.1 in
      read_as (λ (y : RawArgument). SpellsArgument limits Source y (Word word ∷ [])) (arguments.Constant n.0) value n.2
      (subst (λ (name : List ℕ). is_constant name ≡ true) w.1 c, w.0, ap (λ (name : List ℕ). Word name ∷ []) w.1)

  source_word-is : (line : ℕ) (word : List ℕ) (value : RawArgument) → source_word limits line word ≡ Ok value → SpellsArgument limits Source value (Word word ∷ [])
  unfolding source_word
  source_word-is line word value e = ⊎_elim
      (λ (h : (is_constant word ≡ true) × ((name_within limits line word >>= λ held. Ok (arguments.Constant held)) ≡ Ok value)). constant-is line word value h.0 h.1)
      (λ (h : (is_constant word ≡ false) × (known_or_misplaced line word (source_word_in word) ≡ Ok value)). known-is line word value (source_word_in word) refl h.1)
      (chosen (is_constant word) (name_within limits line word >>= λ held. Ok (arguments.Constant held)) (known_or_misplaced line word (source_word_in word)) (Ok value) e)

  -- a term as an operand is a literal, a constant or a term
  abbrev IsTermArgument : RawArgument → Type 0
  IsTermArgument (arguments.Literal z) = Unit {0}
  IsTermArgument (arguments.Constant name) = Unit {0}
  IsTermArgument (arguments.Term nodes) = Unit {0}
  IsTermArgument (arguments.Register name) = ⊥
  IsTermArgument (arguments.Truth truth) = ⊥
  IsTermArgument arguments.Undef = ⊥

  argument_kind : (nodes : List RawNode) → IsTermArgument (argument_of nodes)
  unfolding argument_of
  argument_kind (raw_nodes.Literal z ∷ []) = tt
  argument_kind (raw_nodes.Constant name ∷ []) = tt
  argument_kind nodes = tt

  spells_term : (a : RawArgument) (nodes : List RawNode) (own : List Token) → SpellsWholeTerm limits Constant limits.nested nodes own → a ≡ argument_of nodes → IsTermArgument a → SpellsArgument limits Target a own
  spells_term (arguments.Literal z) nodes own s e kind = (nodes, s, e)
  spells_term (arguments.Constant name) nodes own s e kind = (nodes, s, e)
  spells_term (arguments.Term ns) nodes own s e kind = (nodes, s, e)
  spells_term (arguments.Register name) nodes own s e kind = absurd kind
  spells_term (arguments.Truth truth) nodes own s e kind = absurd kind
  spells_term arguments.Undef nodes own s e kind = absurd kind

  term_argument_at-is : (line : ℕ) (tokens : List Token) (x : RawArgument × List Token) → term_argument_at limits line tokens ≡ Ok x → Takes (SpellsArgument limits Target x.0) tokens x.1
  term_argument_at-is line tokens x e =
      let t = bind_ok (term_at limits Constant limits.nested line tokens) _ _ e in
      let s = term_at-is limits Constant limits.nested line tokens t.0 t.1 in
      read_as (λ (y : RawArgument × List Token). Takes (SpellsArgument limits Target y.0) tokens y.1) (argument_of t.0.0, t.0.1) x t.2
      (record { own = s.own; is_own = spells_term (argument_of t.0.0) t.0.0 s.own s.is_own refl (argument_kind t.0.0); whole = s.whole })

  argument_at-is : (half : Half) (line : ℕ) (tokens : List Token) (x : RawArgument × List Token) → argument_at limits half line tokens ≡ Ok x → Takes (SpellsArgument limits half x.0) tokens x.1
  unfolding argument_at
  argument_at-is Source line (Register name ∷ rest) x e = register_at-is Source line name rest x e
  argument_at-is Source line (Number text ∷ rest) x e =
      read_as (λ (y : RawArgument × List Token). Takes (SpellsArgument limits Source y.0) (Number text ∷ rest) y.1) (arguments.Literal (literal_value text), rest) x e
      (one (Number text) rest (text, refl, refl))
  argument_at-is Source line (Word word ∷ rest) x e =
      let v = bind_ok (source_word limits line word) _ _ e in
      read_as (λ (y : RawArgument × List Token). Takes (SpellsArgument limits Source y.0) (Word word ∷ rest) y.1) (v.0, rest) x v.2
      (one (Word word) rest (source_word-is line word v.0 v.1))
  argument_at-is Source line tokens x e = absurd cc
  argument_at-is Target line (Register name ∷ rest) x e = register_at-is Target line name rest x e
  argument_at-is Target line (Word word ∷ rest) x e = ⊎_elim
      (λ (h : (bytes_eq word (codes "undef") ≡ true) × (done (arguments.Undef, rest) ≡ Ok x)).
      read_as (λ (y : RawArgument × List Token). Takes (SpellsArgument limits Target y.0) (Word word ∷ rest) y.1) (arguments.Undef, rest) x h.1
      (word_as word (codes "undef") rest (same_word word (codes "undef") h.0)))
      (λ (h : (bytes_eq word (codes "undef") ≡ false) × (term_argument_at limits line (Word word ∷ rest) ≡ Ok x)). term_argument_at-is line (Word word ∷ rest) x h.1)
      (chosen (bytes_eq word (codes "undef")) (done (arguments.Undef, rest)) (term_argument_at limits line (Word word ∷ rest)) (Ok x) e)
  argument_at-is Target line tokens x e = term_argument_at-is line tokens x e

  typed_at-is : (half : Half) (line : ℕ) (written : Option ℕ) (tokens : List Token) (x : RawOperand × List Token) → typed_at limits half line written tokens ≡ Ok x → (x.0.written ≡ written) × Takes (SpellsArgument limits half x.0.value) tokens x.1
  unfolding typed_at
  typed_at-is half line written tokens x e =
      let a = bind_ok (argument_at limits half line tokens) _ _ e in
      read_as (λ (y : RawOperand × List Token). (y.0.written ≡ written) × Takes (SpellsArgument limits half y.0.value) tokens y.1) (record { written = written; value = a.0.0 }, a.0.1) x a.2
      (refl, argument_at-is half line tokens a.0 a.1)

  untyped_at-is : (half : Half) (line : ℕ) (tokens : List Token) (x : RawOperand × List Token) → typed_at limits half line None tokens ≡ Ok x → Takes (SpellsUntyped limits half x.0) tokens x.1
  untyped_at-is half line tokens x e =
      let t = typed_at-is half line None tokens x e in
      record { own = t.1.own; is_own = (t.0, t.1.is_own); whole = t.1.whole }

  operand_at-is : (half : Half) (line : ℕ) (tokens : List Token) (x : RawOperand × List Token) → operand_at limits half line tokens ≡ Ok x → Takes (SpellsOperand limits half x.0) tokens x.1
  operand_at-is half line tokens x e =
      let t = typed_at-is half line (maybe_type tokens).0 (maybe_type tokens).1 x e in
      subst (λ (written : Option ℕ). Takes (Maybe SpellsType written ⨾ (SpellsArgument limits) half x.0.value) tokens x.1) (sym t.0) (both (maybe_type-is tokens) t.1)

  -- ---- what stands behind an operand

  comma_at-is : (line : ℕ) (tokens rest : List Token) → mark_at (codes ",") line tokens ≡ Ok rest → Takes Comma tokens rest
  comma_at-is line tokens rest e = record { own = Mark (codes ",") ∷ []; is_own = refl; whole = mark_at-is limits (codes ",") line tokens rest e }

  no_to : (line : ℕ) (tokens behind : List Token) (x : Option ℕ × List Token) → line_end line tokens ≡ Ok behind → done (None, behind) ≡ done x → Takes (Maybe SpellsTo x.0) tokens x.1
  no_to line tokens behind x ends e =
      read_as (λ (y : Option ℕ × List Token). Takes (Maybe SpellsTo y.0) tokens y.1) (None, behind) x e (taken_to (nothing tokens) (line_end-is line tokens behind ends))

  ends_line : (line : ℕ) (tokens : List Token) (x : Option ℕ × List Token) → (line_end line tokens >>= λ rest. done (None, rest)) ≡ done x → Takes (Maybe SpellsTo x.0) tokens x.1
  ends_line line tokens x e = let a = bind_ok (line_end line tokens) _ _ e in no_to line tokens a.0 x a.1 a.2

  to_at-is : (line : ℕ) (tokens : List Token) (x : Option ℕ × List Token) → to_at line tokens ≡ Ok x → Takes (Maybe SpellsTo x.0) tokens x.1
  unfolding to_at
  to_at-is line (Word word ∷ rest) x e =
      let p = passed (bytes_eq word (codes "to")) _ x (fault line Syntax) e in
      bound (type_at line rest) _ _ p.1 (λ width t e1.
      bound (line_end line width.1) _ _ e1 (λ behind ends e2.
      read_as (λ (y : Option ℕ × List Token). Takes (Maybe SpellsTo y.0) (Word word ∷ rest) y.1) (Some width.0, behind) x e2
      (both (word_as word (codes "to") rest (same_word word (codes "to") p.0)) (taken_to (type_at-is line rest width t) (line_end-is line width.1 behind ends)))))
  to_at-is line tokens x e = ends_line line tokens x e

  -- ---- flags

  -- the first token is a flag that the instruction takes
  flag_token : (taken : Flags) (token : Token) (rest : List Token) (flag : Flag) → next_flag taken (token ∷ rest) ≡ Some flag → (token ≡ Word (flag_keyword flag)) × (has_flag taken flag ≡ true)
  flag_token taken (Word word) rest flag e = let is = flag_in-is taken word flag e in (ap Word is.0, is.1)
  flag_token taken token rest flag e = absurd cc

  -- more flags are read behind these
  abbrev AddsRead : Flags → Flags → List Token → Flags × List Token → Type 0
  AddsRead taken before tokens x = (written : List Flag) × AddsFlags taken before written x.0 × (tokens ≡ map (λ flag. Word (flag_keyword flag)) written ++ x.1)

  flag_or_end-is : (taken : Flags) (line : ℕ) (before : Flags) (token : Token) (rest : List Token) (x : Flags × List Token) (found : Option Flag) → next_flag taken (token ∷ rest) ≡ found → flag_or_end line before found (λ flags. flags_at taken line flags rest) (token ∷ rest) ≡ Ok x
      → ((flags : Flags) → flags_at taken line flags rest ≡ Ok x → AddsRead taken flags rest x) → AddsRead taken before (token ∷ rest) x
  flag_or_end-is taken line before token rest x None f e others = read_as (AddsRead taken before (token ∷ rest)) (before, token ∷ rest) x e ([], refl, refl)
  flag_or_end-is taken line before token rest x (Some flag) f e others =
      let new = refused_not (has_flag before flag) _ x (fault line Syntax) e in
      let more = others (with_flag before flag) new.1 in
      let is = flag_token taken token rest flag f in
      (flag ∷ more.0, (is.1, new.0, more.1), ap (λ (t : Token). t ∷ rest) is.0 ∙ ap (λ (ts : List Token). Word (flag_keyword flag) ∷ ts) more.2)

  flags_read : (taken : Flags) (line : ℕ) (before : Flags) (tokens : List Token) (x : Flags × List Token) → flags_at taken line before tokens ≡ Ok x → AddsRead taken before tokens x
  unfolding flags_at
  flags_read taken line before [] x e = read_as (AddsRead taken before []) (before, []) x e ([], refl, refl)
  flags_read taken line before (token ∷ rest) x e =
      flag_or_end-is taken line before token rest x (next_flag taken (token ∷ rest)) refl e (λ flags f. flags_read taken line flags rest x f)

  flags_at-is : (taken : Flags) (line : ℕ) (tokens : List Token) (x : Flags × List Token) → flags_at taken line no_flags tokens ≡ Ok x → Takes (SpellsFlags taken x.0) tokens x.1
  flags_at-is taken line tokens x e =
      let f = flags_read taken line no_flags tokens x e in
      record { own = map (λ (flag : Flag). Word (flag_keyword flag)) f.0; is_own = (f.0, f.1, refl); whole = f.2 }

  -- ---- truth values

  truth_next : (op : Intrinsic) (tokens : List Token) → is_truth_next op tokens ≡ true → Takes (SpellsTruth op true) tokens (drop 1 tokens)
  truth_next op (Word word ∷ rest) next = one (Word word) rest (word, truth_flag-is limits op word next, refl)
  truth_next op tokens next = absurd cc

  abbrev IsTruthRead : Intrinsic → List Token → Bool × List Token → Type 0
  IsTruthRead op tokens x = Takes (SpellsTruth op x.0) tokens x.1

  -- what is read behind the flag of a truth value: not the flag again
  abbrev truth_once : ℕ → Intrinsic → List Token → Result (Bool × List Token) RuleFault
  truth_once line op tokens = if is_truth_next op (drop 1 tokens) then Err (fault line Syntax) else Ok (true, drop 1 tokens)

  truth_at-is : (line : ℕ) (op : Intrinsic) (tokens : List Token) (x : Bool × List Token) → truth_at op line tokens ≡ Ok x → Takes (SpellsTruth op x.0) tokens x.1
  unfolding truth_at
  truth_at-is line op tokens x e = ⊎_elim
      (λ (h : (is_truth_next op tokens ≡ true) × (truth_once line op tokens ≡ Ok x)).
      let new = refused_not (is_truth_next op (drop 1 tokens)) _ x (fault line Syntax) h.1 in
      read_as (IsTruthRead op tokens) (true, drop 1 tokens) x new.1 (truth_next op tokens h.0))
      (λ (h : (is_truth_next op tokens ≡ false) × (done (false, tokens) ≡ Ok x)). read_as (IsTruthRead op tokens) (false, tokens) x h.1 (nothing tokens))
      (chosen (is_truth_next op tokens) (truth_once line op tokens) (done (false, tokens)) (Ok x) e)

  -- ---- what a statement computes

  pair_at-is : (half : Half) (line : ℕ) (tokens : List Token) (x : (RawOperand × RawOperand) × List Token) → pair_at limits half line tokens ≡ Ok x → Takes (SpellsPair limits half x.0.0 x.0.1) tokens x.1
  unfolding pair_at
  pair_at-is half line tokens x e =
      bound (operand_at limits half line tokens) _ _ e (λ left l e1.
      bound (mark_at (codes ",") line left.1) _ _ e1 (λ behind c e2.
      bound (typed_at limits half line None behind) _ _ e2 (λ right r e3.
      bound (line_end line right.1) _ _ e3 (λ rest ends e4.
      read_as (λ (y : (RawOperand × RawOperand) × List Token). Takes (SpellsPair limits half y.0.0 y.0.1) tokens y.1) ((left.0, right.0), rest) x e4
      (both (operand_at-is half line tokens left l) (both (comma_at-is line left.1 behind c)
      (taken_to (untyped_at-is half line behind right r) (line_end-is line right.1 rest ends))))))))

  module _ (version : Version) where
    -- an operation, read behind its opcode
    abbrev IsOpBehind : Half → Token → List Token → RawOp × List Token → Type 0
    IsOpBehind half token tokens x = Takes (SpellsOp limits version half x.0) (token ∷ tokens) x.1

    opcode_is : (operation : Operation) (token : Token) (tokens : List Token) → IsOpcode limits version operation token → Takes (SpellsOpcode version operation) (token ∷ tokens) tokens
    opcode_is operation token tokens is = one token tokens (is.0, ap (λ (t : Token). t ∷ []) is.1)

    binary_at-is : (half : Half) (line : ℕ) (op : Opcode) (token : Token) (tokens : List Token) (x : RawOp × List Token) → IsOpcode limits version (operations.Binary op) token → binary_at limits half line op tokens ≡ Ok x → IsOpBehind half token tokens x
    unfolding binary_at
    binary_at-is half line op token tokens x is e =
        bound (flags_at (flags_of op) line no_flags tokens) _ _ e (λ flags f e1.
        bound (pair_at limits half line flags.1) _ _ e1 (λ pair p e2.
        read_as (IsOpBehind half token tokens) (Binary op flags.0 pair.0.0 pair.0.1, pair.1) x e2
        (both (opcode_is (operations.Binary op) token tokens is) (both (flags_at-is (flags_of op) line tokens flags f) (pair_at-is half line flags.1 pair p)))))

    pred_at-is : (line : ℕ) (tokens : List Token) (x : Pred × List Token) → pred_at line tokens ≡ Ok x → Takes (Is (Word (predicate_keyword x.0))) tokens x.1
    unfolding pred_at
    pred_at-is line (Word word ∷ rest) x e =
        let n = not_left_out line word (pred_in word) rest x e in
        taken_to (word_as word (predicate_keyword x.0) rest (pred_in-is word x.0 n.0)) n.1
    pred_at-is line tokens x e = absurd cc

    -- the flags of an `icmp` are `samesign` or none
    icmp_flags-are : (line : ℕ) (tokens : List Token) (x : Flags × List Token) → flags_at flags_of_icmp line no_flags tokens ≡ Ok x → Takes (SpellsFlags flags_of_icmp (icmp_flags x.0.samesign)) tokens x.1
    icmp_flags-are line tokens x e =
        let t = flags_at-is flags_of_icmp line tokens x e in
        subst (λ (flags : Flags). Takes (SpellsFlags flags_of_icmp flags) tokens x.1) (flags_are_icmp x.0 (taken_flags flags_of_icmp t.is_own.0 x.0 t.is_own.1)) t

    compare_at-is : (half : Half) (line : ℕ) (token : Token) (tokens : List Token) (x : RawOp × List Token) → IsOpcode limits version operations.Compare token → compare_at limits half line tokens ≡ Ok x → IsOpBehind half token tokens x
    unfolding compare_at
    compare_at-is half line token tokens x is e =
        bound (flags_at flags_of_icmp line no_flags tokens) _ _ e (λ flags g e1.
        bound (pred_at line flags.1) _ _ e1 (λ pred f e2.
        bound (pair_at limits half line pred.1) _ _ e2 (λ pair p e3.
        read_as (IsOpBehind half token tokens) (Compare pred.0 flags.0.samesign pair.0.0 pair.0.1, pair.1) x e3
        (both (opcode_is operations.Compare token tokens is) (both (icmp_flags-are line tokens flags g) (both (pred_at-is line flags.1 pred f) (pair_at-is half line pred.1 pair p)))))))

    unary_at-is : (half : Half) (line : ℕ) (op : Intrinsic) (token : Token) (tokens : List Token) (x : RawOp × List Token) → IsOpcode limits version (operations.Unary op) token → unary_at limits half line op tokens ≡ Ok x → IsOpBehind half token tokens x
    unfolding unary_at
    unary_at-is half line op token tokens x is e =
        bound (truth_at op line tokens) _ _ e (λ truth t e1.
        bound (operand_at limits half line truth.1) _ _ e1 (λ a p e2.
        bound (line_end line a.1) _ _ e2 (λ rest ends e3.
        read_as (IsOpBehind half token tokens) (Unary op truth.0 a.0, rest) x e3
        (both (opcode_is (operations.Unary op) token tokens is) (both (truth_at-is line op tokens truth t) (taken_to (operand_at-is half line truth.1 a p) (line_end-is line a.1 rest ends)))))))

    select_at-is : (half : Half) (line : ℕ) (token : Token) (tokens : List Token) (x : RawOp × List Token) → IsOpcode limits version operations.Select token → select_at limits half line tokens ≡ Ok x → IsOpBehind half token tokens x
    unfolding select_at
    select_at-is half line token tokens x is e =
        bound (operand_at limits half line tokens) _ _ e (λ a p e1.
        bound (mark_at (codes ",") line a.1) _ _ e1 (λ b q e2.
        bound (operand_at limits half line b) _ _ e2 (λ c r e3.
        bound (mark_at (codes ",") line c.1) _ _ e3 (λ d s e4.
        bound (operand_at limits half line d) _ _ e4 (λ f t e5.
        bound (line_end line f.1) _ _ e5 (λ rest ends e6.
        read_as (IsOpBehind half token tokens) (Select a.0 c.0 f.0, rest) x e6
        (both (opcode_is operations.Select token tokens is) (both (operand_at-is half line tokens a p) (both (comma_at-is line a.1 b q) (both (operand_at-is half line b c r)
        (both (comma_at-is line c.1 d s) (taken_to (operand_at-is half line d f t) (line_end-is line f.1 rest ends)))))))))))))

    convert_at-is : (half : Half) (line : ℕ) (cast : Cast) (token : Token) (tokens : List Token) (x : RawOp × List Token) → IsOpcode limits version (operations.Convert cast) token → convert_at limits half line cast tokens ≡ Ok x → IsOpBehind half token tokens x
    unfolding convert_at
    convert_at-is half line cast token tokens x is e =
        bound (flags_at (flags_of_cast cast) line no_flags tokens) _ _ e (λ flags f e1.
        bound (operand_at limits half line flags.1) _ _ e1 (λ from p e2.
        bound (to_at line from.1) _ _ e2 (λ to q e3.
        read_as (IsOpBehind half token tokens) (Convert cast flags.0 from.0 to.0, to.1) x e3
        (both (opcode_is (operations.Convert cast) token tokens is) (both (flags_at-is (flags_of_cast cast) line tokens flags f) (both (operand_at-is half line flags.1 from p) (to_at-is line from.1 to q)))))))

    freeze_at-is : (half : Half) (line : ℕ) (token : Token) (tokens : List Token) (x : RawOp × List Token) → IsOpcode limits version operations.Freeze token → freeze_at limits half line tokens ≡ Ok x → IsOpBehind half token tokens x
    unfolding freeze_at
    freeze_at-is half line token tokens x is e =
        bound (operand_at limits half line tokens) _ _ e (λ a p e1.
        bound (line_end line a.1) _ _ e1 (λ rest ends e2.
        read_as (IsOpBehind half token tokens) (Freeze a.0, rest) x e2
        (both (opcode_is operations.Freeze token tokens is) (taken_to (operand_at-is half line tokens a p) (line_end-is line a.1 rest ends)))))

    copy_at-is : (line : ℕ) (tokens : List Token) (x : RawOp × List Token) → copy_at limits line tokens ≡ Ok x → Takes (SpellsOp limits version Target x.0) tokens x.1
    unfolding copy_at
    copy_at-is line tokens x e =
        bound (operand_at limits Target line tokens) _ _ e (λ a p e1.
        bound (line_end line a.1) _ _ e1 (λ rest ends e2.
        read_as (λ (y : RawOp × List Token). Takes (SpellsOp limits version Target y.0) tokens y.1) (Copy a.0, rest) x e2
        (taken_to (operand_at-is Target line tokens a p) (line_end-is line a.1 rest ends))))

    operation_at-is : (half : Half) (line : ℕ) (operation : Operation) (token : Token) (tokens : List Token) (x : RawOp × List Token) → IsOpcode limits version operation token → operation_at limits half line operation tokens ≡ Ok x → IsOpBehind half token tokens x
    operation_at-is half line (operations.Binary op) token tokens x is e = binary_at-is half line op token tokens x is e
    operation_at-is half line operations.Compare token tokens x is e = compare_at-is half line token tokens x is e
    operation_at-is half line (operations.Unary op) token tokens x is e = unary_at-is half line op token tokens x is e
    operation_at-is half line operations.Select token tokens x is e = select_at-is half line token tokens x is e
    operation_at-is half line (operations.Convert cast) token tokens x is e = convert_at-is half line cast token tokens x is e
    operation_at-is half line operations.Freeze token tokens x is e = freeze_at-is half line token tokens x is e

    other_at-is : (half : Half) (line : ℕ) (tokens : List Token) (x : RawOp × List Token) → other_at limits half line tokens ≡ Ok x → Takes (SpellsOp limits version half x.0) tokens x.1
    other_at-is Source line tokens x e = absurd cc
    other_at-is Target line tokens x e = copy_at-is line tokens x e

    op_token-is : (half : Half) (line : ℕ) (token : Token) (found : Option Operation) (rest : List Token) (x : RawOp × List Token) → ((operation : Operation) → found ≡ Some operation → IsOpcode limits version operation token)
        → operation_or_other limits half line found (token ∷ rest) ≡ Ok x → IsOpBehind half token rest x
    op_token-is half line token (Some operation) rest x opcode e = operation_at-is half line operation token rest x (opcode operation refl) e
    op_token-is half line token None rest x opcode e = other_at-is half line (token ∷ rest) x e

    pub op_at-is : (half : Half) (line : ℕ) (tokens : List Token) (x : RawOp × List Token) → op_at limits version half line tokens ≡ Ok x → Takes (SpellsOp limits version half x.0) tokens x.1
    unfolding op_at
    op_at-is half line (Word word ∷ rest) x e = op_token-is half line (Word word) (operation_in version false word) rest x (operation_in-is limits version false word) e
    op_at-is half line (OpcodeToken word ∷ rest) x e = op_token-is half line (OpcodeToken word) (operation_in version true word) rest x (operation_in-is limits version true word) e
    op_at-is half line tokens x e = other_at-is half line tokens x e
