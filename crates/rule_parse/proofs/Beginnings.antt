-- What operands begin with.
use Rattle.rule_parse.proofs.Common.{◌≡◌, ℕ, true, false, eqb, List, [], ◌∷◌, ◌++◌, None, refl, codes, list_all, bytes_eq, eqb-true, Flags, Function, Negate, Not, Log2, flag_in, is_digit, is_constant, and_left, type_in, Token, Register, Word, Number, Mark, Constant, RawNode, SpellsLeaf, SpellsTerm, leaf, width, parenthesised, called, prefixed, tighter, joined, IsCalled, Half, Source, Target, RawArgument, SpellsTermOperand, SpellsArgument, operation_in, is_truth_flag, Version, One, Two, Limits}
use Rattle.rule_core.specs.declared.rule.Function.TheVariants.{Abs}
use Rattle.rule_terms.specs.declared.raw.RawNode.TheVariants as raw_nodes
use Rattle.rule_parse.specs.declared.raw.RawArgument.TheVariants as arguments
use Rattle.ops.specs.declared.opcode.Unary.{Unary as Intrinsic}
use Rattle.ops.specs.declared.opcode.Unary.TheVariants as intrinsics

module _ (limits : Limits) where
  -- a word that is no type, no opcode and no flag
  pub record IsOperandWord (word : List ℕ) : Type 0 where
    pub no_type : type_in word ≡ None
    pub no_operation : (version : Version) → operation_in version false word ≡ None
    pub no_flag : (taken : Flags) → flag_in taken word ≡ None
    pub no_truth : (op : Intrinsic) → is_truth_flag op word ≡ false

  abbrev pub BeginsOperand : List Token → Type 0
  BeginsOperand (Register name ∷ tokens) = Unit {0}
  BeginsOperand (Number text ∷ tokens) = Unit {0}
  BeginsOperand (Word word ∷ tokens) = IsOperandWord word
  BeginsOperand (Mark mark ∷ tokens) = Unit {0}
  BeginsOperand tokens = ⊥

  -- a constant term begins with no register, and not with `undef`
  abbrev pub BeginsTerm : List Token → Type 0
  BeginsTerm (Number text ∷ tokens) = Unit {0}
  BeginsTerm (Word word ∷ tokens) = IsOperandWord word × (bytes_eq word (codes "undef") ≡ false)
  BeginsTerm (Mark mark ∷ tokens) = Unit {0}
  BeginsTerm tokens = ⊥

  term_is_operand : (tokens : List Token) → BeginsTerm tokens → BeginsOperand tokens
  term_is_operand (Number text ∷ tokens) begins = tt
  term_is_operand (Word word ∷ tokens) begins = begins.0
  term_is_operand (Mark mark ∷ tokens) begins = tt
  term_is_operand tokens begins = absurd begins

  begins_front : (front back : List Token) → BeginsTerm front → BeginsTerm (front ++ back)
  begins_front (Number text ∷ tokens) back begins = tt
  begins_front (Word word ∷ tokens) back begins = begins
  begins_front (Mark mark ∷ tokens) back begins = tt
  begins_front tokens back begins = absurd begins

  -- ---- words

  -- a word that differs from the flags of intrinsics is none of them
  pub no_truth_flag : (word : List ℕ) → bytes_eq word (codes "minpoison") ≡ false → bytes_eq word (codes "zeropoison") ≡ false → (op : Intrinsic) → is_truth_flag op word ≡ false
  no_truth_flag word least zero intrinsics.Abs = least
  no_truth_flag word least zero intrinsics.CtPop = refl
  no_truth_flag word least zero intrinsics.CtLz = zero
  no_truth_flag word least zero intrinsics.CtTz = zero

  constant_word : (digits : List ℕ) → IsOperandWord (67 ∷ digits) × (bytes_eq (67 ∷ digits) (codes "undef") ≡ false)
  unfolding type_in operation_in flag_in
  constant_word digits = (record { no_type = refl; no_operation = λ version. refl; no_flag = λ taken. refl; no_truth = no_truth_flag (67 ∷ digits) refl refl }, refl)

  constant_begins : (word : List ℕ) → is_constant word ≡ true → IsOperandWord word × (bytes_eq word (codes "undef") ≡ false)
  unfolding is_constant
  constant_begins [] e = absurd cc
  constant_begins (b ∷ digits) e = rw (eqb-true b 67 (and_left (eqb b 67) (list_all is_digit digits) e)) (constant_word digits)

  width_word : IsOperandWord (codes "width") × (bytes_eq (codes "width") (codes "undef") ≡ false)
  unfolding type_in operation_in flag_in
  width_word = (record { no_type = refl; no_operation = λ version. refl; no_flag = λ taken. refl; no_truth = no_truth_flag (codes "width") refl refl }, refl)

  -- the word `abs` is no opcode: as one it is an opcode token
  no_abs : (version : Version) → operation_in version false (codes "abs") ≡ None
  unfolding operation_in
  no_abs One = refl
  no_abs Two = refl

  called_word : (function : Function) (word : List ℕ) → IsCalled function word → IsOperandWord word × (bytes_eq word (codes "undef") ≡ false)
  unfolding type_in operation_in flag_in
  called_word Log2 word is = rw is (record { no_type = refl; no_operation = λ version. refl; no_flag = λ taken. refl; no_truth = no_truth_flag (codes "log2") refl refl }, refl)
  called_word Abs word is = rw is (record { no_type = refl; no_operation = no_abs; no_flag = λ taken. refl; no_truth = no_truth_flag (codes "abs") refl refl }, refl)
  called_word Negate word is = absurd is
  called_word Not word is = absurd is

  source_word_begins : (word : List ℕ) → ((word ≡ codes "true") → IsOperandWord word) × ((word ≡ codes "false") → IsOperandWord word) × ((word ≡ codes "undef") → IsOperandWord word)
  unfolding type_in operation_in flag_in
  source_word_begins word = (
    (λ is. rw is (record { no_type = refl; no_operation = λ version. refl; no_flag = λ taken. refl; no_truth = no_truth_flag (codes "true") refl refl })),
    (λ is. rw is (record { no_type = refl; no_operation = λ version. refl; no_flag = λ taken. refl; no_truth = no_truth_flag (codes "false") refl refl })),
    (λ is. rw is (record { no_type = refl; no_operation = λ version. refl; no_flag = λ taken. refl; no_truth = no_truth_flag (codes "undef") refl refl })),
  )

  -- ---- terms

  leaf_begins : (node : RawNode) (tokens : List Token) → SpellsLeaf limits Constant node tokens → BeginsTerm tokens
  leaf_begins (raw_nodes.Literal z) tokens (text, value, is) = rw is tt
  leaf_begins (raw_nodes.Constant name) tokens (c, le, is) = rw is (constant_begins name c)
  leaf_begins (raw_nodes.Register name) tokens (place, le, is) = absurd cc
  leaf_begins (raw_nodes.Choice k) tokens (word, place, choice, le, is) = absurd cc
  leaf_begins node tokens never = absurd never

  pub term_begins : {nesting start level : ℕ} {nodes : List RawNode} {tokens : List Token} → SpellsTerm limits Constant nesting start level nodes tokens → BeginsTerm tokens
  term_begins (leaf node tokens is) = leaf_begins node tokens is
  term_begins (width name le) = width_word
  term_begins (parenthesised inside) = tt
  term_begins (called function word is inside) = called_word function word is
  term_begins (prefixed function mark is operand) = tt
  term_begins (tighter term) = term_begins term
  term_begins (joined {front} {back} op level left right) = begins_front front _ (term_begins left)

  -- ---- operands

  term_operand_begins : (a : RawArgument) (own : List Token) → SpellsTermOperand limits a own → BeginsOperand own
  term_operand_begins a own (nodes, is, same) = term_is_operand own (term_begins is)

  pub argument_begins : (half : Half) (a : RawArgument) (own : List Token) → SpellsArgument limits half a own → BeginsOperand own
  argument_begins Source (arguments.Register name) own (le, is) = rw is tt
  argument_begins Target (arguments.Register name) own (le, is) = rw is tt
  argument_begins Source arguments.Undef own is = rw is ((source_word_begins (codes "undef")).2 refl)
  argument_begins Target arguments.Undef own is = rw is ((source_word_begins (codes "undef")).2 refl)
  argument_begins Source (arguments.Literal z) own (text, value, is) = rw is tt
  argument_begins Source (arguments.Constant name) own (c, le, is) = rw is (constant_begins name c).0
  argument_begins Source (arguments.Truth true) own is = rw is ((source_word_begins (codes "true")).0 refl)
  argument_begins Source (arguments.Truth false) own is = rw is ((source_word_begins (codes "false")).1 refl)
  argument_begins Source (arguments.Term nodes) own is = absurd is
  argument_begins Target (arguments.Literal z) own is = term_operand_begins (arguments.Literal z) own is
  argument_begins Target (arguments.Constant name) own is = term_operand_begins (arguments.Constant name) own is
  argument_begins Target (arguments.Truth truth) own is = absurd is
  argument_begins Target (arguments.Term nodes) own is = term_operand_begins (arguments.Term nodes) own is
