-- What the parsers of statements read of tokens with the sentinel.
use Rattle.rule_viable_prefixes.proofs.Common.{◌≡◌, ℕ, zero, suc, ◌<◌, ◌≤◌, Bool, true, false, cond, List, [], ◌∷◌, length, Option, Some, None, Result, Ok, Err, refl, sym, ap, subst, ◌∙◌, ◌⊎◌, inl, inr, arith, codes, bytes_eq, Flags, Pred, Cast, no_flags, flags_of, flags_of_cast, flags_of_icmp, Flag, opcode_keyword, predicate_keyword, pred_in, flag_in, flag_keyword, has_flag, with_flag, same_word, pred_in-is, flag_in-is, is_digit, is_constant, is_choice, ends_primary, RuleFaultKind, Syntax, TooMany, Version, Limits, literal_value, IsWrittenType, type_in, fault, unexpected, left_out, or_left_out, name_within, type_at, type_or_word, maybe_type, line_end, RuleFault, ◌>>=◌, Token, Register, Word, Number, Mark, Excess, type_in-is, Half, Source, Target, RawArgument, RawOp, Binary, Unary, Select, Convert, Freeze, Copy, RawOperand, Operation, operation_word, is_apart, token_with, operation_in, is_truth_flag, truth_flag, source_word_in, argument_of, known_or_misplaced, source_word, term_argument_at, argument_at, typed_at, to_at, flag_or_end, flags_at, pair_at, binary_at, pred_at, compare_at, is_truth_next, truth_at, unary_at, select_at, convert_at, freeze_at, copy_at, operation_at, other_at, next_operation, operation_or_other, op_at, operation_in-is, truth_flag-is, mark_at}
use Rattle.ops.specs.declared.opcode.Opcode.{Opcode as Opcodes}
use Rattle.ops.specs.declared.opcode.Opcode.TheVariants as opcodes
use Rattle.ops.specs.declared.opcode.Unary.{Unary as Intrinsic}
use Rattle.ops.specs.declared.opcode.Unary.TheVariants as intrinsics
use Rattle.ops.specs.declared.comparison.Pred.TheVariants as preds
use Rattle.ops.specs.declared.conversion.Cast.TheVariants as casts
use Rattle.ops.specs.declared.keywords.flag.Flag.TheVariants as flags
use Rattle.scan.specs.declared.rule_token.RuleKind.TheVariants as kinds
use Rattle.rule_tokens.specs.Tokens.{Opcode}
use Rattle.rule_parse.specs.declared.raw.RawArgument.TheVariants as arguments
use Rattle.rule_parse.specs.declared.raw.RawOp.TheVariants.{Compare}
use Rattle.rule_parse.specs.declared.word.Operation.TheVariants as operations
use Rattle.rule_parse.specs.RuleReaders.{operand_at}
use Rattle.rule_terms.specs.declared.place.TermPlace.TheVariants.{Constant}
use Rattle.rule_viable_prefixes.proofs.Marks.{IsMark, bad, excess, Marking, State, Marked, Next, First, ends, stops, token, first, Same, read, told, stands, Meets, left, same_bind, meets_bind, cut_told, unexpected_both, misplaced_both, syntax_both}
use Rattle.rule_viable_prefixes.proofs.MarkedTerms.{at, NoStand, IsOperand, long, short, on, operand, mark_met, mark_same, NameRead, too_long, fine, register_read, word_read, word_other, constant_operand, term_same, term_refuses}
use Rattle.rule_viable_prefixes.proofs.MarkedFormulas.{Ended, line_end_same, line_end_met}

-- ---- words that are no operands

flag_plain : (flag : Flag) → ends_primary kinds.Word (flag_keyword flag) ≡ false
unfolding ends_primary is_constant is_choice is_digit
flag_plain flags.Nuw = refl
flag_plain flags.Nsw = refl
flag_plain flags.Exact = refl
flag_plain flags.NNeg = refl
flag_plain flags.Disjoint = refl
flag_plain flags.SameSign = refl

predicate_plain : (pred : Pred) → ends_primary kinds.Word (predicate_keyword pred) ≡ false
unfolding ends_primary is_constant is_choice is_digit
predicate_plain preds.Eq = refl
predicate_plain preds.Ne = refl
predicate_plain preds.Ugt = refl
predicate_plain preds.Uge = refl
predicate_plain preds.Ult = refl
predicate_plain preds.Ule = refl
predicate_plain preds.Sgt = refl
predicate_plain preds.Sge = refl
predicate_plain preds.Slt = refl
predicate_plain preds.Sle = refl

opcode_plain : (op : Opcodes) → ends_primary kinds.Word (opcode_keyword op) ≡ false
unfolding ends_primary is_constant is_choice is_digit
opcode_plain opcodes.Add = refl
opcode_plain opcodes.Sub = refl
opcode_plain opcodes.Mul = refl
opcode_plain opcodes.UDiv = refl
opcode_plain opcodes.SDiv = refl
opcode_plain opcodes.URem = refl
opcode_plain opcodes.SRem = refl
opcode_plain opcodes.Shl = refl
opcode_plain opcodes.LShr = refl
opcode_plain opcodes.AShr = refl
opcode_plain opcodes.And = refl
opcode_plain opcodes.Or = refl
opcode_plain opcodes.Xor = refl
opcode_plain opcodes.UMin = refl
opcode_plain opcodes.UMax = refl
opcode_plain opcodes.SMin = refl
opcode_plain opcodes.SMax = refl

operation_plain : (operation : Operation) → ends_primary kinds.Word (operation_word operation) ≡ false
unfolding ends_primary is_constant is_choice is_digit
operation_plain (operations.Binary op) = opcode_plain op
operation_plain operations.Compare = refl
operation_plain (operations.Unary intrinsics.Abs) = refl
operation_plain (operations.Unary intrinsics.CtPop) = refl
operation_plain (operations.Unary intrinsics.CtLz) = refl
operation_plain (operations.Unary intrinsics.CtTz) = refl
operation_plain operations.Select = refl
operation_plain (operations.Convert casts.Trunc) = refl
operation_plain (operations.Convert casts.ZExt) = refl
operation_plain (operations.Convert casts.SExt) = refl
operation_plain operations.Freeze = refl

-- the bytes of an opcode
abbrev word_bytes : Token → List ℕ
word_bytes (Word word) = word
word_bytes (Opcode word) = word
word_bytes t = []

bytes_with : (apart : Bool) (word : List ℕ) → word_bytes (token_with apart word) ≡ word
bytes_with true word = refl
bytes_with false word = refl

opcode_is : (limits : Limits) (version : Version) (apart : Bool) (word : List ℕ) (operation : Operation) → operation_in version apart word ≡ Some operation → word ≡ operation_word operation
opcode_is limits version apart word operation e =
    sym (bytes_with apart word) ∙ ap word_bytes (operation_in-is limits version apart word operation e).1 ∙ bytes_with (is_apart operation) (operation_word operation)

truth_flag_plain : (op : Intrinsic) (word : List ℕ) → truth_flag op ≡ Some word → ends_primary kinds.Word word ≡ false
unfolding ends_primary is_constant is_choice is_digit
truth_flag_plain intrinsics.Abs word is = let same : codes "minpoison" ≡ word = cc in subst (λ (w : List ℕ). ends_primary kinds.Word w ≡ false) same refl
truth_flag_plain intrinsics.CtPop word is = absurd cc
truth_flag_plain intrinsics.CtLz word is = let same : codes "zeropoison" ≡ word = cc in subst (λ (w : List ℕ). ends_primary kinds.Word w ≡ false) same refl
truth_flag_plain intrinsics.CtTz word is = let same : codes "zeropoison" ≡ word = cc in subst (λ (w : List ℕ). ends_primary kinds.Word w ≡ false) same refl

type_plain : (word : List ℕ) (width : ℕ) → IsWrittenType word width → ends_primary kinds.Word word ≡ false
unfolding ends_primary is_constant is_choice
type_plain word width is = rw is.1 refl

to_plain : ends_primary kinds.Word (codes "to") ≡ false
unfolding ends_primary is_constant is_choice is_digit
to_plain = refl

true_plain : ends_primary kinds.Word (codes "true") ≡ false
unfolding ends_primary is_constant is_choice is_digit
true_plain = refl

false_plain : ends_primary kinds.Word (codes "false") ≡ false
unfolding ends_primary is_constant is_choice is_digit
false_plain = refl

undef_plain : ends_primary kinds.Word (codes "undef") ≡ false
unfolding ends_primary is_constant is_choice is_digit
undef_plain = refl

-- a word that is an operand of a source and no constant
known_plain : (word : List ℕ) (value : RawArgument) → source_word_in word ≡ Some value → ends_primary kinds.Word word ≡ false
unfolding source_word_in
known_plain word value e = by (bytes_eq word (codes "true")) refl
  where
    plain : (wanted : List ℕ) → ends_primary kinds.Word wanted ≡ false → bytes_eq word wanted ≡ true → ends_primary kinds.Word word ≡ false
    plain wanted is same = ap (ends_primary kinds.Word) (same_word word wanted same) ∙ is

    undef : (b : Bool) → bytes_eq word (codes "true") ≡ false → bytes_eq word (codes "false") ≡ false → bytes_eq word (codes "undef") ≡ b → ends_primary kinds.Word word ≡ false
    undef true f g h = plain (codes "undef") undef_plain h
    undef false f g h = let none_ : source_word_in word ≡ None = rw (f, g, h) refl in let both = sym none_ ∙ e in absurd cc

    never : (b : Bool) → bytes_eq word (codes "true") ≡ false → bytes_eq word (codes "false") ≡ b → ends_primary kinds.Word word ≡ false
    never true f g = plain (codes "false") false_plain g
    never false f g = undef (bytes_eq word (codes "undef")) f g refl

    by : (b : Bool) → bytes_eq word (codes "true") ≡ b → ends_primary kinds.Word word ≡ false
    by true f = plain (codes "true") true_plain f
    by false f = never (bytes_eq word (codes "false")) f refl

-- ---- the sentinel is next

mark_argument : (m : Token) (kind : RuleFaultKind) → IsMark m kind → (limits : Limits) (half : Half) (line : ℕ) (rest : List Token) → (argument_at limits half line (m ∷ rest) ≡ Err (unexpected line (m ∷ rest))) ⊎ (argument_at limits half line (m ∷ rest) ≡ term_argument_at limits line (m ∷ rest))
unfolding argument_at
mark_argument m kind bad limits Source line rest = inl refl
mark_argument m kind excess limits Source line rest = inl refl
mark_argument m kind bad limits Target line rest = inr refl
mark_argument m kind excess limits Target line rest = inr refl

mark_target : (m : Token) (kind : RuleFaultKind) → IsMark m kind → (limits : Limits) (line : ℕ) (rest : List Token) → argument_at limits Target line (m ∷ rest) ≡ term_argument_at limits line (m ∷ rest)
unfolding argument_at
mark_target m kind bad limits line rest = refl
mark_target m kind excess limits line rest = refl

mark_no_type : (m : Token) (kind : RuleFaultKind) → IsMark m kind → (rest : List Token) → maybe_type (m ∷ rest) ≡ (None, m ∷ rest)
unfolding maybe_type
mark_no_type m kind bad rest = refl
mark_no_type m kind excess rest = refl

mark_type : (m : Token) (kind : RuleFaultKind) → IsMark m kind → (line : ℕ) (rest : List Token) → type_at line (m ∷ rest) ≡ Err (unexpected line (m ∷ rest))
unfolding type_at
mark_type m kind bad line rest = refl
mark_type m kind excess line rest = refl

mark_to : (m : Token) (kind : RuleFaultKind) → IsMark m kind → (line : ℕ) (rest : List Token) → to_at line (m ∷ rest) ≡ (line_end line (m ∷ rest) >>= λ more. Ok (None, more))
unfolding to_at
mark_to m kind bad line rest = refl
mark_to m kind excess line rest = refl

mark_pred : (m : Token) (kind : RuleFaultKind) → IsMark m kind → (line : ℕ) (rest : List Token) → pred_at line (m ∷ rest) ≡ Err (unexpected line (m ∷ rest))
unfolding pred_at
mark_pred m kind bad line rest = refl
mark_pred m kind excess line rest = refl

mark_flags : (m : Token) (kind : RuleFaultKind) → IsMark m kind → (taken : Flags) (line : ℕ) (before : Flags) (rest : List Token) → flags_at taken line before (m ∷ rest) ≡ Ok (before, m ∷ rest)
unfolding flags_at
mark_flags m kind bad taken line before rest = refl
mark_flags m kind excess taken line before rest = refl

mark_no_truth : (m : Token) (kind : RuleFaultKind) → IsMark m kind → (op : Intrinsic) (rest : List Token) → is_truth_next op (m ∷ rest) ≡ false
mark_no_truth m kind bad op rest = refl
mark_no_truth m kind excess op rest = refl

mark_no_operation : (m : Token) (kind : RuleFaultKind) → IsMark m kind → (version : Version) (rest : List Token) → next_operation version (m ∷ rest) ≡ None
mark_no_operation m kind bad version rest = refl
mark_no_operation m kind excess version rest = refl

mark_left_out : (m : Token) (kind : RuleFaultKind) → IsMark m kind → (line : ℕ) (rest : List Token) → left_out line (m ∷ rest) ≡ unexpected line (m ∷ rest)
mark_left_out m kind bad line rest = refl
mark_left_out m kind excess line rest = refl

abbrev operand_of : Option ℕ → RawArgument → RawOperand
operand_of written value = record { written = written; value = value }

module _ (c : Marking) (statements line : ℕ) (few : statements ≤ c.limits.statements) where
  abbrev here : Bool → State
  here operand = at c statements line few [] operand

  -- the same is read in both, and nothing is open behind it
  abbrev pub Plainly : {A : Type 0} → A × List Token → A × List Token → Type 0
  Plainly x y = (x.0 ≡ y.0) × ((p : Bool) × Marked c (here p) x.1 y.1)

  abbrev pub Stops : {A : Type 0} → A × List Token → Type 0
  Stops x = (rest : List Token) × (x.1 ≡ c.mark ∷ rest)

  abbrev ArgumentSame : {A : Type 0} → Result (A × List Token) RuleFault → Result (A × List Token) RuleFault → Type 0
  ArgumentSame {A} r q = Same c line {X = A × List Token} Plainly Stops r q

  -- the line is read to its end in both
  abbrev WholeSame : {A : Type 0} → Result (A × List Token) RuleFault → Result (A × List Token) RuleFault → Type 0
  WholeSame {A} r q = Same c line {X = A × List Token} (λ x y. (x.0 ≡ y.0) × Ended c statements line few x.1 y.1) (NoStand c statements line few) r q

  abbrev NoMeet : {A : Type 0} → Result (A × List Token) RuleFault → Type 0
  NoMeet {A} r = Meets c line {X = A × List Token} (NoStand c statements line few) r

  word_on : (p : Bool) (word : List ℕ) (a b : List Token) → ends_primary kinds.Word word ≡ false → Next c (here p) (Word word) a b → Marked c (here false) a b
  word_on p word a b is next = word_other c statements line few [] p word a b is (omega arith) next

  -- ---- operands

  named_same : {A : Type 0} (f : List ℕ → A) (name : List ℕ) (a b : List Token) → NameRead c statements line few name [] a b → ArgumentSame {A = A} (name_within c.limits line name >>= λ held. Ok (f held, a)) (name_within c.wider line name >>= λ held. Ok (f held, b))
  named_same f name a b (too_long rest e w) = rw (e, w) (stands (f name, c.mark ∷ rest) (rest, refl))
  named_same f name a b (fine x y e w more) = rw (e, w) (read (f name, x) (f name, y) (refl, (true, more)))

  source_word_same : (word : List ℕ) (a b : List Token) → Next c (here false) (Word word) a b → ArgumentSame {A = RawArgument} (source_word c.limits line word >>= λ value. Ok (value, a)) (source_word c.wider line word >>= λ value. Ok (value, b))
  unfolding source_word
  source_word_same word a b next = by (is_constant word) refl
    where
      constant : (u v : List Token) → NameRead c statements line few word [] u v
          → ArgumentSame {A = RawArgument} ((name_within c.limits line word >>= λ held. Ok (arguments.Constant held)) >>= λ value. Ok (value, u)) ((name_within c.wider line word >>= λ held. Ok (arguments.Constant held)) >>= λ value. Ok (value, v))
      constant u v (too_long rest e w) = rw (e, w) (stands (arguments.Constant word, c.mark ∷ rest) (rest, refl))
      constant u v (fine x y e w more) = rw (e, w) (read (arguments.Constant word, x) (arguments.Constant word, y) (refl, (true, more)))

      known : (found : Option RawArgument) → source_word_in word ≡ found → ArgumentSame {A = RawArgument} (known_or_misplaced line word found >>= λ value. Ok (value, a)) (known_or_misplaced line word found >>= λ value. Ok (value, b))
      known None e = misplaced_both word
      known (Some value) e = read (value, a) (value, b) (refl, (false, word_on false word a b (known_plain word value e) next))

      by : (d : Bool) → is_constant word ≡ d
          → ArgumentSame {A = RawArgument} (cond d (name_within c.limits line word >>= λ held. Ok (arguments.Constant held)) (known_or_misplaced line word (source_word_in word)) >>= λ value. Ok (value, a))
          (cond d (name_within c.wider line word >>= λ held. Ok (arguments.Constant held)) (known_or_misplaced line word (source_word_in word)) >>= λ value. Ok (value, b))
      by true e = constant a b (word_read c statements line few [] false word a b (constant_operand word e) (omega arith) next)
      by false e = known (source_word_in word) refl

  term_argument_same : (a b : List Token) → Marked c (here false) a b → ArgumentSame {A = RawArgument} (term_argument_at c.limits line a) (term_argument_at c.wider line b)
  term_argument_same a b marked =
      same_bind (term_same c statements line few Constant c.limits.nested c.wider.nested c.nested [] refl (omega arith) a b marked)
      (λ x y is. read (argument_of x.0, x.1) (argument_of y.0, y.1) (ap argument_of is.0, (true, is.1))) (λ y s. left (argument_of y.0, y.1) s)

  argument_same : (half : Half) (a b : List Token) → Marked c (here false) a b → ArgumentSame {A = RawArgument} (argument_at c.limits half line a) (argument_at c.wider half line b)
  unfolding argument_at
  argument_same half a b marked = by half a b marked (first c (here false) a b marked)
    where
      number : (text : List ℕ) (x y : List Token) → IsOperand c statements line few (Number text) [] x y → ArgumentSame {A = RawArgument} (Ok (arguments.Literal (literal_value text), x)) (Ok (arguments.Literal (literal_value text), y))
      number text x y (long rest more le) = absurd (omega (arith, more))
      number text x y (short u v le more) = read (arguments.Literal (literal_value text), u) (arguments.Literal (literal_value text), v) (refl, (true, more))

      target_word : (word : List ℕ) (x y : List Token) → Marked c (here false) (Word word ∷ x) (Word word ∷ y) → Next c (here false) (Word word) x y → (d : Bool) → bytes_eq word (codes "undef") ≡ d
          → ArgumentSame {A = RawArgument} (cond d (Ok (arguments.Undef, x)) (term_argument_at c.limits line (Word word ∷ x))) (cond d (Ok (arguments.Undef, y)) (term_argument_at c.wider line (Word word ∷ y)))
      target_word word x y whole next true e = read (arguments.Undef, x) (arguments.Undef, y) (refl, (false, word_on false word x y (ap (ends_primary kinds.Word) (same_word word (codes "undef") e) ∙ undef_plain) next))
      target_word word x y whole next false e = term_argument_same (Word word ∷ x) (Word word ∷ y) whole

      cut_source : ArgumentSame {A = RawArgument} (Err (fault line TooMany)) (argument_at c.wider Source line (c.mark ∷ []))
      cut_source = elim (mark_argument c.mark c.kind c.is_mark c.wider Source line []) as (λ _. ArgumentSame {A = RawArgument} (Err (fault line TooMany)) (argument_at c.wider Source line (c.mark ∷ []))) [
        | inl e ↦ rw e (cut_told [])
        | inr e ↦ rw (e, term_refuses c statements line few Constant c.wider.nested []) told
      ]

      cut_target : Marked c (here false) (Excess ∷ []) (c.mark ∷ []) → ArgumentSame {A = RawArgument} (term_argument_at c.limits line (Excess ∷ [])) (argument_at c.wider Target line (c.mark ∷ []))
      cut_target whole = rw (mark_target c.mark c.kind c.is_mark c.wider line []) (term_argument_same (Excess ∷ []) (c.mark ∷ []) whole)

      by : (h : Half) (u v : List Token) → Marked c (here false) u v → First c (here false) u v → ArgumentSame {A = RawArgument} (argument_at c.limits h line u) (argument_at c.wider h line v)
      by Source u v whole ends = syntax_both
      by Source u v whole stops = cut_source
      by Source u v whole (token (Register name) x y text next) = named_same (λ held. arguments.Register held) name x y (register_read c statements line few [] false name x y (omega arith) next)
      by Source u v whole (token (Number n) x y text next) = number n x y (operand c statements line few [] false (Number n) x y (omega arith) tt refl next)
      by Source u v whole (token (Word word) x y text next) = source_word_same word x y next
      by Source u v whole (token t x y text next) = unexpected_both t x y text
      by Target u v whole ends = term_argument_same [] [] whole
      by Target u v whole stops = cut_target whole
      by Target u v whole (token (Register name) x y text next) = named_same (λ held. arguments.Register held) name x y (register_read c statements line few [] false name x y (omega arith) next)
      by Target u v whole (token (Word word) x y text next) = target_word word x y whole next (bytes_eq word (codes "undef")) refl
      by Target u v whole (token t x y text next) = term_argument_same (t ∷ x) (t ∷ y) whole

  typed_same : (half : Half) (written : Option ℕ) (a b : List Token) → Marked c (here false) a b → ArgumentSame {A = RawOperand} (typed_at c.limits half line written a) (typed_at c.wider half line written b)
  unfolding typed_at
  typed_same half written a b marked =
      same_bind (argument_same half a b marked)
      (λ x y is. read (operand_of written x.0, x.1) (operand_of written y.0, y.1) (ap (operand_of written) is.0, is.1))
      (λ y s. left (operand_of written y.0, y.1) s)

  -- an optional type
  maybe_same : (a b : List Token) → Marked c (here false) a b → ((maybe_type a).0 ≡ (maybe_type b).0) × Marked c (here false) (maybe_type a).1 (maybe_type b).1
  unfolding maybe_type
  maybe_same a b marked = by a b marked (first c (here false) a b marked)
    where
      word : (w : List ℕ) (x y : List Token) → Marked c (here false) (Word w ∷ x) (Word w ∷ y) → Next c (here false) (Word w) x y → (found : Option ℕ) → type_in w ≡ found → ((type_or_word w found x).0 ≡ (type_or_word w found y).0) × Marked c (here false) (type_or_word w found x).1 (type_or_word w found y).1
      word w x y whole next None e = (refl, whole)
      word w x y whole next (Some width) e = (refl, word_on false w x y (type_plain w width (type_in-is w width e)) next)

      by : (u v : List Token) → Marked c (here false) u v → First c (here false) u v → ((maybe_type u).0 ≡ (maybe_type v).0) × Marked c (here false) (maybe_type u).1 (maybe_type v).1
      by u v whole ends = (refl, whole)
      by u v whole stops = rw (mark_no_type c.mark c.kind c.is_mark []) (refl, whole)
      by u v whole (token (Word w) x y text next) = word w x y whole next (type_in w) refl
      by u v whole (token t x y text next) = (refl, whole)

  operand_same : (half : Half) (a b : List Token) → Marked c (here false) a b → ArgumentSame {A = RawOperand} (operand_at c.limits half line a) (operand_at c.wider half line b)
  operand_same half a b marked =
      let m = maybe_same a b marked in
      subst (λ (w : Option ℕ). ArgumentSame {A = RawOperand} (typed_at c.limits half line (maybe_type a).0 (maybe_type a).1) (typed_at c.wider half line w (maybe_type b).1)) m.0 (typed_same half (maybe_type a).0 (maybe_type a).1 (maybe_type b).1 m.1)

  -- ---- marks and words between operands

  comma_same : (p : Bool) (a b : List Token) → Marked c (here p) a b → Same c line (Marked c (here false)) (NoStand c statements line few) (mark_at (codes ",") line a) (mark_at (codes ",") line b)
  comma_same true a b marked = mark_same c statements line few (codes ",") (here true) a b marked (λ x y next. on c statements line few (Mark (codes ",")) x y next tt refl (omega arith) few)
  comma_same false a b marked = mark_same c statements line few (codes ",") (here false) a b marked (λ x y next. on c statements line few (Mark (codes ",")) x y next tt refl (omega arith) few)

  comma_met : (rest : List Token) → Meets c line (NoStand c statements line few) (mark_at (codes ",") line (c.mark ∷ rest))
  comma_met rest = mark_met c statements line few (codes ",") rest

  -- the end of the line behind an operand
  ends_same : {A B : Type 0} (f : A → B) (x y : A × List Token) → Plainly x y → WholeSame {A = B} (line_end line x.1 >>= λ rest. Ok (f x.0, rest)) (line_end line y.1 >>= λ rest. Ok (f y.0, rest))
  ends_same f x y (is, (p, marked)) = same_bind (line_end_same c statements line few [] p x.1 y.1 marked) (λ u v e. read (f x.0, u) (f y.0, v) (ap f is, e)) (λ v never. absurd never)

  ends_met : {A B : Type 0} (value : B) (y : A × List Token) → Stops y → NoMeet {A = B} (line_end line y.1 >>= λ rest. Ok (value, rest))
  ends_met value y (rest, is) = rw is (meets_bind (line_end_met c statements line few rest) (λ v never. absurd never))

  -- a comma behind an operand, and what follows
  comma_then : {A B : Type 0} {f g : List Token → Result (B × List Token) RuleFault} (x y : A × List Token) → Plainly x y → ((a b : List Token) → Marked c (here false) a b → WholeSame {A = B} (f a) (g b)) → WholeSame {A = B} (mark_at (codes ",") line x.1 >>= f) (mark_at (codes ",") line y.1 >>= g)
  comma_then x y (is, (p, marked)) more = same_bind (comma_same p x.1 y.1 marked) (λ u v m. more u v m) (λ v never. absurd never)

  comma_then_met : {A B : Type 0} (g : List Token → Result (B × List Token) RuleFault) (y : A × List Token) → Stops y → NoMeet {A = B} (mark_at (codes ",") line y.1 >>= g)
  comma_then_met g y (rest, is) = rw is (meets_bind (comma_met rest) (λ v never. absurd never))

  -- ---- two operands

  pair_same : (half : Half) (a b : List Token) → Marked c (here false) a b → WholeSame {A = RawOperand × RawOperand} (pair_at c.limits half line a) (pair_at c.wider half line b)
  unfolding pair_at
  pair_same half a b marked =
      same_bind (operand_same half a b marked)
      (λ l m is. comma_then l m is (λ s t more. same_bind (typed_same half None s t more)
      (λ r q same_. subst (λ (left_ : RawOperand). WholeSame {A = RawOperand × RawOperand} (line_end line r.1 >>= λ rest. Ok ((l.0, r.0), rest)) (line_end line q.1 >>= λ rest. Ok ((left_, q.0), rest))) is.0 (ends_same (λ (o : RawOperand). (l.0, o)) r q same_))
      (λ q s_. ends_met (m.0, q.0) q s_)))
      (λ m s_. comma_then_met _ m s_)

  -- ---- flags

  -- words are read, with the same behind them in both
  abbrev WordsSame : {A : Type 0} → Result (A × List Token) RuleFault → Result (A × List Token) RuleFault → Type 0
  WordsSame {A} r q = Same c line {X = A × List Token} (λ x y. (x.0 ≡ y.0) × Marked c (here false) x.1 y.1) (NoStand c statements line few) r q

  flags_same : (fuel : ℕ) (taken before : Flags) (a b : List Token) → length a < fuel → Marked c (here false) a b → WordsSame {A = Flags} (flags_at taken line before a) (flags_at taken line before b)
  unfolding flags_at
  flags_same zero taken before a b small marked = absurd (omega (arith, small))
  flags_same (suc fuel) taken before a b small marked = by a b small marked (first c (here false) a b marked) (λ fs x y less more. flags_same fuel taken fs x y less more)
    where
      again : (x y : List Token) (flag : Flag) → WordsSame {A = Flags} (flags_at taken line (with_flag before flag) x) (flags_at taken line (with_flag before flag) y) → (d : Bool)
          → WordsSame {A = Flags} (cond d (Err (fault line Syntax)) (flags_at taken line (with_flag before flag) x)) (cond d (Err (fault line Syntax)) (flags_at taken line (with_flag before flag) y))
      again x y flag more true = syntax_both
      again x y flag more false = more

      word : (w : List ℕ) (x y : List Token) → length x < fuel → Marked c (here false) (Word w ∷ x) (Word w ∷ y) → Next c (here false) (Word w) x y
          → ((fs : Flags) (u v : List Token) → length u < fuel → Marked c (here false) u v → WordsSame {A = Flags} (flags_at taken line fs u) (flags_at taken line fs v)) → (found : Option Flag) → flag_in taken w ≡ found
          → WordsSame {A = Flags} (flag_or_end line before found (λ fs. flags_at taken line fs x) (Word w ∷ x)) (flag_or_end line before found (λ fs. flags_at taken line fs y) (Word w ∷ y))
      word w x y less whole next others None e = read (before, Word w ∷ x) (before, Word w ∷ y) (refl, whole)
      word w x y less whole next others (Some flag) e =
          again x y flag (others (with_flag before flag) x y less (word_on false w x y (ap (ends_primary kinds.Word) (flag_in-is taken w flag e).0 ∙ flag_plain flag) next)) (has_flag before flag)

      by : (u v : List Token) → length u < suc fuel → Marked c (here false) u v → First c (here false) u v
          → ((fs : Flags) (x y : List Token) → length x < fuel → Marked c (here false) x y → WordsSame {A = Flags} (flags_at taken line fs x) (flags_at taken line fs y)) → WordsSame {A = Flags} (flags_at taken line before u) (flags_at taken line before v)
      by u v small_ whole ends others = read (before, []) (before, []) (refl, whole)
      by u v small_ whole stops others = rw (mark_flags c.mark c.kind c.is_mark taken line before []) (read (before, Excess ∷ []) (before, c.mark ∷ []) (refl, whole))
      by u v small_ whole (token (Word w) x y text next) others = word w x y (omega (arith, small_)) whole next others (flag_in taken w) refl
      by u v small_ whole (token t x y text next) others = read (before, t ∷ x) (before, t ∷ y) (refl, whole)

  -- flags, and what is read behind them
  flagged : {B : Type 0} (taken : Flags) (f g : Flags × List Token → Result (B × List Token) RuleFault) (a b : List Token) → Marked c (here false) a b → ((fs : Flags) (x y : List Token) → Marked c (here false) x y → WholeSame {A = B} (f (fs, x)) (g (fs, y)))
      → WholeSame {A = B} (flags_at taken line no_flags a >>= f) (flags_at taken line no_flags b >>= g)
  flagged {B} taken f g a b marked more =
      same_bind (flags_same (suc (length a)) taken no_flags a b (omega arith) marked) (λ x y is. subst (λ (fs : Flags). WholeSame {A = B} (f x) (g (fs, y.1))) is.0 (more x.0 x.1 y.1 is.1)) (λ y never. absurd never)

  -- ---- what a statement computes

  binary_same : (half : Half) (op : Opcodes) (a b : List Token) → Marked c (here false) a b → WholeSame {A = RawOp} (binary_at c.limits half line op a) (binary_at c.wider half line op b)
  unfolding binary_at
  binary_same half op a b marked =
      flagged (flags_of op) _ _ a b marked (λ fs x y more.
      same_bind (pair_same half x y more) (λ p q is. read (Binary op fs p.0.0 p.0.1, p.1) (Binary op fs q.0.0 q.0.1, q.1) (ap (λ (r : RawOperand × RawOperand). Binary op fs r.0 r.1) is.0, is.1)) (λ q never. absurd never))

  pred_same : (a b : List Token) → Marked c (here false) a b → WordsSame {A = Pred} (pred_at line a) (pred_at line b)
  unfolding pred_at
  pred_same a b marked = by a b (first c (here false) a b marked)
    where
      word : (w : List ℕ) (x y : List Token) → Next c (here false) (Word w) x y → (found : Option Pred) → pred_in w ≡ found → WordsSame {A = Pred} (or_left_out line w found x) (or_left_out line w found y)
      word w x y next None e = misplaced_both w
      word w x y next (Some pred) e = read (pred, x) (pred, y) (refl, word_on false w x y (ap (ends_primary kinds.Word) (pred_in-is w pred e) ∙ predicate_plain pred) next)

      by : (u v : List Token) → First c (here false) u v → WordsSame {A = Pred} (pred_at line u) (pred_at line v)
      by u v ends = syntax_both
      by u v stops = rw (mark_pred c.mark c.kind c.is_mark line []) (cut_told [])
      by u v (token (Word w) x y text next) = word w x y next (pred_in w) refl
      by u v (token t x y text next) = unexpected_both t x y text

  compare_same : (half : Half) (a b : List Token) → Marked c (here false) a b → WholeSame {A = RawOp} (compare_at c.limits half line a) (compare_at c.wider half line b)
  unfolding compare_at
  compare_same half a b marked =
      flagged flags_of_icmp _ _ a b marked (λ fs x y more.
      same_bind (pred_same x y more) (λ p q is. same_bind (pair_same half p.1 q.1 is.1)
      (λ r s eq. read (Compare p.0 fs.samesign r.0.0 r.0.1, r.1) (Compare q.0 fs.samesign s.0.0 s.0.1, s.1) (ap (λ (pred : Pred). Compare pred fs.samesign r.0.0 r.0.1) is.0 ∙ ap (λ (o : RawOperand × RawOperand). Compare q.0 fs.samesign o.0 o.1) eq.0, eq.1))
      (λ s never. absurd never)) (λ q never. absurd never))

  -- the flag of an intrinsic is next in both or in neither
  truth_next_same : (op : Intrinsic) (a b : List Token) → Marked c (here false) a b → is_truth_next op a ≡ is_truth_next op b
  truth_next_same op a b marked = by a b (first c (here false) a b marked)
    where
      by : (u v : List Token) → First c (here false) u v → is_truth_next op u ≡ is_truth_next op v
      by u v ends = refl
      by u v stops = sym (mark_no_truth c.mark c.kind c.is_mark op [])
      by u v (token (Word w) x y text next) = refl
      by u v (token t x y text next) = refl

  truth_same : (op : Intrinsic) (a b : List Token) → Marked c (here false) a b → WordsSame {A = Bool} (truth_at op line a) (truth_at op line b)
  unfolding truth_at
  truth_same op a b marked = by a b marked (first c (here false) a b marked)
    where
      again : (x y : List Token) → Marked c (here false) x y → (d : Bool) → WordsSame {A = Bool} (cond d (Err (fault line Syntax)) (Ok (true, x))) (cond d (Err (fault line Syntax)) (Ok (true, y)))
      again x y more true = syntax_both
      again x y more false = read (true, x) (true, y) (refl, more)

      word : (w : List ℕ) (x y : List Token) → Marked c (here false) (Word w ∷ x) (Word w ∷ y) → Next c (here false) (Word w) x y → (d : Bool) → is_truth_flag op w ≡ d
          → WordsSame {A = Bool} (cond d (cond (is_truth_next op x) (Err (fault line Syntax)) (Ok (true, x))) (Ok (false, Word w ∷ x))) (cond d (cond (is_truth_next op y) (Err (fault line Syntax)) (Ok (true, y))) (Ok (false, Word w ∷ y)))
      word w x y whole next false e = read (false, Word w ∷ x) (false, Word w ∷ y) (refl, whole)
      word w x y whole next true e =
          let more : Marked c (here false) x y = word_on false w x y (truth_flag_plain op w (truth_flag-is c.limits op w e)) next in
          subst (λ (d : Bool). WordsSame {A = Bool} (cond (is_truth_next op x) (Err (fault line Syntax)) (Ok (true, x))) (cond d (Err (fault line Syntax)) (Ok (true, y)))) (truth_next_same op x y more) (again x y more (is_truth_next op x))

      by : (u v : List Token) → Marked c (here false) u v → First c (here false) u v → WordsSame {A = Bool} (truth_at op line u) (truth_at op line v)
      by u v whole ends = read (false, []) (false, []) (refl, whole)
      by u v whole stops = rw (mark_no_truth c.mark c.kind c.is_mark op []) (read (false, Excess ∷ []) (false, c.mark ∷ []) (refl, whole))
      by u v whole (token (Word w) x y text next) = word w x y whole next (is_truth_flag op w) refl
      by u v whole (token t x y text next) = read (false, t ∷ x) (false, t ∷ y) (refl, whole)

  unary_same : (half : Half) (op : Intrinsic) (a b : List Token) → Marked c (here false) a b → WholeSame {A = RawOp} (unary_at c.limits half line op a) (unary_at c.wider half line op b)
  unfolding unary_at
  unary_same half op a b marked =
      same_bind (truth_same op a b marked) (λ t u is. same_bind (operand_same half t.1 u.1 is.1)
      (λ x y eq. subst (λ (d : Bool). WholeSame {A = RawOp} (line_end line x.1 >>= λ rest. Ok (Unary op t.0 x.0, rest)) (line_end line y.1 >>= λ rest. Ok (Unary op d y.0, rest))) is.0 (ends_same (λ (o : RawOperand). Unary op t.0 o) x y eq))
      (λ y s. ends_met (Unary op u.0 y.0) y s)) (λ u never. absurd never)

  freeze_same : (half : Half) (a b : List Token) → Marked c (here false) a b → WholeSame {A = RawOp} (freeze_at c.limits half line a) (freeze_at c.wider half line b)
  unfolding freeze_at
  freeze_same half a b marked = same_bind (operand_same half a b marked) (λ x y eq. ends_same (λ (o : RawOperand). Freeze o) x y eq) (λ y s. ends_met (Freeze y.0) y s)

  copy_same : (a b : List Token) → Marked c (here false) a b → WholeSame {A = RawOp} (copy_at c.limits line a) (copy_at c.wider line b)
  unfolding copy_at
  copy_same a b marked = same_bind (operand_same Target a b marked) (λ x y eq. ends_same (λ (o : RawOperand). Copy o) x y eq) (λ y s. ends_met (Copy y.0) y s)

  select_same : (half : Half) (a b : List Token) → Marked c (here false) a b → WholeSame {A = RawOp} (select_at c.limits half line a) (select_at c.wider half line b)
  unfolding select_at
  select_same half a b marked =
      same_bind (operand_same half a b marked)
      (λ x y is. comma_then x y is (λ s t more. same_bind (operand_same half s t more)
      (λ u v eq. comma_then u v eq (λ q r further. same_bind (operand_same half q r further)
      (λ m n last. subst (λ (o : RawOperand). WholeSame {A = RawOp} (line_end line m.1 >>= λ rest. Ok (Select x.0 u.0 m.0, rest)) (line_end line n.1 >>= λ rest. Ok (Select o v.0 n.0, rest))) is.0
      (subst (λ (o : RawOperand). WholeSame {A = RawOp} (line_end line m.1 >>= λ rest. Ok (Select x.0 u.0 m.0, rest)) (line_end line n.1 >>= λ rest. Ok (Select x.0 o n.0, rest))) eq.0 (ends_same (λ (o : RawOperand). Select x.0 u.0 o) m n last)))
      (λ n s_. ends_met (Select y.0 v.0 n.0) n s_)))
      (λ v s_. comma_then_met _ v s_)))
      (λ y s_. comma_then_met _ y s_)

  -- `to` and a type
  type_same : (a b : List Token) → Marked c (here false) a b → WordsSame {A = ℕ} (type_at line a) (type_at line b)
  unfolding type_at
  type_same a b marked = by a b (first c (here false) a b marked)
    where
      word : (w : List ℕ) (x y : List Token) → Next c (here false) (Word w) x y → (found : Option ℕ) → type_in w ≡ found → WordsSame {A = ℕ} (or_left_out line w found x) (or_left_out line w found y)
      word w x y next None e = misplaced_both w
      word w x y next (Some width) e = read (width, x) (width, y) (refl, word_on false w x y (type_plain w width (type_in-is w width e)) next)

      by : (u v : List Token) → First c (here false) u v → WordsSame {A = ℕ} (type_at line u) (type_at line v)
      by u v ends = syntax_both
      by u v stops = rw (mark_type c.mark c.kind c.is_mark line []) (cut_told [])
      by u v (token (Word w) x y text next) = word w x y next (type_in w) refl
      by u v (token t x y text next) = unexpected_both t x y text

  to_same : (p : Bool) (a b : List Token) → Marked c (here p) a b → WholeSame {A = Option ℕ} (to_at line a) (to_at line b)
  unfolding to_at
  to_same p a b marked = by a b marked (first c (here p) a b marked)
    where
      line_ends : (u v : List Token) → Marked c (here p) u v → WholeSame {A = Option ℕ} (line_end line u >>= λ rest. Ok (None, rest)) (line_end line v >>= λ rest. Ok (None, rest))
      line_ends u v whole = same_bind (line_end_same c statements line few [] p u v whole) (λ s t e. read (None, s) (None, t) (refl, e)) (λ t never. absurd never)

      typed : (x y : List Token) → Marked c (here false) x y → WholeSame {A = Option ℕ} (type_at line x >>= λ width. line_end line width.1 >>= λ behind. Ok (Some width.0, behind)) (type_at line y >>= λ width. line_end line width.1 >>= λ behind. Ok (Some width.0, behind))
      typed x y more = same_bind (type_same x y more) (λ u v is. ends_same (λ (w : ℕ). Some w) u v (is.0, (false, is.1))) (λ v never. absurd never)

      word : (w : List ℕ) (x y : List Token) → Next c (here p) (Word w) x y → (d : Bool) → bytes_eq w (codes "to") ≡ d
          → WholeSame {A = Option ℕ} (cond d (type_at line x >>= λ width. line_end line width.1 >>= λ behind. Ok (Some width.0, behind)) (Err (fault line Syntax))) (cond d (type_at line y >>= λ width. line_end line width.1 >>= λ behind. Ok (Some width.0, behind)) (Err (fault line Syntax)))
      word w x y next false e = syntax_both
      word w x y next true e = typed x y (word_on p w x y (ap (ends_primary kinds.Word) (same_word w (codes "to") e) ∙ to_plain) next)

      by : (u v : List Token) → Marked c (here p) u v → First c (here p) u v → WholeSame {A = Option ℕ} (to_at line u) (to_at line v)
      by u v whole ends = line_ends [] [] whole
      by u v whole stops = rw (mark_to c.mark c.kind c.is_mark line []) (line_ends (Excess ∷ []) (c.mark ∷ []) whole)
      by u v whole (token (Word w) x y text next) = word w x y next (bytes_eq w (codes "to")) refl
      by u v whole (token t x y text next) = line_ends (t ∷ x) (t ∷ y) whole

  to_met : {A : Type 0} (f : Option ℕ × List Token → A × List Token) (rest : List Token) → NoMeet {A = A} (to_at line (c.mark ∷ rest) >>= λ to. Ok (f to))
  to_met f rest = rw (mark_to c.mark c.kind c.is_mark line rest) (meets_bind (meets_bind (line_end_met c statements line few rest) (λ v never. absurd never)) (λ v never. absurd never))

  convert_same : (half : Half) (cast : Cast) (a b : List Token) → Marked c (here false) a b → WholeSame {A = RawOp} (convert_at c.limits half line cast a) (convert_at c.wider half line cast b)
  unfolding convert_at
  convert_same half cast a b marked =
      flagged (flags_of_cast cast) _ _ a b marked (λ fs x y more.
      same_bind (operand_same half x y more)
      (λ u v is. same_bind (to_same is.1.0 u.1 v.1 is.1.1)
      (λ s t eq. read (Convert cast fs u.0 s.0, s.1) (Convert cast fs v.0 t.0, t.1) (ap (λ (o : RawOperand). Convert cast fs o s.0) is.0 ∙ ap (λ (w : Option ℕ). Convert cast fs v.0 w) eq.0, eq.1)) (λ t never. absurd never))
      (λ v s_. subst (λ (ts : List Token). NoMeet {A = RawOp} (to_at line ts >>= λ to. Ok (Convert cast fs v.0 to.0, to.1))) (sym s_.1) (to_met (λ to. (Convert cast fs v.0 to.0, to.1)) s_.0)))

  -- ---- behind `=`

  operation_same : (half : Half) (operation : Operation) (a b : List Token) → Marked c (here false) a b → WholeSame {A = RawOp} (operation_at c.limits half line operation a) (operation_at c.wider half line operation b)
  operation_same half (operations.Binary op) a b marked = binary_same half op a b marked
  operation_same half operations.Compare a b marked = compare_same half a b marked
  operation_same half (operations.Unary op) a b marked = unary_same half op a b marked
  operation_same half operations.Select a b marked = select_same half a b marked
  operation_same half (operations.Convert cast) a b marked = convert_same half cast a b marked
  operation_same half operations.Freeze a b marked = freeze_same half a b marked

  other_same : (half : Half) (a b : List Token) → Marked c (here false) a b → WholeSame {A = RawOp} (other_at c.limits half line a) (other_at c.wider half line b)
  other_same Target a b marked = copy_same a b marked
  other_same Source a b marked = by a b (first c (here false) a b marked)
    where
      by : (u v : List Token) → First c (here false) u v → WholeSame {A = RawOp} (Err (left_out line u)) (Err (left_out line v))
      by u v ends = syntax_both
      by u v stops = rw (mark_left_out c.mark c.kind c.is_mark line []) (cut_told [])
      by u v (token (Word w) x y text next) = misplaced_both w
      by u v (token t x y text next) = unexpected_both t x y text

  pub op_same : (version : Version) (half : Half) (a b : List Token) → Marked c (here false) a b → WholeSame {A = RawOp} (op_at c.limits version half line a) (op_at c.wider version half line b)
  unfolding op_at
  op_same version half a b marked = by a b marked (first c (here false) a b marked)
    where
      word : (w : List ℕ) (x y : List Token) → Marked c (here false) (Word w ∷ x) (Word w ∷ y) → Next c (here false) (Word w) x y → (found : Option Operation) → operation_in version false w ≡ found
          → WholeSame {A = RawOp} (operation_or_other c.limits half line found (Word w ∷ x)) (operation_or_other c.wider half line found (Word w ∷ y))
      word w x y whole next None e = other_same half (Word w ∷ x) (Word w ∷ y) whole
      word w x y whole next (Some operation) e = operation_same half operation x y (word_on false w x y (ap (ends_primary kinds.Word) (opcode_is c.limits version false w operation e) ∙ operation_plain operation) next)

      apart : (w : List ℕ) (x y : List Token) → Marked c (here false) (Opcode w ∷ x) (Opcode w ∷ y) → Next c (here false) (Opcode w) x y → (found : Option Operation) → operation_in version true w ≡ found
          → WholeSame {A = RawOp} (operation_or_other c.limits half line found (Opcode w ∷ x)) (operation_or_other c.wider half line found (Opcode w ∷ y))
      apart w x y whole next None e = other_same half (Opcode w ∷ x) (Opcode w ∷ y) whole
      apart w x y whole next (Some operation) e = operation_same half operation x y (on c statements line few (Opcode w) x y next tt refl (omega arith) few)

      by : (u v : List Token) → Marked c (here false) u v → First c (here false) u v → WholeSame {A = RawOp} (op_at c.limits version half line u) (op_at c.wider version half line v)
      by u v whole ends = other_same half [] [] whole
      by u v whole stops = rw (mark_no_operation c.mark c.kind c.is_mark version []) (other_same half (Excess ∷ []) (c.mark ∷ []) whole)
      by u v whole (token (Word w) x y text next) = word w x y whole next (operation_in version false w) refl
      by u v whole (token (Opcode w) x y text next) = apart w x y whole next (operation_in version true w) refl
      by u v whole (token t x y text next) = other_same half (t ∷ x) (t ∷ y) whole
