-- What the grammar spells as a statement is read, where the line of its last token ends behind it.
use Rattle.rule_parse.proofs.Common.{codes, ◌≡◌, ◌≤◌, ℕ, length, Bool, true, false, List, [], ◌∷◌, ◌++◌, map, Option, Some, None, Ok, refl, ◌∙◌, append_assoc, Flags, Pred, no_flags, flags_of, flags_of_cast, flags_of_icmp, icmp_flags, Flag, predicate_keyword, AddsFlags, flag_keyword, with_flag, pred_in-of, flag_in-of, predicate_is_no_flag, is_constant, Half, Source, Target, RawOp, Copy, RawOperand, RawArgument, Operation, SpellsType, SpellsTermOperand, SpellsArgument, SpellsUntyped, SpellsOperand, SpellsPair, SpellsFlags, SpellsTruth, SpellsTo, SpellsOp, maybe_type, source_word, term_argument_at, argument_at, typed_at, operand_at, to_at, next_flag, flags_at, pair_at, binary_at, pred_at, compare_at, is_truth_next, truth_at, unary_at, select_at, convert_at, freeze_at, copy_at, operation_at, op_at, Maybe, Comma, Token, Line, Register, Word, Number, Mark, is_known, opcode_token, truth_word, source_word_in, Constant, EndsTerm, mark_at, term_at, operator_in, mark_at-of, term_at-of, EndsLine, name_within-of, type_at-of, line_end-of, type_in-of, Version, Limits}
use Rattle.ops.specs.declared.opcode.Unary.{Unary as Intrinsic}
use Rattle.ops.specs.declared.opcode.Unary.TheVariants as intrinsics
use Rattle.rule_parse.specs.declared.raw.RawOp.TheVariants.{Binary, Compare, Unary, Select, Convert, Freeze}
use Rattle.rule_parse.specs.declared.raw.RawArgument.TheVariants as arguments
use Rattle.rule_parse.specs.declared.word.Operation.TheVariants as operations
use Rattle.rule_parse.proofs.Beginnings.{BeginsTerm, BeginsOperand, term_begins, argument_begins}
use Rattle.rule_parse.proofs.Pieces.{operation_in-of, truth_flag-of, type_is_no_flag, type_is_no_truth_flag, type_is_no_operation}

module _ (limits : Limits) where
  -- ---- types and operands

  source_word-constant : (line : ℕ) (name : List ℕ) → is_constant name ≡ true → length name ≤ limits.name_bytes → source_word limits line name ≡ Ok (arguments.Constant name)
  unfolding source_word
  source_word-constant line name c le = rw (c, name_within-of limits line name le) refl

  truth_read : (line : ℕ) (truth : Bool) → source_word limits line (truth_word truth) ≡ Ok (arguments.Truth truth)
  unfolding source_word source_word_in is_constant
  truth_read line true = refl
  truth_read line false = refl

  undef_read : (line : ℕ) → source_word limits line (codes "undef") ≡ Ok arguments.Undef
  unfolding source_word source_word_in is_constant
  undef_read line = refl

  -- what begins as a term is read as one
  term_read : (line : ℕ) (own rest : List Token) → BeginsTerm limits own → argument_at limits Target line (own ++ rest) ≡ term_argument_at limits line (own ++ rest)
  unfolding argument_at
  term_read line (Number text ∷ ts) rest begins = refl
  term_read line (Word word ∷ ts) rest begins = rw begins.1 refl
  term_read line (Mark mark ∷ ts) rest begins = refl
  term_read line tokens rest begins = absurd begins

  term_argument_at-of : (line : ℕ) (a : RawArgument) (own rest : List Token) → SpellsTermOperand limits a own → EndsTerm rest → argument_at limits Target line (own ++ rest) ≡ Ok (a, rest)
  term_argument_at-of line a own rest (nodes, is, same) ends =
      let read : term_at limits Constant limits.nested line (own ++ rest) ≡ Ok (nodes, rest) = term_at-of limits Constant limits.nested line nodes own rest is ends in
      term_read line own rest (term_begins limits is) ∙ rw (read, same) refl

  argument_at-of : (half : Half) (line : ℕ) (a : RawArgument) (own rest : List Token) → SpellsArgument limits half a own → EndsTerm rest → argument_at limits half line (own ++ rest) ≡ Ok (a, rest)
  unfolding argument_at
  argument_at-of Source line (arguments.Register name) own rest (le, is) ends = rw (is, name_within-of limits line name le) refl
  argument_at-of Target line (arguments.Register name) own rest (le, is) ends = rw (is, name_within-of limits line name le) refl
  argument_at-of Source line arguments.Undef own rest is ends = rw (is, undef_read line) refl
  argument_at-of Target line arguments.Undef own rest is ends = rw is refl
  argument_at-of Source line (arguments.Literal z) own rest (text, value, is) ends = rw (is, value) refl
  argument_at-of Source line (arguments.Constant name) own rest (c, le, is) ends = rw (is, source_word-constant line name c le) refl
  argument_at-of Source line (arguments.Truth truth) own rest is ends = rw (is, truth_read line truth) refl
  argument_at-of Source line (arguments.Term nodes) own rest is ends = absurd is
  argument_at-of Target line (arguments.Literal z) own rest is ends = term_argument_at-of line (arguments.Literal z) own rest is ends
  argument_at-of Target line (arguments.Constant name) own rest is ends = term_argument_at-of line (arguments.Constant name) own rest is ends
  argument_at-of Target line (arguments.Truth truth) own rest is ends = absurd is
  argument_at-of Target line (arguments.Term nodes) own rest is ends = term_argument_at-of line (arguments.Term nodes) own rest is ends

  -- what begins an operand is no type
  no_type : (own rest : List Token) → BeginsOperand limits own → maybe_type (own ++ rest) ≡ (None, own ++ rest)
  unfolding maybe_type
  no_type (Register name ∷ ts) rest begins = refl
  no_type (Number text ∷ ts) rest begins = refl
  no_type (Word word ∷ ts) rest begins = rw begins.no_type refl
  no_type (Mark mark ∷ ts) rest begins = refl
  no_type tokens rest begins = absurd begins

  maybe_type-of : (written : Option ℕ) (front back rest : List Token) → Maybe SpellsType written front → BeginsOperand limits back → maybe_type (front ++ (back ++ rest)) ≡ (written, back ++ rest)
  unfolding maybe_type
  maybe_type-of None front back rest is begins = rw is (no_type back rest begins)
  maybe_type-of (Some width) front back rest (written, type, is) begins = rw (is, type_in-of written width type) refl

  typed_at-of : (half : Half) (line : ℕ) (a : RawOperand) (own rest : List Token) → SpellsArgument limits half a.value own → EndsTerm rest → typed_at limits half line a.written (own ++ rest) ≡ Ok (a, rest)
  unfolding typed_at
  typed_at-of half line a own rest is ends = rw (argument_at-of half line a.value own rest is ends) refl

  untyped_at-of : (half : Half) (line : ℕ) (a : RawOperand) (own rest : List Token) → SpellsUntyped limits half a own → EndsTerm rest → typed_at limits half line None (own ++ rest) ≡ Ok (a, rest)
  untyped_at-of half line a own rest (none, is) ends = rw (← none) (typed_at-of half line a own rest is ends)

  operand_at-of : (half : Half) (line : ℕ) (a : RawOperand) (own rest : List Token) → SpellsOperand limits half a own → EndsTerm rest → operand_at limits half line (own ++ rest) ≡ Ok (a, rest)
  operand_at-of half line a own rest (front, back, type, argument, whole) ends =
      rw (whole, append_assoc front back rest, maybe_type-of a.written front back rest type (argument_begins limits half a.value back argument)) (typed_at-of half line a back rest argument ends)

  -- ---- what stands behind an operand

  pub line_ends_term : (rest : List Token) → EndsLine rest → EndsTerm rest
  line_ends_term [] ends = tt
  line_ends_term (Line next ∷ rest) ends = tt
  line_ends_term tokens ends = absurd ends

  pub comma_ends_term : (own rest : List Token) → Comma own → EndsTerm (own ++ rest)
  unfolding operator_in
  comma_ends_term own rest is = rw is refl

  comma_at-of : (line : ℕ) (own rest : List Token) → Comma own → mark_at (codes ",") line (own ++ rest) ≡ Ok rest
  comma_at-of line own rest is = rw is (mark_at-of limits (codes ",") line rest refl)

  no_to : (line : ℕ) (rest : List Token) → EndsLine rest → to_at line rest ≡ Ok (None, rest)
  unfolding to_at
  no_to line [] ends = refl
  no_to line (Line next ∷ rest) ends = refl
  no_to line tokens ends = absurd ends

  to_at-of : (line : ℕ) (to : Option ℕ) (own rest : List Token) → Maybe SpellsTo to own → EndsLine rest → to_at line (own ++ rest) ≡ Ok (to, rest)
  unfolding to_at
  to_at-of line None own rest is ends = rw is (no_to line rest ends)
  to_at-of line (Some width) own rest (front, back, to, type, whole) ends = rw (whole, to, type_at-of line width back rest type, line_end-of line rest ends) refl

  to_ends_term : (to : Option ℕ) (own rest : List Token) → Maybe SpellsTo to own → EndsLine rest → EndsTerm (own ++ rest)
  to_ends_term None own rest is ends = rw is (line_ends_term rest ends)
  to_ends_term (Some width) own rest (front, back, to, type, whole) ends = rw (whole, to) tt

  -- ---- flags

  pub flags_done : (taken : Flags) (line : ℕ) (before : Flags) (rest : List Token) → next_flag taken rest ≡ None → flags_at taken line before rest ≡ Ok (before, rest)
  unfolding flags_at
  flags_done taken line before [] none = refl
  flags_done taken line before (token ∷ rest) none = rw none refl

  flags_added : (taken : Flags) (line : ℕ) (written : List Flag) (before after : Flags) (rest : List Token) → AddsFlags taken before written after → next_flag taken rest ≡ None → flags_at taken line before (map (λ flag. Word (flag_keyword flag)) written ++ rest) ≡ Ok (after, rest)
  unfolding flags_at
  flags_added taken line [] before after rest adds none = rw adds (flags_done taken line after rest none)
  flags_added taken line (flag ∷ written) before after rest (is_taken, new, adds) none =
      rw (flag_in-of taken flag is_taken, new) (flags_added taken line written (with_flag before flag) after rest adds none)

  flags_at-of : (taken : Flags) (line : ℕ) (flags : Flags) (own rest : List Token) → SpellsFlags taken flags own → next_flag taken rest ≡ None → flags_at taken line no_flags (own ++ rest) ≡ Ok (flags, rest)
  flags_at-of taken line flags own rest (written, adds, is) none = rw is (flags_added taken line written no_flags flags rest adds none)

  -- what begins an operand is no flag
  no_flag : (taken : Flags) (own rest : List Token) → BeginsOperand limits own → next_flag taken (own ++ rest) ≡ None
  no_flag taken (Register name ∷ ts) rest begins = refl
  no_flag taken (Number text ∷ ts) rest begins = refl
  no_flag taken (Word word ∷ ts) rest begins = begins.no_flag taken
  no_flag taken (Mark mark ∷ ts) rest begins = refl
  no_flag taken tokens rest begins = absurd begins

  begins_no_flag : (taken : Flags) (written : Option ℕ) (front back rest : List Token) → Maybe SpellsType written front → BeginsOperand limits back → next_flag taken (front ++ (back ++ rest)) ≡ None
  begins_no_flag taken None front back rest is begins = rw is (no_flag taken back rest begins)
  begins_no_flag taken (Some width) front back rest (written, type, is) begins = rw is (type_is_no_flag limits taken written width type)

  -- ---- truth values

  truth_at-of : (line : ℕ) (op : Intrinsic) (truth : Bool) (own rest : List Token) → SpellsTruth op truth own → is_truth_next op rest ≡ false → truth_at op line (own ++ rest) ≡ Ok (truth, rest)
  unfolding truth_at
  truth_at-of line op false own rest is none = rw (is, none) refl
  truth_at-of line op true own rest (word, flag, is) none = rw (is, truth_flag-of limits op word flag, none) refl

  -- nor the flag of an intrinsic
  no_truth : (op : Intrinsic) (own rest : List Token) → BeginsOperand limits own → is_truth_next op (own ++ rest) ≡ false
  no_truth op (Register name ∷ ts) rest begins = refl
  no_truth op (Number text ∷ ts) rest begins = refl
  no_truth op (Word word ∷ ts) rest begins = begins.no_truth op
  no_truth op (Mark mark ∷ ts) rest begins = refl
  no_truth op tokens rest begins = absurd begins

  begins_no_truth : (op : Intrinsic) (written : Option ℕ) (front back rest : List Token) → Maybe SpellsType written front → BeginsOperand limits back → is_truth_next op (front ++ (back ++ rest)) ≡ false
  begins_no_truth op None front back rest is begins = rw is (no_truth op back rest begins)
  begins_no_truth op (Some width) front back rest (written, type, is) begins = rw is (type_is_no_truth_flag limits op written width type)

  operand_no_truth : (op : Intrinsic) (half : Half) (a : RawOperand) (own rest : List Token) → SpellsOperand limits half a own → is_truth_next op (own ++ rest) ≡ false
  operand_no_truth op half a own rest (front, back, type, argument, is) =
      rw (is, append_assoc front back rest) (begins_no_truth op a.written front back rest type (argument_begins limits half a.value back argument))

  -- ---- what a statement computes

  pair_at-of : (half : Half) (line : ℕ) (a b : RawOperand) (own rest : List Token) → SpellsPair limits half a b own → EndsLine rest → pair_at limits half line (own ++ rest) ≡ Ok ((a, b), rest)
  unfolding pair_at
  pair_at-of half line a b own rest (t1, o1, left, (t2, o2, comma, right, is2), is1) ends =
      let behind : EndsTerm (o1 ++ rest) = rw (is2, append_assoc t2 o2 rest) (comma_ends_term t2 (o2 ++ rest) comma) in
      rw (is1, append_assoc t1 o1 rest, operand_at-of half line a t1 (o1 ++ rest) left behind, is2, append_assoc t2 o2 rest, comma_at-of line t2 (o2 ++ rest) comma, untyped_at-of half line b o2 rest right (line_ends_term rest ends), line_end-of line rest ends) refl

  -- what begins an operand behind flags is no flag
  operand_begins : (taken : Flags) (half : Half) (a : RawOperand) (first others own rest : List Token) → SpellsOperand limits half a first → own ≡ first ++ others → next_flag taken (own ++ rest) ≡ None
  operand_begins taken half a first others own rest (front, back, type, argument, is) whole =
      rw (whole, append_assoc first others rest, is, append_assoc front back (others ++ rest)) (begins_no_flag taken a.written front back (others ++ rest) type (argument_begins limits half a.value back argument))

  pair_begins : (taken : Flags) (half : Half) (a b : RawOperand) (own rest : List Token) → SpellsPair limits half a b own → next_flag taken (own ++ rest) ≡ None
  pair_begins taken half a b own rest (t1, o1, left, others, is1) = operand_begins taken half a t1 o1 own rest left is1

  -- nor is a predicate
  predicate_begins : (taken : Flags) (pred : Pred) (first others own rest : List Token) → first ≡ Word (predicate_keyword pred) ∷ [] → own ≡ first ++ others → next_flag taken (own ++ rest) ≡ None
  predicate_begins taken pred first others own rest is whole = rw (whole, is) (predicate_is_no_flag taken pred)

  pred_at-of : (line : ℕ) (pred : Pred) (rest : List Token) → pred_at line (Word (predicate_keyword pred) ∷ rest) ≡ Ok (pred, rest)
  unfolding pred_at
  pred_at-of line pred rest = rw (pred_in-of pred) refl

  copy_at-of : (line : ℕ) (a : RawOperand) (own rest : List Token) → SpellsOperand limits Target a own → EndsLine rest → copy_at limits line (own ++ rest) ≡ Ok (Copy a, rest)
  unfolding copy_at
  copy_at-of line a own rest is ends = rw (operand_at-of Target line a own rest is (line_ends_term rest ends), line_end-of line rest ends) refl

  module _ (version : Version) where
    -- what begins an operand is no opcode, so a copy is read
    no_opcode : (line : ℕ) (own rest : List Token) → BeginsOperand limits own → op_at limits version Target line (own ++ rest) ≡ copy_at limits line (own ++ rest)
    unfolding op_at
    no_opcode line (Register name ∷ ts) rest begins = refl
    no_opcode line (Number text ∷ ts) rest begins = refl
    no_opcode line (Word word ∷ ts) rest begins = rw (begins.no_operation version) refl
    no_opcode line (Mark mark ∷ ts) rest begins = refl
    no_opcode line tokens rest begins = absurd begins

    copy_begins : (line : ℕ) (written : Option ℕ) (front back rest : List Token) → Maybe SpellsType written front → BeginsOperand limits back → op_at limits version Target line (front ++ (back ++ rest)) ≡ copy_at limits line (front ++ (back ++ rest))
    unfolding op_at
    copy_begins line None front back rest is begins = rw is (no_opcode line back rest begins)
    copy_begins line (Some width) front back rest (written, type, is) begins = rw (is, type_is_no_operation limits version written width type) refl

    -- behind an opcode of the version its operation is read
    opened : (operation : Operation) (half : Half) (line : ℕ) (rest : List Token) → is_known operation version ≡ true → op_at limits version half line (opcode_token operation ∷ rest) ≡ operation_at limits half line operation rest
    unfolding op_at
    opened (operations.Binary op) half line rest known = rw (operation_in-of limits version (operations.Binary op) known) refl
    opened operations.Compare half line rest known = rw (operation_in-of limits version operations.Compare known) refl
    opened (operations.Unary intrinsics.Abs) half line rest known = rw (operation_in-of limits version (operations.Unary intrinsics.Abs) known) refl
    opened (operations.Unary intrinsics.CtPop) half line rest known = rw (operation_in-of limits version (operations.Unary intrinsics.CtPop) known) refl
    opened (operations.Unary intrinsics.CtLz) half line rest known = rw (operation_in-of limits version (operations.Unary intrinsics.CtLz) known) refl
    opened (operations.Unary intrinsics.CtTz) half line rest known = rw (operation_in-of limits version (operations.Unary intrinsics.CtTz) known) refl
    opened operations.Select half line rest known = rw (operation_in-of limits version operations.Select known) refl
    opened (operations.Convert cast) half line rest known = rw (operation_in-of limits version (operations.Convert cast) known) refl
    opened operations.Freeze half line rest known = rw (operation_in-of limits version operations.Freeze known) refl

    pub op_at-of : (half : Half) (line : ℕ) (op : RawOp) (own rest : List Token) → SpellsOp limits version half op own → EndsLine rest → op_at limits version half line (own ++ rest) ≡ Ok (op, rest)
    unfolding binary_at compare_at unary_at select_at convert_at freeze_at
    op_at-of half line (Binary op flags a b) own rest (t1, o1, (known, token), (t2, o2, fs, pair, is2), is1) ends =
        rw (is1, token, opened (operations.Binary op) half line (o1 ++ rest) known, is2, append_assoc t2 o2 rest, flags_at-of (flags_of op) line flags t2 (o2 ++ rest) fs (pair_begins (flags_of op) half a b o2 rest pair), pair_at-of half line a b o2 rest pair ends) refl
    op_at-of half line (Compare pred samesign a b) own rest (t1, o1, (known, token), (t2, o2, fs, (t3, o3, pred_is, pair, is3), is2), is1) ends =
        rw (is1, token, opened operations.Compare half line (o1 ++ rest) known, is2, append_assoc t2 o2 rest, flags_at-of flags_of_icmp line (icmp_flags samesign) t2 (o2 ++ rest) fs (predicate_begins flags_of_icmp pred t3 o3 o2 rest pred_is is3), is3, pred_is, pred_at-of line pred (o3 ++ rest), pair_at-of half line a b o3 rest pair ends) refl
    op_at-of half line (Unary op truth a) own rest (t1, o1, (known, token), (t2, o2, flag, operand, is2), is1) ends =
        rw (is1, token, opened (operations.Unary op) half line (o1 ++ rest) known, is2, append_assoc t2 o2 rest, truth_at-of line op truth t2 (o2 ++ rest) flag (operand_no_truth op half a o2 rest operand), operand_at-of half line a o2 rest operand (line_ends_term rest ends), line_end-of line rest ends) refl
    op_at-of half line (Select condition a b) own rest (t1, o1, (known, token), (t2, o2, choice, (t3, o3, comma, (t4, o4, left, (t5, o5, comma2, right, is5), is4), is3), is2), is1) ends =
        let behind : EndsTerm (o2 ++ rest) = rw (is3, append_assoc t3 o3 rest) (comma_ends_term t3 (o3 ++ rest) comma) in
        let behind2 : EndsTerm (o4 ++ rest) = rw (is5, append_assoc t5 o5 rest) (comma_ends_term t5 (o5 ++ rest) comma2) in
        rw (
          is1,
          token,
          opened operations.Select half line (o1 ++ rest) known,
          is2,
          append_assoc t2 o2 rest,
          operand_at-of half line condition t2 (o2 ++ rest) choice behind,
          is3,
          append_assoc t3 o3 rest,
          comma_at-of line t3 (o3 ++ rest) comma,
          is4,
          append_assoc t4 o4 rest,
          operand_at-of half line a t4 (o4 ++ rest) left behind2,
          is5,
          append_assoc t5 o5 rest,
          comma_at-of line t5 (o5 ++ rest) comma2,
          operand_at-of half line b o5 rest right (line_ends_term rest ends),
          line_end-of line rest ends,
        ) refl
    op_at-of half line (Convert cast flags a to) own rest (t1, o1, (known, token), (t2, o2, fs, (t3, o3, operand, behind, is3), is2), is1) ends =
        rw (is1, token, opened (operations.Convert cast) half line (o1 ++ rest) known, is2, append_assoc t2 o2 rest, flags_at-of (flags_of_cast cast) line flags t2 (o2 ++ rest) fs (operand_begins (flags_of_cast cast) half a t3 o3 o2 rest operand is3), is3, append_assoc t3 o3 rest, operand_at-of half line a t3 (o3 ++ rest) operand (to_ends_term to o3 rest behind ends), to_at-of line to o3 rest behind ends) refl
    op_at-of half line (Freeze a) own rest (t1, o1, (known, token), operand, is1) ends =
        rw (is1, token, opened operations.Freeze half line (o1 ++ rest) known, operand_at-of half line a o1 rest operand (line_ends_term rest ends), line_end-of line rest ends) refl
    op_at-of Source line (Copy a) own rest is ends = absurd is
    op_at-of Target line (Copy a) own rest (front, back, type, argument, is) ends =
        rw (is, append_assoc front back rest) (copy_begins line a.written front back rest type (argument_begins limits Target a.value back argument))
        ∙ copy_at-of line a own rest (front, back, type, argument, is) ends
