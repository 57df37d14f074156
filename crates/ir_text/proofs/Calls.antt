-- Calls of intrinsics: their printed text is read as the call. A call ends its line, since what stood behind its `)` on
-- the line would be an item of it.
use Rattle.ir_text.proofs.Common.{◌≡◌, ℕ, ◌+◌, ◌<◌, ◌^◌, Bool, true, false, ◌&&◌, eqb, ne_eqb, decimal, List, [], ◌∷◌, ◌++◌, Option, None, Some, codes, refl, sym, ap, subst, append_assoc, arith, begins_name, begins_word, is_blank, is_digit, is_letter, is_name_byte, is_space, is_plain_name, is_word, feeds, Opcode, UMin, UMax, SMin, SMax, Unary, Abs, CtPop, CtLz, CtTz, Flags, no_flags, is_intrinsic, opcode_keyword, unary_keyword, TruthFits, has_truth, Section, InBody, place_behind, Placed, End, Word, Mark, RawOp, TypedOperand, Op, Operand, Intrinsic, StopsOn, SpellsCallee, SpellsClose, SpellsTruthOf, unmarked, SpellsType, SpellsOperand, SpellsOp, intrinsic_keyword, IsTypeWord, Part, Is, ◌⨾◌, LiteralClashes, TruthIsBit, result_width, truth_of, OpMeans, some_same, Identifies, TypesFit, IsWidth, Lexeme, placed_from, type_text, typed_text, truth_text, callee_text}
use Rattle.ops.specs.Number.{Number}
use Rattle.ir_tokens.specs.declared.raw.RawArguments.TheVariants as arguments
use Rattle.ir_tokens.specs.declared.raw.RawOp.TheVariants as ops
use Rattle.ir_tokens.specs.declared.raw.RawValue.TheVariants as values
use Rattle.ir_core.specs.declared.function.Function.{Function}
use Rattle.ir_core.specs.declared.instruction.Op.TheVariants as core
use Rattle.ir_instructions.specs.declared.intrinsic.Intrinsic.TheVariants as intrinsics
use Rattle.ir_instructions.specs.Intrinsics.{is_called}
use Rattle.ir_instructions.specs.Punctuation as marks
use Rattle.ir_text.proofs.NameForms.{plain}
use Rattle.ir_text.proofs.NumberForms.{decimal_digits, decimal_value-decimal, digits_names, plain_type}
use Rattle.ir_text.proofs.Operands.{MeansOperand, type_prints}
use Rattle.ir_text.proofs.Placing.{space_stops, comma_stops, open_paren_stops, close_paren_stops, itself_in_body}
use Rattle.ir_text.proofs.Prints.{Body, Callee, Prints, Reads, prints_as, prints_map, prints_nothing, prints_then, prints_next, behind_space, Opens, opens_with, opens_none}
use Rattle.ir_text.proofs.Streams.{Streams, streams_as, behind_gap, with_token}
use Rattle.ir_text.proofs.Tokens.{in_body, no_bracket, word_in_body, callee_in_body, bracket_behind_callee, blank, spaced, comma_space}

-- this is canonically written for an operation of this width
abbrev pub MeansOp : Function → ℕ → RawOp → Op → Type 0
MeansOp f width raw op = OpMeans (Identifies f) raw op × (width ≡ result_width raw) × TypesFit raw

-- ---- callees

abbrev callee_name : Intrinsic → ℕ → List ℕ
callee_name what width = codes "llvm." ++ intrinsic_keyword what ++ codes "." ++ type_text width

callee_is_name : (what : Intrinsic) (width : ℕ) → is_called what ≡ true → width < 2 ^ 64 → is_plain_name (callee_name what width) ≡ true
unfolding is_plain_name begins_name is_letter is_name_byte is_digit type_text
callee_is_name (intrinsics.Binary UMin) width called small = digits_names (decimal width) (decimal_digits width small)
callee_is_name (intrinsics.Binary UMax) width called small = digits_names (decimal width) (decimal_digits width small)
callee_is_name (intrinsics.Binary SMin) width called small = digits_names (decimal width) (decimal_digits width small)
callee_is_name (intrinsics.Binary SMax) width called small = digits_names (decimal width) (decimal_digits width small)
callee_is_name (intrinsics.Binary op) width called small = absurd cc
callee_is_name (intrinsics.Unary Abs) width called small = digits_names (decimal width) (decimal_digits width small)
callee_is_name (intrinsics.Unary CtPop) width called small = digits_names (decimal width) (decimal_digits width small)
callee_is_name (intrinsics.Unary CtLz) width called small = digits_names (decimal width) (decimal_digits width small)
callee_is_name (intrinsics.Unary CtTz) width called small = digits_names (decimal width) (decimal_digits width small)

callee_prints : (what : Intrinsic) (width : ℕ) → is_called what ≡ true → IsWidth width → Prints Body Callee false (SpellsCallee (what, width)) (64 ∷ callee_name what width)
unfolding type_text
callee_prints what width called ok =
    let small : width < 2 ^ 64 = let most = ok.1 in omega arith in
    let named = plain (callee_name what width) (callee_is_name what width called small) in
    let type : IsTypeWord (105 ∷ decimal width) width = (decimal width, refl, decimal_digits width small, decimal_value-decimal width small, ok.0, ok.1) in
    prints_map (SpellsCallee (what, width))
    (λ tokens rest is. (callee_name what width, callee_name what width, named.calls, (called, 105 ∷ decimal width, refl, (type, plain_type width ok.0 small)), is))
    (callee_in_body (callee_name what width) named.form)

callee_text_is : (what : Intrinsic) (width : ℕ) → callee_text (intrinsic_keyword what) width ≡ (codes "call " ++ type_text width) ++ (codes " " ++ (64 ∷ callee_name what width))
unfolding callee_text
callee_text_is what width = simp append_assoc

-- the word `call`, the type, the callee and the `(`
abbrev Begun : Intrinsic → ℕ → Part
Begun what width = ((Is (Word (codes "call")) ⨾ SpellsType width) ⨾ SpellsCallee (what, width)) ⨾ Is (Mark marks.open_paren)

call_begins : (what : Intrinsic) (width : ℕ) → is_called what ≡ true → IsWidth width → Prints Body Body true (Begun what width) (callee_text (intrinsic_keyword what) width ++ codes "(")
unfolding is_word begins_word begins_name is_letter is_name_byte
call_begins what width called ok =
    prints_as (ap (λ (t : List ℕ). t ++ codes "(") (callee_text_is what width))
    (prints_then
    (prints_then (prints_next (spaced tt (word_in_body (codes "call") refl)) (type_prints in_body width ok))
    (behind_space (codes " ") blank tt (callee_prints what width called ok)) (opens_with 32 (64 ∷ callee_name what width) space_stops))
    bracket_behind_callee (opens_with 40 [] open_paren_stops))

-- ---- the end of a call

-- a token on a later line is no item behind the call
stops_later : (line next last : ℕ) (lexemes : List Lexeme) → line < next → StopsOn line (placed_from next lexemes ++ (last, End) ∷ [])
stops_later line next last [] less = none (eqb last line)
  where
    none : (b : Bool) → (b && false) ≡ false
    none true = refl
    none false = refl
stops_later line next last (l ∷ lexemes) less = rw (ne_eqb (next + feeds l.gap) line (λ same. omega arith)) refl

stops_behind : {last : ℕ} {place : Section} {text : List ℕ} {tokens : List Placed} (line next : ℕ) → line < next → Streams last place next text tokens → StopsOn line tokens
stops_behind {last} line next less s = rw s.tokens_are (stops_later line next last s.lexemes less)

-- `)` and a line feed, with no item between
close_prints : Prints Body Body true SpellsClose (codes ")" ++ codes "\n")
unfolding is_space is_blank
close_prints = record {
  leads = λ place line (before, is). record {
    next_place = InBody None;
    next_line = line + 1;
    stands = (None, refl);
    streams = λ last rest tokens stop k.
        let behind : place_behind place (line, Mark 41) ≡ InBody None = rw is refl in
        let fed : Streams last (InBody None) line (codes "\n" ++ rest) tokens = behind_gap (codes "\n") refl k in
        let all = with_token {place = place} (Mark 41) refl (rw is (itself_in_body before line (codes ")") (no_bracket 41 [] refl)), refl) (subst (λ (p : Section). Streams last p line (codes "\n" ++ rest) tokens) (sym behind) fed) in
        ((line, Mark 41) ∷ tokens, streams_as (append_assoc (codes ")") (codes "\n") rest) all, (line, stops_behind line (line + 1) (omega arith) k, (tokens, refl, ([], [], refl, refl, tt))));
  };
}

opens_close : Opens true (codes ")" ++ codes "\n")
opens_close = opens_with 41 (codes "\n") close_paren_stops

-- ---- calls with two operands

-- an operand with its type before it
abbrev pub Typed : Function → ℕ → Operand → Part
Typed f width x = SpellsType width ⨾ Reads (SpellsOperand width) (MeansOperand f) x

pub call_of_two : (f : Function) (width : ℕ) (op : Opcode) (flags : Flags) (x y : Operand) → is_intrinsic op ≡ true → flags ≡ no_flags → IsWidth width
    → Prints Body Body false (Typed f width x) (typed_text f width x) → Prints Body Body false (Typed f width y) (typed_text f width y)
    → Prints Body Body true (Reads SpellsOp (MeansOp f width) (core.Binary op flags x y))
    (callee_text (opcode_keyword op) width ++ codes "(" ++ typed_text f width x ++ codes ", " ++ typed_text f width y ++ codes ")" ++ codes "\n")
call_of_two f width op flags x y own none ok left right =
    prints_as (append_assoc (callee_text (opcode_keyword op) width ++ codes "(" ++ typed_text f width x ++ codes ", " ++ typed_text f width y) (codes ")") (codes "\n"))
    (prints_map (Reads SpellsOp (MeansOp f width) (core.Binary op flags x y))
    (λ tokens rest (m1, (m2, (m3, (m4, (m5, (m6, (m7, (line, word), type), callee), opens), (m8, type_x, (a, spell_x, mean_x))), comma), (m9, type_y, (c, spell_y, mean_y))), close). (
      ops.Call (record { line = line; width = width; named = width; arguments = arguments.Binary op (record { width = width; operand = a }) (record { width = width; operand = c }) }),
      (tokens, unmarked refl, (m7, word, (m7, ([], refl), (m6, type, (m5, callee, (m4, opens, (m1, (m3, (m8, type_x, (m8, ([], refl), spell_x)), (m2, comma, (m9, type_y, (m9, ([], refl), spell_y)))), close))))))),
      ((refl, none, mean_x, mean_y), refl, (refl, (refl, refl))),
    ))
    (prints_then
    (prints_next (prints_then (prints_next (call_begins (intrinsics.Binary op) width own ok) left) comma_space (opens_with 44 (codes " ") comma_stops)) right)
    close_prints opens_close))

-- ---- truth values

-- this is written for a truth value
abbrev MeansTruth : Option TypedOperand → Bool → Type 0
MeansTruth written truth = (truth ≡ truth_of written) × TruthIsBit written

one_bit : IsTypeWord (codes "i1") 1
unfolding is_digit
one_bit = (codes "1", refl, refl, refl, omega arith, omega arith)

no_clash_true : ¬ LiteralClashes 1 values.True
no_clash_true (n, is, other) = other (sym (ap (λ (m : Number). m.width) (some_same is)))

no_clash_false : ¬ LiteralClashes 1 values.False
no_clash_false (n, is, other) = other (sym (ap (λ (m : Number). m.width) (some_same is)))

true_text : (op : Unary) → has_truth op ≡ true → truth_text op true ≡ codes ", i1 true"
unfolding truth_text
true_text op own = rw own refl

false_text : (op : Unary) → has_truth op ≡ true → truth_text op false ≡ codes ", i1 false"
unfolding truth_text
false_text op own = rw own refl

given : (op : Unary) (truth : Bool) → has_truth op ≡ true → Prints Body Body false (Reads (SpellsTruthOf op) MeansTruth truth) (truth_text op truth)
unfolding is_word begins_word begins_name is_letter is_name_byte is_digit
given op true own =
    prints_as (true_text op own)
    (prints_map (Reads (SpellsTruthOf op) MeansTruth true)
    (λ tokens rest (m1, comma, (m2, type, (line, is))).
    (Some (record { width = 1; operand = record { line = line; value = values.True } }), (own, (m1, comma, (tt, (m2, (codes "i1", one_bit, type), (m2, ([], refl), (Word (codes "true"), refl, is)))))), (refl, (refl, no_clash_true))))
    (prints_next comma_space (prints_next (spaced tt (word_in_body (codes "i1") refl)) (word_in_body (codes "true") refl))))
given op false own =
    prints_as (false_text op own)
    (prints_map (Reads (SpellsTruthOf op) MeansTruth false)
    (λ tokens rest (m1, comma, (m2, type, (line, is))).
    (Some (record { width = 1; operand = record { line = line; value = values.False } }), (own, (m1, comma, (tt, (m2, (codes "i1", one_bit, type), (m2, ([], refl), (Word (codes "false"), refl, is)))))), (refl, (refl, no_clash_false))))
    (prints_next comma_space (prints_next (spaced tt (word_in_body (codes "i1") refl)) (word_in_body (codes "false") refl))))

no_truth : (truth : Bool) → (truth && false) ≡ truth → truth ≡ false
no_truth true fits = absurd cc
no_truth false fits = refl

truth_prints : (op : Unary) (truth : Bool) → TruthFits op truth → Prints Body Body false (Reads (SpellsTruthOf op) MeansTruth truth) (truth_text op truth)
unfolding truth_text
truth_prints Abs truth fits = given Abs truth refl
truth_prints CtLz truth fits = given CtLz truth refl
truth_prints CtTz truth fits = given CtTz truth refl
truth_prints CtPop truth fits = prints_map (Reads (SpellsTruthOf CtPop) MeansTruth truth) (λ tokens rest same. (None, (refl, same), (no_truth truth fits, tt))) (prints_nothing Body false)

truth_opens : (op : Unary) (truth : Bool) → Opens false (truth_text op truth)
unfolding truth_text
truth_opens CtPop truth = opens_none
truth_opens Abs truth = opens_with 44 _ comma_stops
truth_opens CtLz truth = opens_with 44 _ comma_stops
truth_opens CtTz truth = opens_with 44 _ comma_stops

-- ---- calls with one operand

pub call_of_one : (f : Function) (width : ℕ) (op : Unary) (truth : Bool) (x : Operand) → TruthFits op truth → IsWidth width
    → Prints Body Body false (Typed f width x) (typed_text f width x)
    → Prints Body Body true (Reads SpellsOp (MeansOp f width) (core.Unary op truth x))
    (callee_text (unary_keyword op) width ++ codes "(" ++ typed_text f width x ++ truth_text op truth ++ codes ")" ++ codes "\n")
call_of_one f width op truth x fits ok operand =
    prints_as (append_assoc (callee_text (unary_keyword op) width ++ codes "(" ++ typed_text f width x ++ truth_text op truth) (codes ")") (codes "\n"))
    (prints_map (Reads SpellsOp (MeansOp f width) (core.Unary op truth x))
    (λ tokens rest (m1, (m2, (m3, (m4, (m5, (m6, (line, word), type), callee), opens), (m7, type_x, (a, spell, mean))), (t, spell_t, (is_t, bit))), close). (
      ops.Call (record { line = line; width = width; named = width; arguments = arguments.Unary op (record { width = width; operand = a }) t }),
      (tokens, unmarked refl, (m6, word, (m6, ([], refl), (m5, type, (m4, callee, (m3, opens, (m1, (m2, (m7, type_x, (m7, ([], refl), spell)), spell_t), close))))))),
      ((refl, is_t, mean), refl, (refl, (refl, bit))),
    ))
    (prints_then (prints_then (prints_next (call_begins (intrinsics.Unary op) width refl ok) operand) (truth_prints op truth fits) (truth_opens op truth)) close_prints opens_close))
