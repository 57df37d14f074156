-- Viable prefixes of single tokens.
use Rattle.ir_viable_prefixes.proofs.Common.{◌≡◌, ℕ, Bool, true, false, eqb, eq-eqb, List, [], ◌∷◌, Option, Some, None, Ok, Err, refl, ◌≤◌, arith, sym, subst, inl, inr, codes, bytes_eq, Pred, Eq, Trunc, ZExt, SExt, Add, Sub, Mul, UDiv, SDiv, URem, SRem, Shl, LShr, AShr, Or, Xor, UMin, UMax, SMin, SMax, constant_of, Token, Placed, Word, Number, Register, Function, Group, Metadata, Mark, RawValue, Syntax, LeftOut, ConstRange, Flag, Operation, TypeWord, keyword_at, register_at, case_value_at, pred_at, Reader, fault, unexpected, Fault, IrFaultKind, IsValueToken, begins_type, is_word, IsTypeWord, ending_word, operation_word, type_in, operation_in, truth_in, value_in, ending_in, predicate_keyword, pred_in, flag_keyword, operation_in-is, type_in-of, word_is, Nuw, Nsw, Exact, NNeg, Disjoint, SameSign, IsNoun}
use Rattle.ops.specs.Number.{Number as Numeral}
use Rattle.ops.specs.declared.comparison.Pred.TheVariants as preds
use Rattle.ops.specs.declared.opcode.Opcode.TheVariants.{And}
use Rattle.scan.specs.Bytes as bytes
use Rattle.ir_tokens.specs.declared.raw.RawValue.TheVariants as values
use Rattle.ir_tokens.specs.declared.fault.IrFaultKind.TheVariants as misfits
use Rattle.ir_instructions.specs.declared.place.Expected.TheVariants as places
use Rattle.ir_instructions.specs.declared.word.Ending.{Ending}
use Rattle.ir_instructions.specs.declared.word.Ending.TheVariants as endings
use Rattle.ops.specs.declared.keywords.flag.Flag.TheVariants as flags
use Rattle.ir_instructions.specs.declared.word.Operation.TheVariants as operations
use Rattle.ir_instructions.specs.declared.word.TypeWord.TheVariants as types
use Rattle.ir_instructions.specs.InstructionReaders.{mark_at, type_at, operand_at, metadata_at}
use Rattle.ir_instructions.specs.Places.{misfit}
use Rattle.ir_viable_prefixes.specs.Misfits as nouns
use Rattle.ir_viable_prefixes.proofs.Outcomes.{Again, Follow, Anything, Fit, RefusesAt, RefusesEach, Bad, a_truth, Reasons, ReasonsIf, Takes, takes, refuses, fits_alone, Good, GoodIf, one_token, TakesNoFlag}
use Rattle.ir_viable_prefixes.proofs.Reasons.{a_type, an_end, Widths, widths, no_other_widths, Like, like_word, like_type, like_function, like_width, like_number, word_reason, fixed_reason, choice_reason, type_reason, instruction_reason}

-- ---- nouns

-- the word is neither `label` nor `to`, as no noun is
abbrev IsFree : List ℕ → Type 0
IsFree u = (bytes_eq u (codes "label") ≡ false) × (bytes_eq u (codes "to") ≡ false)

opcode_is_free : (o : Operation) → IsFree (operation_word o)
opcode_is_free (operations.Binary Add) = (refl, refl)
opcode_is_free (operations.Binary Sub) = (refl, refl)
opcode_is_free (operations.Binary Mul) = (refl, refl)
opcode_is_free (operations.Binary UDiv) = (refl, refl)
opcode_is_free (operations.Binary SDiv) = (refl, refl)
opcode_is_free (operations.Binary URem) = (refl, refl)
opcode_is_free (operations.Binary SRem) = (refl, refl)
opcode_is_free (operations.Binary Shl) = (refl, refl)
opcode_is_free (operations.Binary LShr) = (refl, refl)
opcode_is_free (operations.Binary AShr) = (refl, refl)
opcode_is_free (operations.Binary And) = (refl, refl)
opcode_is_free (operations.Binary Or) = (refl, refl)
opcode_is_free (operations.Binary Xor) = (refl, refl)
opcode_is_free (operations.Binary UMin) = (refl, refl)
opcode_is_free (operations.Binary UMax) = (refl, refl)
opcode_is_free (operations.Binary SMin) = (refl, refl)
opcode_is_free (operations.Binary SMax) = (refl, refl)
opcode_is_free operations.Compare = (refl, refl)
opcode_is_free operations.Select = (refl, refl)
opcode_is_free (operations.Convert Trunc) = (refl, refl)
opcode_is_free (operations.Convert ZExt) = (refl, refl)
opcode_is_free (operations.Convert SExt) = (refl, refl)
opcode_is_free operations.Freeze = (refl, refl)
opcode_is_free operations.Phi = (refl, refl)
opcode_is_free operations.Call = (refl, refl)
opcode_is_free operations.Tail = (refl, refl)
opcode_is_free operations.NoTail = (refl, refl)

pred_is_free : (p : Pred) → IsFree (predicate_keyword p)
pred_is_free preds.Eq = (refl, refl)
pred_is_free preds.Ne = (refl, refl)
pred_is_free preds.Ugt = (refl, refl)
pred_is_free preds.Uge = (refl, refl)
pred_is_free preds.Ult = (refl, refl)
pred_is_free preds.Ule = (refl, refl)
pred_is_free preds.Sgt = (refl, refl)
pred_is_free preds.Sge = (refl, refl)
pred_is_free preds.Slt = (refl, refl)
pred_is_free preds.Sle = (refl, refl)

flag_is_free : (f : Flag) → IsFree (flag_keyword f)
flag_is_free flags.Nuw = (refl, refl)
flag_is_free flags.Nsw = (refl, refl)
flag_is_free flags.Exact = (refl, refl)
flag_is_free flags.NNeg = (refl, refl)
flag_is_free flags.Disjoint = (refl, refl)
flag_is_free flags.SameSign = (refl, refl)

ending_is_free : (e : Ending) → IsFree (ending_word e)
ending_is_free endings.Return = (refl, refl)
ending_is_free endings.Unreachable = (refl, refl)
ending_is_free endings.Branch = (refl, refl)
ending_is_free endings.Switch = (refl, refl)

same_text : (a b : List ℕ) → Word a ≡ Word b → b ≡ a
same_text a b same = cc

value_is_free : (u : List ℕ) (width : ℕ) (v : RawValue) → IsValueToken width v (Word u) → IsFree u
value_is_free u width (values.Register name) h = let no_word = h.2 in absurd cc
value_is_free u width (values.Number number) h = let no_word = h.2 in absurd cc
value_is_free u width values.True h = subst IsFree (same_text u (codes "true") h) (refl, refl)
value_is_free u width values.False h = subst IsFree (same_text u (codes "false") h) (refl, refl)
value_is_free u width values.Undef h = subst IsFree (same_text u (codes "undef") h) (refl, refl)
value_is_free u width values.Poison h = subst IsFree (same_text u (codes "poison") h) (refl, refl)

noun_is_free : (u : List ℕ) → IsNoun u → IsFree u
noun_is_free u (nouns.type width is) = rw is.1 (refl, refl)
noun_is_free u (nouns.opcode o is) = subst IsFree (sym is) (opcode_is_free o)
noun_is_free u (nouns.predicate p is) = subst IsFree (sym is) (pred_is_free p)
noun_is_free u (nouns.flag f is) = subst IsFree (sym is) (flag_is_free f)
noun_is_free u (nouns.value width v is) = value_is_free u width v is
noun_is_free u (nouns.terminator e is) = subst IsFree (sym is) (ending_is_free e)

pub no_label : (u : List ℕ) → IsNoun u → bytes_eq u (codes "label") ≡ false
no_label u noun = (noun_is_free u noun).0

pub no_to : (u : List ℕ) → IsNoun u → bytes_eq u (codes "to") ≡ false
no_to u noun = (noun_is_free u noun).1

-- ---- types are no other nouns

type_is_no_value : (u : List ℕ) (width : ℕ) → IsTypeWord u width → value_in u ≡ None
unfolding value_in truth_in
type_is_no_value u width is = rw is.1 refl

pub type_is_no_truth : (u : List ℕ) (width : ℕ) → IsTypeWord u width → truth_in u ≡ None
unfolding truth_in
type_is_no_truth u width is = rw is.1 refl

type_is_no_pred : (u : List ℕ) (width : ℕ) → IsTypeWord u width → pred_in u ≡ None
unfolding pred_in
type_is_no_pred u width is = rw is.1 refl

pub type_is_no_ending : (u : List ℕ) (width : ℕ) → IsTypeWord u width → ending_in u ≡ None
unfolding ending_in
type_is_no_ending u width is = rw is.1 refl

opcode_is_no_type : (o : Operation) (width : ℕ) → type_in (operation_word o) ≡ types.Integer width → ⊥
unfolding type_in bytes.is_digit
opcode_is_no_type (operations.Binary Add) width is = absurd cc
opcode_is_no_type (operations.Binary Sub) width is = absurd cc
opcode_is_no_type (operations.Binary Mul) width is = absurd cc
opcode_is_no_type (operations.Binary UDiv) width is = absurd cc
opcode_is_no_type (operations.Binary SDiv) width is = absurd cc
opcode_is_no_type (operations.Binary URem) width is = absurd cc
opcode_is_no_type (operations.Binary SRem) width is = absurd cc
opcode_is_no_type (operations.Binary Shl) width is = absurd cc
opcode_is_no_type (operations.Binary LShr) width is = absurd cc
opcode_is_no_type (operations.Binary AShr) width is = absurd cc
opcode_is_no_type (operations.Binary And) width is = absurd cc
opcode_is_no_type (operations.Binary Or) width is = absurd cc
opcode_is_no_type (operations.Binary Xor) width is = absurd cc
opcode_is_no_type (operations.Binary UMin) width is = absurd cc
opcode_is_no_type (operations.Binary UMax) width is = absurd cc
opcode_is_no_type (operations.Binary SMin) width is = absurd cc
opcode_is_no_type (operations.Binary SMax) width is = absurd cc
opcode_is_no_type operations.Compare width is = absurd cc
opcode_is_no_type operations.Select width is = absurd cc
opcode_is_no_type (operations.Convert Trunc) width is = absurd cc
opcode_is_no_type (operations.Convert ZExt) width is = absurd cc
opcode_is_no_type (operations.Convert SExt) width is = absurd cc
opcode_is_no_type operations.Freeze width is = absurd cc
opcode_is_no_type operations.Phi width is = absurd cc
opcode_is_no_type operations.Call width is = absurd cc
opcode_is_no_type operations.Tail width is = absurd cc
opcode_is_no_type operations.NoTail width is = absurd cc

type_is_no_opcode : (u : List ℕ) (width : ℕ) → IsTypeWord u width → operation_in u ≡ None
type_is_no_opcode u width is = by (operation_in u) refl
  where
    by : (o : Option Operation) → operation_in u ≡ o → operation_in u ≡ None
    by None h = h
    by (Some o) h = absurd (opcode_is_no_type o width (subst (λ (w : List ℕ). type_in w ≡ types.Integer width) (operation_in-is u o h) (type_in-of u width is)))

-- ---- tokens of one sort that a parser of one token refuses

abbrev Refusing : {A : Type 0} → Reader A → Token → Type 0
Refusing R u = (line : ℕ) (more : List Placed) → (e : Fault IrFaultKind) × (R ((line, u) ∷ more) ≡ Err e)

-- a parser that refuses each word, each function and each number
pub all_bad : {A : Type 0} (R : Reader A) → ((w : List ℕ) → Refusing R (Word w)) → ((f : List ℕ) → Refusing R (Function f)) → ((n : List ℕ) → Refusing R (Number n)) → {t u : Token} → Like (Unit {0}) t u → Bad (Unit {0}) R [] t u
all_bad R words functions numbers (like_word v w other noun) = (words other 0, λ none. like_word v w other noun)
all_bad R words functions numbers (like_type m other width begins is) = (words other 0, λ none. like_type m other width begins is)
all_bad R words functions numbers (like_function written other) = (functions other 0, λ none. like_function written other)
all_bad R words functions numbers (like_width w other width out is) = (words other 0, λ none. like_width w other width out is)
all_bad R words functions numbers (like_number digits other) = (numbers other 0, λ none. like_number digits other)

-- a parser that refuses each noun, each function and each number
nouns_bad : {A : Type 0} (R : Reader A) → ((w : List ℕ) → IsNoun w → Refusing R (Word w)) → ((f : List ℕ) → Refusing R (Function f)) → ((n : List ℕ) → Refusing R (Number n)) → {t u : Token} → Like (Unit {0}) t u → Bad (Unit {0}) R [] t u
nouns_bad R words functions numbers (like_word v w other noun) = (words other noun 0, λ none. like_word v w other noun)
nouns_bad R words functions numbers (like_type m other width begins is) = (words other (nouns.type width is) 0, λ none. like_type m other width begins is)
nouns_bad R words functions numbers (like_function written other) = (functions other 0, λ none. like_function written other)
nouns_bad R words functions numbers (like_width w other width out is) = (words other (nouns.type width is) 0, λ none. like_width w other width out is)
nouns_bad R words functions numbers (like_number digits other) = (numbers other 0, λ none. like_number digits other)

-- in place of a token that is neither a word nor begins a type: it refuses each function and each number
function_bad : {A : Type 0} {V : Type 0} (R : Reader A) {t : Token} → is_word t ≡ false → begins_type t ≡ false → ((f : List ℕ) → Refusing R (Function f)) → ((n : List ℕ) → Refusing R (Number n)) → {u : Token} → Like (Unit {0}) t u → Bad V R [] t u
function_bad R none no_type functions numbers (like_word v w other noun) = absurd cc
function_bad R none no_type functions numbers (like_type m other width begins is) = absurd cc
function_bad R none no_type functions numbers (like_function written other) = (functions other 0, λ empty. like_function written other)
function_bad R none no_type functions numbers (like_width w other width out is) = absurd cc
function_bad R none no_type functions numbers (like_number digits other) = (numbers other 0, λ empty. like_number digits other)

-- in place of a token that is no word: it refuses each type and each function, and in place of a number each number
pub other_bad : {A : Type 0} {V : Type 0} (R : Reader A) {t : Token} → is_word t ≡ false → ((w : List ℕ) (width : ℕ) → IsTypeWord w width → Refusing R (Word w)) → ((f : List ℕ) → Refusing R (Function f))
    → ((digits other : List ℕ) → t ≡ Number digits → Refusing R (Number other)) → {u : Token} → Like (Unit {0}) t u → Bad V R [] t u
other_bad R none words functions numbers (like_word v w other noun) = absurd cc
other_bad R none words functions numbers (like_type m other width begins is) = (words other width is 0, λ empty. like_type m other width begins is)
other_bad R none words functions numbers (like_function written other) = (functions other 0, λ empty. like_function written other)
other_bad R none words functions numbers (like_width w other width out is) = absurd cc
other_bad R none words functions numbers (like_number digits other) = (numbers digits other refl 0, λ empty. like_number digits other)

-- in place of a word that would be a type but for its width: it refuses each type
pub types_bad : {A : Type 0} {V : Type 0} (R : Reader A) → ((w : List ℕ) (width : ℕ) → IsTypeWord w width → Refusing R (Word w)) → {t u : Token} → Widths t u → Bad V R [] t u
types_bad R words (widths w other width out is) = (words other width is 0, λ empty. like_width w other width out is)

abbrev pub is_number : Token → Bool
is_number (Number digits) = true
is_number t = false

pub no_number : (t : Token) (digits : List ℕ) → is_number t ≡ false → t ≡ Number digits → ⊥
no_number t digits none is = let number : is_number t ≡ true = rw is refl in cc

-- ---- what the parsers refuse

mark_bad : (wanted : ℕ) {t u : Token} → Like (Unit {0}) t u → Bad (Unit {0}) (mark_at wanted) [] t u
unfolding mark_at unexpected
mark_bad wanted like = all_bad (mark_at wanted) (λ w line more. (fault line (misfit places.Fixed (Word w)), refl)) (λ f line more. (fault line (misfit places.Fixed (Function f)), refl)) (λ n line more. (fault line (misfit places.Fixed (Number n)), refl)) like

keyword_bad : (wanted : List ℕ) → ((u : List ℕ) → IsNoun u → bytes_eq u wanted ≡ false) → {t u : Token} → Like (Unit {0}) t u → Bad (Unit {0}) (keyword_at wanted) [] t u
unfolding keyword_at unexpected
keyword_bad wanted free like = nouns_bad (keyword_at wanted) (λ w noun line more. (fault line Syntax, rw (free w noun) refl)) (λ f line more. (fault line (misfit places.Fixed (Function f)), refl)) (λ n line more. (fault line (misfit places.Fixed (Number n)), refl)) like

register_bad : {t u : Token} → Like (Unit {0}) t u → Bad (Unit {0}) register_at [] t u
unfolding register_at unexpected
register_bad like = all_bad register_at (λ w line more. (fault line (misfit places.Fixed (Word w)), refl)) (λ f line more. (fault line (misfit places.Fixed (Function f)), refl)) (λ n line more. (fault line (misfit places.Fixed (Number n)), refl)) like

metadata_bad : (test : List ℕ → Bool) {t u : Token} → Like (Unit {0}) t u → Bad (Unit {0}) (metadata_at test) [] t u
unfolding metadata_at unexpected
metadata_bad test like = all_bad (metadata_at test) (λ w line more. (fault line (misfit places.Fixed (Word w)), refl)) (λ f line more. (fault line (misfit places.Fixed (Function f)), refl)) (λ n line more. (fault line (misfit places.Fixed (Number n)), refl)) like

type_bad : {V : Type 0} {t u : Token} → is_word t ≡ false → begins_type t ≡ false → Like (Unit {0}) t u → Bad V type_at [] t u
unfolding type_at unexpected
type_bad none no_type like = function_bad type_at none no_type (λ f line more. (fault line (misfit places.Type (Function f)), refl)) (λ n line more. (fault line (misfit places.Type (Number n)), refl)) like

pub operand_no_type : (width : ℕ) (w : List ℕ) (n : ℕ) → IsTypeWord w n → Refusing (operand_at width) (Word w)
unfolding operand_at
operand_no_type width w n is line more = (fault line (LeftOut w), rw (type_is_no_value w n is) refl)

operand_bad : (width : ℕ) {t u : Token} → is_word t ≡ false → is_number t ≡ false → Like (Unit {0}) t u → Bad (Unit {0}) (operand_at width) [] t u
unfolding operand_at unexpected
operand_bad width {t} none other like =
    other_bad (operand_at width) none (operand_no_type width) (λ f line more. (fault line (misfit places.Choice (Function f)), refl)) (λ digits n is. absurd (no_number t digits other is)) like

case_value_no_type : (width : ℕ) (w : List ℕ) (n : ℕ) → IsTypeWord w n → Refusing (case_value_at width) (Word w)
unfolding case_value_at
case_value_no_type width w n is line more = (fault line (LeftOut w), rw (type_is_no_truth w n is) refl)

case_value_bad : (width : ℕ) {t u : Token} → is_word t ≡ false → is_number t ≡ false → Like (Unit {0}) t u → Bad (Unit {0}) (case_value_at width) [] t u
unfolding case_value_at unexpected
case_value_bad width {t} none other like =
    other_bad (case_value_at width) none (case_value_no_type width) (λ f line more. (fault line (misfit places.Choice (Function f)), refl)) (λ digits n is. absurd (no_number t digits other is)) like

pred_no_type : (w : List ℕ) (n : ℕ) → IsTypeWord w n → Refusing pred_at (Word w)
unfolding pred_at
pred_no_type w n is line more = (fault line (LeftOut w), rw (type_is_no_pred w n is) refl)

pred_bad : {V : Type 0} {t u : Token} → is_word t ≡ false → Like (Unit {0}) t u → Bad V pred_at [] t u
unfolding pred_at unexpected
pred_bad none like = other_bad pred_at none pred_no_type (λ f line more. (fault line (misfit places.Choice (Function f)), refl)) (λ digits n is line more. (fault line (misfit places.Choice (Number n)), refl)) like

-- ---- marks, keywords and registers

mark_refuses : (wanted : ℕ) (ending : Ending) → RefusesAt (mark_at wanted) [] (Word (ending_word ending))
unfolding mark_at unexpected
mark_refuses wanted ending more = (fault 0 (misfit places.Fixed (Word (ending_word ending))), refl)

mark_takes : (E F : Follow) (wanted line : ℕ) (t : Token) → Takes (mark_at wanted) (Reasons E (mark_at wanted) F) line t
unfolding mark_at unexpected
mark_takes E F wanted line (Mark m) = by (eqb m wanted) refl
  where
    by : (b : Bool) → eqb m wanted ≡ b → Takes (mark_at wanted) (Reasons E (mark_at wanted) F) line (Mark m)
    by true h = takes tt refl (λ more. rw h refl)
    by false h = refuses (fault line Syntax) (inl (refl, (λ u like. inl (mark_bad wanted like), λ begins. inr (mark_refuses wanted), λ bad. cc))) (λ more. rw h refl)
mark_takes E F wanted line t = refuses (fault line (misfit places.Fixed t)) (inl (refl, (fixed_reason (Fit E (mark_at wanted) F []) (Bad (Unit {0}) (mark_at wanted) []) (Again E (mark_at wanted) F []) (RefusesAt (mark_at wanted) []) t (λ u like. mark_bad wanted like, λ begins. inr (mark_refuses wanted))))) (λ more. refl)

mark_flags : (wanted : ℕ) → TakesNoFlag (mark_at wanted)
unfolding mark_at unexpected
mark_flags wanted = ((unexpected places.Fixed [], refl), λ flag line more. (fault line (misfit places.Fixed (Word (flag_keyword flag))), refl))

pub mark-good : {E : Follow} (wanted : ℕ) → E (Mark wanted) → Good E (mark_at wanted) Anything
unfolding mark_at
mark-good {E} wanted e = one_token (Mark wanted, e, tt, λ more. rw (eq-eqb wanted wanted refl) refl) (mark_flags wanted) (mark_takes E Anything wanted)

keyword_refuses : (wanted : List ℕ) → ((u : List ℕ) → IsNoun u → bytes_eq u wanted ≡ false) → (ending : Ending) → RefusesAt (keyword_at wanted) [] (Word (ending_word ending))
unfolding keyword_at unexpected
keyword_refuses wanted free ending more = (fault 0 Syntax, rw (free (ending_word ending) (nouns.terminator ending refl)) refl)

keyword_takes : (E F : Follow) (wanted : List ℕ) → ((u : List ℕ) → IsNoun u → bytes_eq u wanted ≡ false) → (line : ℕ) (t : Token) → Takes (keyword_at wanted) (Reasons E (keyword_at wanted) F) line t
unfolding keyword_at unexpected
keyword_takes E F wanted free line (Word w) = by (bytes_eq w wanted) refl
  where
    by : (b : Bool) → bytes_eq w wanted ≡ b → Takes (keyword_at wanted) (Reasons E (keyword_at wanted) F) line (Word w)
    by true h = takes tt refl (λ more. rw h refl)
    by false h = refuses (fault line Syntax) (inl (refl, (λ u like. inl (keyword_bad wanted free like), λ begins. absurd cc, λ bad. cc))) (λ more. rw h refl)
keyword_takes E F wanted free line t = refuses (fault line (misfit places.Fixed t)) (inl (refl, (fixed_reason (Fit E (keyword_at wanted) F []) (Bad (Unit {0}) (keyword_at wanted) []) (Again E (keyword_at wanted) F []) (RefusesAt (keyword_at wanted) []) t (λ u like. keyword_bad wanted free like, λ begins. inr (keyword_refuses wanted free))))) (λ more. refl)

pub keyword_flags : (wanted : List ℕ) → ((u : List ℕ) → IsNoun u → bytes_eq u wanted ≡ false) → TakesNoFlag (keyword_at wanted)
unfolding keyword_at
keyword_flags wanted free = ((unexpected places.Fixed [], refl), λ flag line more. (fault line Syntax, rw (free (flag_keyword flag) (nouns.flag flag refl)) refl))

pub keyword-good : {E : Follow} (wanted : List ℕ) → ((u : List ℕ) → IsNoun u → bytes_eq u wanted ≡ false) → E (Word wanted) → Good E (keyword_at wanted) Anything
unfolding keyword_at
keyword-good {E} wanted free e = one_token (Word wanted, e, tt, λ more. rw (word_is wanted) refl) (keyword_flags wanted free) (keyword_takes E Anything wanted free)

-- a name of a register
abbrev pub a_register : Token
a_register = Register (codes "a")

register_takes : (E F : Follow) (line : ℕ) (t : Token) → Takes register_at (Reasons E register_at F) line t
unfolding register_at unexpected
register_takes E F line (Register written) = takes _ refl (λ more. refl)
register_takes E F line t = refuses (fault line (misfit places.Fixed t)) (inl (refl, (fixed_reason (Fit E register_at F []) (Bad (Unit {0}) register_at []) (Again E register_at F []) (RefusesAt register_at []) t (λ u like. register_bad like, λ begins. inr (λ ending more. (fault 0 (misfit places.Fixed (Word (ending_word ending))), refl)))))) (λ more. refl)

register_flags : TakesNoFlag register_at
unfolding register_at unexpected
register_flags = ((unexpected places.Fixed [], refl), λ flag line more. (fault line (misfit places.Fixed (Word (flag_keyword flag))), refl))

pub register-good : {E : Follow} → E a_register → Good E register_at Anything
unfolding register_at
register-good {E} e = one_token (a_register, e, _, λ more. refl) register_flags (register_takes E Anything)

-- ---- types and values

-- `i8` is a type
pub i8 : IsTypeWord (codes "i8") 8
unfolding bytes.is_digit
i8 = (codes "8", refl, refl, refl, one_le, eight_le)
  where
    one_le : 1 ≤ 8
    one_le = omega arith

    eight_le : 8 ≤ 64
    eight_le = omega arith

type_refuses : (ending : Ending) → RefusesAt type_at [] (Word (ending_word ending))
unfolding type_at type_in
type_refuses endings.Return more = (fault 0 (LeftOut (codes "ret")), refl)
type_refuses endings.Unreachable more = (fault 0 (LeftOut (codes "unreachable")), refl)
type_refuses endings.Branch more = (fault 0 (LeftOut (codes "br")), refl)
type_refuses endings.Switch more = (fault 0 (LeftOut (codes "switch")), refl)

type_takes : (V : Type 0) (E F : Follow) → Fit E type_at F [] a_type → (line : ℕ) (t : Token) → Takes type_at (ReasonsIf V E type_at F) line t
unfolding type_at unexpected
type_takes V E F fit line (Word w) = by (type_in w) refl
  where
    by : (type : TypeWord) → type_in w ≡ type → Takes type_at (ReasonsIf V E type_at F) line (Word w)
    by types.Other h = refuses (fault line (LeftOut w)) (inl (refl, (word_reason (Fit E type_at F []) (Bad V type_at []) (Again E type_at F []) (RefusesAt type_at []) w (codes "i8") (nouns.type 8 i8) fit (λ u ws. absurd (no_other_widths w h ws))))) (λ more. rw h refl)
    by types.OutOfRange h = refuses (fault line misfits.Width) (inl (refl, (w, refl, h, fit))) (λ more. rw h refl)
    by (types.Integer width) h = takes width refl (λ more. rw h refl)
type_takes V E F fit line t = refuses (fault line (misfit places.Type t)) (inl (refl, (type_reason (Fit E type_at F []) (Bad V type_at []) (Again E type_at F []) (RefusesAt type_at []) t refl fit (λ no_type. (λ u like. type_bad refl no_type like, λ begins. inr type_refuses))))) (λ more. refl)

pub type_flags : TakesNoFlag type_at
unfolding type_at type_in
type_flags = ((unexpected places.Type [], refl), by)
  where
    by : (flag : Flag) → RefusesEach type_at (Word (flag_keyword flag))
    by Nuw line more = (fault line (LeftOut (codes "nuw")), refl)
    by Nsw line more = (fault line (LeftOut (codes "nsw")), refl)
    by Exact line more = (fault line (LeftOut (codes "exact")), refl)
    by NNeg line more = (fault line (LeftOut (codes "nneg")), refl)
    by Disjoint line more = (fault line (LeftOut (codes "disjoint")), refl)
    by SameSign line more = (fault line (LeftOut (codes "samesign")), refl)

pub type_fits : (E : Follow) → E a_type → Fit E type_at Anything [] a_type
unfolding type_at type_in bytes.is_digit
type_fits E e = fits_alone E type_at Anything a_type 8 e (λ more. refl)

pub type-good : {V : Type 0} {E : Follow} → E a_type → GoodIf V E type_at Anything (Unit {0})
unfolding type_at type_in bytes.is_digit
type-good {V} {E} e = one_token (a_type, e, 8, λ more. refl) type_flags (type_takes V E Anything (fits_alone E type_at Anything a_type 8 e (λ more. refl)))

operand_refuses : (width : ℕ) (ending : Ending) → RefusesAt (operand_at width) [] (Word (ending_word ending))
unfolding operand_at value_in truth_in
operand_refuses width endings.Return more = (fault 0 (LeftOut (codes "ret")), refl)
operand_refuses width endings.Unreachable more = (fault 0 (LeftOut (codes "unreachable")), refl)
operand_refuses width endings.Branch more = (fault 0 (LeftOut (codes "br")), refl)
operand_refuses width endings.Switch more = (fault 0 (LeftOut (codes "switch")), refl)

operand_takes : (E F : Follow) (width : ℕ) → Fit E (operand_at width) F [] a_truth → ((other : List ℕ) (number : Numeral) → constant_of other width ≡ Some number → Fit E (operand_at width) F [] (Number other)) → (line : ℕ) (t : Token) → Takes (operand_at width) (Reasons E (operand_at width) F) line t
unfolding operand_at unexpected
operand_takes E F width fit numbers line (Register written) = takes _ refl (λ more. refl)
operand_takes E F width fit numbers line (Number digits) = by (constant_of digits width) refl
  where
    by : (number : Option Numeral) → constant_of digits width ≡ number → Takes (operand_at width) (Reasons E (operand_at width) F) line (Number digits)
    by (Some number) h = takes (record { line = line; value = values.Number number }) refl (λ more. rw h refl)
    by None h = refuses (fault line ConstRange) (inl (refl, (digits, width, refl, h, numbers, λ other is. (λ more. (fault 0 ConstRange, rw is refl), λ none. like_number digits other)))) (λ more. rw h refl)
operand_takes E F width fit numbers line (Word w) = by (value_in w) refl
  where
    by : (value : Option RawValue) → value_in w ≡ value → Takes (operand_at width) (Reasons E (operand_at width) F) line (Word w)
    by (Some value) h = takes (record { line = line; value = value }) refl (λ more. rw h refl)
    by None h = refuses (fault line (LeftOut w)) (inl (refl, (word_reason (Fit E (operand_at width) F []) (Bad (Unit {0}) (operand_at width) []) (Again E (operand_at width) F []) (RefusesAt (operand_at width) []) w (codes "true") (nouns.value 1 values.True refl) fit (λ u ws. types_bad (operand_at width) (operand_no_type width) ws)))) (λ more. rw h refl)
operand_takes E F width fit numbers line t = refuses (fault line (misfit places.Choice t)) (inl (refl, (choice_reason (Fit E (operand_at width) F []) (Bad (Unit {0}) (operand_at width) []) (Again E (operand_at width) F []) (RefusesAt (operand_at width) []) t refl (λ u like. operand_bad width refl refl like, λ begins. inr (operand_refuses width))))) (λ more. refl)

operand_flags : (width : ℕ) → TakesNoFlag (operand_at width)
unfolding operand_at value_in truth_in
operand_flags width = ((unexpected places.Choice [], refl), by)
  where
    by : (flag : Flag) → RefusesEach (operand_at width) (Word (flag_keyword flag))
    by Nuw line more = (fault line (LeftOut (codes "nuw")), refl)
    by Nsw line more = (fault line (LeftOut (codes "nsw")), refl)
    by Exact line more = (fault line (LeftOut (codes "exact")), refl)
    by NNeg line more = (fault line (LeftOut (codes "nneg")), refl)
    by Disjoint line more = (fault line (LeftOut (codes "disjoint")), refl)
    by SameSign line more = (fault line (LeftOut (codes "samesign")), refl)

pub operand-good : (width : ℕ) → Good Anything (operand_at width) Anything
unfolding operand_at value_in truth_in
operand-good width = one_token (a_register, tt, _, λ more. refl) (operand_flags width) (operand_takes Anything Anything width (fits_alone Anything (operand_at width) Anything a_truth (record { line = 0; value = values.True }) tt (λ more. refl))
    (λ other number is. fits_alone Anything (operand_at width) Anything (Number other) (record { line = 0; value = values.Number number }) tt (λ more. rw is refl)))

case_value_refuses : (width : ℕ) (ending : Ending) → RefusesAt (case_value_at width) [] (Word (ending_word ending))
unfolding case_value_at truth_in
case_value_refuses width endings.Return more = (fault 0 (LeftOut (codes "ret")), refl)
case_value_refuses width endings.Unreachable more = (fault 0 (LeftOut (codes "unreachable")), refl)
case_value_refuses width endings.Branch more = (fault 0 (LeftOut (codes "br")), refl)
case_value_refuses width endings.Switch more = (fault 0 (LeftOut (codes "switch")), refl)

case_value_takes : (E F : Follow) (width : ℕ) → Fit E (case_value_at width) F [] a_truth → ((other : List ℕ) (number : Numeral) → constant_of other width ≡ Some number → Fit E (case_value_at width) F [] (Number other)) → (line : ℕ) (t : Token) → Takes (case_value_at width) (Reasons E (case_value_at width) F) line t
unfolding case_value_at unexpected
case_value_takes E F width fit numbers line (Number digits) = by (constant_of digits width) refl
  where
    by : (number : Option Numeral) → constant_of digits width ≡ number → Takes (case_value_at width) (Reasons E (case_value_at width) F) line (Number digits)
    by (Some number) h = takes (record { line = line; value = values.Number number }) refl (λ more. rw h refl)
    by None h = refuses (fault line ConstRange) (inl (refl, (digits, width, refl, h, numbers, λ other is. (λ more. (fault 0 ConstRange, rw is refl), λ none. like_number digits other)))) (λ more. rw h refl)
case_value_takes E F width fit numbers line (Word w) = by (truth_in w) refl
  where
    by : (value : Option RawValue) → truth_in w ≡ value → Takes (case_value_at width) (Reasons E (case_value_at width) F) line (Word w)
    by (Some value) h = takes (record { line = line; value = value }) refl (λ more. rw h refl)
    by None h = refuses (fault line (LeftOut w)) (inl (refl, (word_reason (Fit E (case_value_at width) F []) (Bad (Unit {0}) (case_value_at width) []) (Again E (case_value_at width) F []) (RefusesAt (case_value_at width) []) w (codes "true") (nouns.value 1 values.True refl) fit (λ u ws. types_bad (case_value_at width) (case_value_no_type width) ws)))) (λ more. rw h refl)
case_value_takes E F width fit numbers line t = refuses (fault line (misfit places.Choice t)) (inl (refl, (choice_reason (Fit E (case_value_at width) F []) (Bad (Unit {0}) (case_value_at width) []) (Again E (case_value_at width) F []) (RefusesAt (case_value_at width) []) t refl (λ u like. case_value_bad width refl refl like, λ begins. inr (case_value_refuses width))))) (λ more. refl)

case_value_flags : (width : ℕ) → TakesNoFlag (case_value_at width)
unfolding case_value_at truth_in
case_value_flags width = ((unexpected places.Choice [], refl), by)
  where
    by : (flag : Flag) → RefusesEach (case_value_at width) (Word (flag_keyword flag))
    by Nuw line more = (fault line (LeftOut (codes "nuw")), refl)
    by Nsw line more = (fault line (LeftOut (codes "nsw")), refl)
    by Exact line more = (fault line (LeftOut (codes "exact")), refl)
    by NNeg line more = (fault line (LeftOut (codes "nneg")), refl)
    by Disjoint line more = (fault line (LeftOut (codes "disjoint")), refl)
    by SameSign line more = (fault line (LeftOut (codes "samesign")), refl)

pub case_value-good : (width : ℕ) → Good Anything (case_value_at width) Anything
unfolding case_value_at truth_in
case_value-good width = one_token (a_truth, tt, _, λ more. refl) (case_value_flags width) (case_value_takes Anything Anything width (fits_alone Anything (case_value_at width) Anything a_truth (record { line = 0; value = values.True }) tt (λ more. refl))
    (λ other number is. fits_alone Anything (case_value_at width) Anything (Number other) (record { line = 0; value = values.Number number }) tt (λ more. rw is refl)))

-- ---- metadata, opcodes, predicates and terminators

metadata_takes : (E F : Follow) (test : List ℕ → Bool) (line : ℕ) (t : Token) → Takes (metadata_at test) (Reasons E (metadata_at test) F) line t
unfolding metadata_at unexpected
metadata_takes E F test line (Metadata text) = by (test text) refl
  where
    by : (b : Bool) → test text ≡ b → Takes (metadata_at test) (Reasons E (metadata_at test) F) line (Metadata text)
    by true h = takes tt refl (λ more. rw h refl)
    by false h = refuses (fault line Syntax) (inl (refl, (λ u like. inl (metadata_bad test like), λ begins. absurd cc, λ bad. cc))) (λ more. rw h refl)
metadata_takes E F test line t = refuses (fault line (misfit places.Fixed t)) (inl (refl, (fixed_reason (Fit E (metadata_at test) F []) (Bad (Unit {0}) (metadata_at test) []) (Again E (metadata_at test) F []) (RefusesAt (metadata_at test) []) t (λ u like. metadata_bad test like, λ begins. inr (λ ending more. (fault 0 (misfit places.Fixed (Word (ending_word ending))), refl)))))) (λ more. refl)

metadata_flags : (test : List ℕ → Bool) → TakesNoFlag (metadata_at test)
unfolding metadata_at unexpected
metadata_flags test = ((unexpected places.Fixed [], refl), λ flag line more. (fault line (misfit places.Fixed (Word (flag_keyword flag))), refl))

pub metadata-good : {E : Follow} (test : List ℕ → Bool) (text : List ℕ) → test text ≡ true → E (Metadata text) → Good E (metadata_at test) Anything
unfolding metadata_at
metadata-good {E} test text h e = one_token (Metadata text, e, tt, λ more. rw h refl) (metadata_flags test) (metadata_takes E Anything test)

pred_refuses : (ending : Ending) → RefusesAt pred_at [] (Word (ending_word ending))
unfolding pred_at pred_in
pred_refuses endings.Return more = (fault 0 (LeftOut (codes "ret")), refl)
pred_refuses endings.Unreachable more = (fault 0 (LeftOut (codes "unreachable")), refl)
pred_refuses endings.Branch more = (fault 0 (LeftOut (codes "br")), refl)
pred_refuses endings.Switch more = (fault 0 (LeftOut (codes "switch")), refl)

pred_takes : (V : Type 0) (E F : Follow) → Fit E pred_at F [] (Word (codes "eq")) → (line : ℕ) (t : Token) → Takes pred_at (ReasonsIf V E pred_at F) line t
unfolding pred_at unexpected
pred_takes V E F fit line (Word w) = by (pred_in w) refl
  where
    by : (pred : Option Pred) → pred_in w ≡ pred → Takes pred_at (ReasonsIf V E pred_at F) line (Word w)
    by (Some pred) h = takes pred refl (λ more. rw h refl)
    by None h = refuses (fault line (LeftOut w)) (inl (refl, (word_reason (Fit E pred_at F []) (Bad V pred_at []) (Again E pred_at F []) (RefusesAt pred_at []) w (codes "eq") (nouns.predicate Eq refl) fit (λ u ws. types_bad pred_at pred_no_type ws)))) (λ more. rw h refl)
pred_takes V E F fit line t = refuses (fault line (misfit places.Choice t)) (inl (refl, (choice_reason (Fit E pred_at F []) (Bad V pred_at []) (Again E pred_at F []) (RefusesAt pred_at []) t refl (λ u like. pred_bad refl like, λ begins. inr pred_refuses)))) (λ more. refl)

pub pred_flags : TakesNoFlag pred_at
unfolding pred_at pred_in
pred_flags = ((unexpected places.Choice [], refl), by)
  where
    by : (flag : Flag) → RefusesEach pred_at (Word (flag_keyword flag))
    by Nuw line more = (fault line (LeftOut (codes "nuw")), refl)
    by Nsw line more = (fault line (LeftOut (codes "nsw")), refl)
    by Exact line more = (fault line (LeftOut (codes "exact")), refl)
    by NNeg line more = (fault line (LeftOut (codes "nneg")), refl)
    by Disjoint line more = (fault line (LeftOut (codes "disjoint")), refl)
    by SameSign line more = (fault line (LeftOut (codes "samesign")), refl)

pub pred_fits : (E : Follow) → E (Word (codes "eq")) → Fit E pred_at Anything [] (Word (codes "eq"))
unfolding pred_at pred_in
pred_fits E e = fits_alone E pred_at Anything (Word (codes "eq")) Eq e (λ more. refl)

pub pred-good : {V : Type 0} {E : Follow} → E (Word (codes "eq")) → GoodIf V E pred_at Anything (Unit {0})
unfolding pred_at pred_in
pred-good {V} {E} e = one_token (Word (codes "eq"), e, _, λ more. refl) pred_flags (pred_takes V E Anything (fits_alone E pred_at Anything (Word (codes "eq")) Eq e (λ more. refl)))

-- the first word of an operation, with its line
abbrev pub placed_operation : ℕ → List ℕ → Option Operation → Reader (ℕ × Operation)
placed_operation line word (Some operation) rest = Ok ((line, operation), rest)
placed_operation line word None rest = Err (fault line (LeftOut word))

abbrev pub opcode_at : Reader (ℕ × Operation)
opcode_at ((line, Word word) ∷ rest) = placed_operation line word (operation_in word) rest
opcode_at tokens = Err (unexpected places.Choice tokens)

opcode_no_type : (w : List ℕ) (n : ℕ) → IsTypeWord w n → Refusing opcode_at (Word w)
opcode_no_type w n is line more = (fault line (LeftOut w), rw (type_is_no_opcode w n is) refl)

opcode_bad : {t u : Token} → is_word t ≡ false → Like (Unit {0}) t u → Bad (Unit {0}) opcode_at [] t u
unfolding unexpected
opcode_bad none like = other_bad opcode_at none opcode_no_type (λ f line more. (fault line (misfit places.Choice (Function f)), refl)) (λ digits n is line more. (fault line (misfit places.Choice (Number n)), refl)) like

opcode_refuses : (ending : Ending) → RefusesAt opcode_at [] (Word (ending_word ending))
unfolding operation_in
opcode_refuses endings.Return more = (fault 0 (LeftOut (codes "ret")), refl)
opcode_refuses endings.Unreachable more = (fault 0 (LeftOut (codes "unreachable")), refl)
opcode_refuses endings.Branch more = (fault 0 (LeftOut (codes "br")), refl)
opcode_refuses endings.Switch more = (fault 0 (LeftOut (codes "switch")), refl)

opcode_takes : (E F : Follow) → Fit E opcode_at F [] (Word (codes "freeze")) → (line : ℕ) (t : Token) → Takes opcode_at (Reasons E opcode_at F) line t
unfolding unexpected
opcode_takes E F fit line (Word w) = by (operation_in w) refl
  where
    by : (operation : Option Operation) → operation_in w ≡ operation → Takes opcode_at (Reasons E opcode_at F) line (Word w)
    by (Some operation) h = takes (line, operation) refl (λ more. rw h refl)
    by None h = refuses (fault line (LeftOut w)) (inl (refl, (word_reason (Fit E opcode_at F []) (Bad (Unit {0}) opcode_at []) (Again E opcode_at F []) (RefusesAt opcode_at []) w (codes "freeze") (nouns.opcode operations.Freeze refl) fit (λ u ws. types_bad opcode_at opcode_no_type ws)))) (λ more. rw h refl)
opcode_takes E F fit line t = refuses (fault line (misfit places.Choice t)) (inl (refl, (choice_reason (Fit E opcode_at F []) (Bad (Unit {0}) opcode_at []) (Again E opcode_at F []) (RefusesAt opcode_at []) t refl (λ u like. opcode_bad refl like, λ begins. inr opcode_refuses)))) (λ more. refl)

opcode_flags : TakesNoFlag opcode_at
unfolding operation_in
opcode_flags = ((unexpected places.Choice [], refl), by)
  where
    by : (flag : Flag) → RefusesEach opcode_at (Word (flag_keyword flag))
    by Nuw line more = (fault line (LeftOut (codes "nuw")), refl)
    by Nsw line more = (fault line (LeftOut (codes "nsw")), refl)
    by Exact line more = (fault line (LeftOut (codes "exact")), refl)
    by NNeg line more = (fault line (LeftOut (codes "nneg")), refl)
    by Disjoint line more = (fault line (LeftOut (codes "disjoint")), refl)
    by SameSign line more = (fault line (LeftOut (codes "samesign")), refl)

pub opcode-good : Good Anything opcode_at Anything
unfolding operation_in
opcode-good = one_token (Word (codes "freeze"), tt, _, λ more. refl) opcode_flags (opcode_takes Anything Anything (fits_alone Anything opcode_at Anything (Word (codes "freeze")) (0, operations.Freeze) tt (λ more. refl)))

-- the first word of a terminator, with its line
abbrev pub placed_ending : ℕ → List ℕ → Option Ending → Reader (ℕ × Ending)
placed_ending line word (Some ending) rest = Ok ((line, ending), rest)
placed_ending line word None rest = Err (fault line (LeftOut word))

abbrev pub ending_word_at : Reader (ℕ × Ending)
ending_word_at ((line, Word word) ∷ rest) = placed_ending line word (ending_in word) rest
ending_word_at tokens = Err (unexpected places.Instruction tokens)

ending_no_type : (w : List ℕ) (n : ℕ) → IsTypeWord w n → Refusing ending_word_at (Word w)
ending_no_type w n is line more = (fault line (LeftOut w), rw (type_is_no_ending w n is) refl)

ending_bad : {t u : Token} → is_word t ≡ false → Like (Unit {0}) t u → Bad (Unit {0}) ending_word_at [] t u
unfolding unexpected
ending_bad none like = other_bad ending_word_at none ending_no_type (λ f line more. (fault line (misfit places.Instruction (Function f)), refl)) (λ digits n is line more. (fault line (misfit places.Instruction (Number n)), refl)) like

ending_takes : (E F : Follow) → Fit E ending_word_at F [] an_end → (line : ℕ) (t : Token) → Takes ending_word_at (Reasons E ending_word_at F) line t
unfolding unexpected
ending_takes E F fit line (Word w) = by (ending_in w) refl
  where
    by : (ending : Option Ending) → ending_in w ≡ ending → Takes ending_word_at (Reasons E ending_word_at F) line (Word w)
    by (Some ending) h = takes (line, ending) refl (λ more. rw h refl)
    by None h = refuses (fault line (LeftOut w)) (inl (refl, (word_reason (Fit E ending_word_at F []) (Bad (Unit {0}) ending_word_at []) (Again E ending_word_at F []) (RefusesAt ending_word_at []) w (codes "unreachable") (nouns.terminator endings.Unreachable refl) fit (λ u ws. types_bad ending_word_at ending_no_type ws)))) (λ more. rw h refl)
ending_takes E F fit line t = refuses (fault line (misfit places.Instruction t)) (inl (refl, (instruction_reason (Fit E ending_word_at F []) (Bad (Unit {0}) ending_word_at []) (Again E ending_word_at F []) (RefusesAt ending_word_at []) t refl fit (λ text more. (fault 0 (misfit places.Instruction (Group text)), refl)) (λ u like. ending_bad refl like)))) (λ more. refl)

ending_flags : TakesNoFlag ending_word_at
unfolding ending_in
ending_flags = ((unexpected places.Instruction [], refl), by)
  where
    by : (flag : Flag) → RefusesEach ending_word_at (Word (flag_keyword flag))
    by Nuw line more = (fault line (LeftOut (codes "nuw")), refl)
    by Nsw line more = (fault line (LeftOut (codes "nsw")), refl)
    by Exact line more = (fault line (LeftOut (codes "exact")), refl)
    by NNeg line more = (fault line (LeftOut (codes "nneg")), refl)
    by Disjoint line more = (fault line (LeftOut (codes "disjoint")), refl)
    by SameSign line more = (fault line (LeftOut (codes "samesign")), refl)

pub ending-good : {E : Follow} → E an_end → Good E ending_word_at Anything
unfolding ending_in
ending-good {E} e = one_token (an_end, e, _, λ more. refl) ending_flags (ending_takes E Anything (fits_alone E ending_word_at Anything an_end (0, endings.Unreachable) e (λ more. refl)))
