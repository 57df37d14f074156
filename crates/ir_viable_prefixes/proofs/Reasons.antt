-- Why a parser refuses a token, in terms of the other tokens that it takes there.
use Rattle.ir_viable_prefixes.proofs.Common.{◌≡◌, ℕ, Bool, true, false, cond, List, Some, None, refl, ◌⊎◌, inl, inr, eqb-true, codes, identifier_of, constant_of, Token, End, Other, Word, Number, Function, Group, Mark, IrFaultKind, BadByte, Syntax, LeftOut, Width, ConstRange, OutOfRange, callee_named, begins_record, begins_type, is_word, leaves_out, shown, IsTypeWord, ending_word, type_in, IsNoun}
use Rattle.ops.specs.Number.{Number as Numeral}
use Rattle.ir_tokens.specs.Tokens.{Bad as Bad_token}
use Rattle.ir_instructions.specs.declared.place.Expected.TheVariants as places
use Rattle.ir_instructions.specs.declared.word.Ending.{Ending}
use Rattle.ir_instructions.specs.declared.word.TypeWord.TheVariants.{Other as Nothing}
use Rattle.ir_instructions.specs.Places.{misfit}
use Rattle.ir_instructions.specs.Punctuation as marks

-- ---- sample tokens of each sort

abbrev pub a_type : Token
a_type = Word (codes "i8")

abbrev pub a_pred : Token
a_pred = Word (codes "eq")

-- a terminator of one word
abbrev pub an_end : Token
an_end = Word (codes "unreachable")

-- a group of attributes, which fits only among items
abbrev pub a_group : Token
a_group = Group (codes "#0")

-- ---- reasons

-- If these tokens Fit, the token is refused as `LeftOut`.
pub data LeftOutBy (Fit : Token → Type 0) : Token → Type 0 where
  word : (word other : List ℕ) → IsNoun other → Fit (Word other) → LeftOutBy Fit (Word word)
  mark_of_type : (token : Token) → begins_type token ≡ true → Fit a_type → LeftOutBy Fit token
  function : (written other : List ℕ) → callee_named (identifier_of other) ≡ None → Fit (Function other) → LeftOutBy Fit (Function written)
  mark_of_record : (token : Token) → begins_record token ≡ true → Fit an_end → LeftOutBy Fit token

-- a word that would be a type but for its width, and a type
pub data Widths : Token → Token → Type 0 where
  widths : (w other : List ℕ) (width : ℕ) → type_in w ≡ OutOfRange → IsTypeWord other width → Widths (Word w) (Word other)

pub no_widths : {t u : Token} → is_word t ≡ false → Widths t u → ⊥
no_widths no_word (widths w other width out is) = cc

pub no_other_widths : (w : List ℕ) {u : Token} → type_in w ≡ Nothing → Widths (Word w) u → ⊥
no_other_widths w none (widths v other width out is) = cc

-- Two tokens of one sort, of which one may fit where the other is refused; words are of one sort if W holds.
pub data Like (W : Type 0) : Token → Token → Type 0 where
  like_word : W → (w other : List ℕ) → IsNoun other → Like W (Word w) (Word other)
  like_type : (m : ℕ) (other : List ℕ) (width : ℕ) → begins_type (Mark m) ≡ true → IsTypeWord other width → Like W (Mark m) (Word other)
  like_function : (written other : List ℕ) → Like W (Function written) (Function other)
  like_width : (w other : List ℕ) (width : ℕ) → type_in w ≡ OutOfRange → IsTypeWord other width → Like W (Word w) (Word other)
  like_number : (digits other : List ℕ) → Like W (Number digits) (Number other)

pub like_map : {V W : Type 0} → (V → W) → {t u : Token} → Like V t u → Like W t u
like_map f (like_word v w other noun) = like_word (f v) w other noun
like_map f (like_type m other width begins type) = like_type m other width begins type
like_map f (like_function written other) = like_function written other
like_map f (like_width w other width out is) = like_width w other width out is
like_map f (like_number digits other) = like_number digits other

-- if the token is no word, whether words are of one sort doesn't matter
pub like_other : {V : Type 0} {t u : Token} → is_word t ≡ false → Like (Unit {0}) t u → Like V t u
like_other no_word (like_word v w other noun) = absurd cc
like_other no_word (like_type m other width begins type) = like_type m other width begins type
like_other no_word (like_function written other) = like_function written other
like_other no_word (like_width w other width out is) = absurd cc
like_other no_word (like_number digits other) = like_number digits other

-- items stand there, so that the parser takes a group, or it refuses the first word of each terminator
abbrev pub NoRecord : (Token → Type 0) → (Token → Type 0) → Type 0
NoRecord Fit Refused = Fit a_group ⊎ ((ending : Ending) → Refused (Word (ending_word ending)))

-- the parser refuses each group
abbrev pub NoGroup : (Token → Type 0) → Type 0
NoGroup Refused = (text : List ℕ) → Refused (Group text)

-- The reason of a refusal by its kind. Fit are the tokens that the parser takes in the place, Bad t those that it
-- refuses in place of t, Repeats the flags directly before, and Refused all tokens that it refuses.
abbrev pub Reason : (Token → Type 0) → (Token → Token → Type 0) → (List ℕ → Type 0) → (Token → Type 0) → Token → IrFaultKind → Type 0
Reason Fit Bad Repeats Refused t BadByte = t ≡ Bad_token
Reason Fit Bad Repeats Refused t Width = (word : List ℕ) × (t ≡ Word word) × (type_in word ≡ OutOfRange) × Fit a_type
Reason Fit Bad Repeats Refused t ConstRange =
    (digits : List ℕ) × (width : ℕ) × (t ≡ Number digits) × (constant_of digits width ≡ None)
    × ((other : List ℕ) (number : Numeral) → constant_of other width ≡ Some number → Fit (Number other)) × ((other : List ℕ) → constant_of other width ≡ None → Bad t (Number other))
Reason Fit Bad Repeats Refused t (LeftOut text) = (text ≡ shown t) × LeftOutBy Fit t × ((u : Token) → Widths t u → Bad t u) × (begins_record t ≡ true → NoGroup Refused)
Reason Fit Bad Repeats Refused t Syntax = ((u : Token) → Like (Unit {0}) t u → Bad t u ⊎ ((w : List ℕ) × (t ≡ Word w) × Repeats w)) × (begins_record t ≡ true → NoRecord Fit Refused) × ¬ (t ≡ Bad_token)
Reason Fit Bad Repeats Refused t kind = ⊥

-- no mark begins both a type and a record
begins_one : (t : Token) → begins_type t ≡ true → begins_record t ≡ true → ⊥
begins_one (Mark m) type record_of = let same : m ≡ marks.hash = eqb-true m marks.hash record_of in let no_type : begins_type (Mark m) ≡ false = rw same refl in cc
begins_one t type record_of = absurd cc

-- the mark of a record is refused as `LeftOut` only where a terminator fits
record_fits : {Fit : Token → Type 0} {t : Token} → LeftOutBy Fit t → begins_record t ≡ true → Fit an_end
record_fits (word w other noun fit) begins = absurd cc
record_fits (mark_of_type t type fit) begins = absurd (begins_one t type begins)
record_fits (function written other none fit) begins = absurd cc
record_fits (mark_of_record t is fit) begins = fit

left_out_map : (P Q : Token → Type 0) → ((u : Token) → P u → Q u) → {t : Token} → LeftOutBy P t → LeftOutBy Q t
left_out_map P Q f (word w other noun fit) = word w other noun (f (Word other) fit)
left_out_map P Q f (mark_of_type t begins fit) = mark_of_type t begins (f a_type fit)
left_out_map P Q f (function written other none fit) = function written other none (f (Function other) fit)
left_out_map P Q f (mark_of_record t begins fit) = mark_of_record t begins (f an_end fit)

pub record Maps (P Q : Token → Type 0) (B C : Token → Token → Type 0) (R S : List ℕ → Type 0) (M N : Token → Type 0) (t : Token) : Type 0 where
  pub fits : (u : Token) → P u → Q u
  pub bad : (u : Token) → B t u → C t u
  pub repeats : (w : List ℕ) → R w → S w
  pub records : begins_record t ≡ true → NoRecord P M → NoRecord Q N
  pub groups : begins_record t ≡ true → P an_end → NoGroup M → NoGroup N

pub reason_map : (P Q : Token → Type 0) (B C : Token → Token → Type 0) (R S : List ℕ → Type 0) (M N : Token → Type 0) (t : Token) → Maps P Q B C R S M N t → (kind : IrFaultKind) → Reason P B R M t kind → Reason Q C S N t kind
reason_map P Q B C R S M N t m BadByte h = h
reason_map P Q B C R S M N t m Width h = (h.0, h.1, h.2, m.fits a_type h.3)
reason_map P Q B C R S M N t m ConstRange h = (h.0, h.1, h.2, h.3, λ other number is. m.fits (Number other) (h.4 other number is), λ other is. m.bad (Number other) (h.5 other is))
reason_map P Q B C R S M N t m (LeftOut text) h = (h.0, left_out_map P Q m.fits h.1, λ u ws. m.bad u (h.2 u ws), λ begins. m.groups begins (record_fits h.1 begins) (h.3 begins))
reason_map P Q B C R S M N t m Syntax h = (λ u like. by u (h.0 u like), λ begins. m.records begins (h.1 begins), h.2)
  where
    by : (u : Token) → B t u ⊎ ((w : List ℕ) × (t ≡ Word w) × R w) → C t u ⊎ ((w : List ℕ) × (t ≡ Word w) × S w)
    by u (inl b) = inl (m.bad u b)
    by u (inr r) = inr (r.0, r.1, m.repeats r.0 r.2)
reason_map P Q B C R S M N t m kind h = absurd h

-- ---- reasons by what is expected

-- a word is refused as `LeftOut` where a noun fits
pub word_reason : (Fit : Token → Type 0) (Bad : Token → Token → Type 0) (Repeats : List ℕ → Type 0) (Refused : Token → Type 0) (w other : List ℕ) → IsNoun other → Fit (Word other) → ((u : Token) → Widths (Word w) u → Bad (Word w) u) → Reason Fit Bad Repeats Refused (Word w) (LeftOut w)
unfolding shown
word_reason Fit Bad Repeats Refused w other noun fit types = (refl, word w other noun fit, types, λ begins. absurd cc)

-- a function with a number is refused as `LeftOut` where one with a name fits that is no intrinsic
pub function_reason : (Fit : Token → Type 0) (Bad : Token → Token → Type 0) (Repeats : List ℕ → Type 0) (Refused : Token → Type 0) (written other : List ℕ) → callee_named (identifier_of other) ≡ None → Fit (Function other) → Reason Fit Bad Repeats Refused (Function written) (LeftOut (codes "@"))
unfolding shown
function_reason Fit Bad Repeats Refused written other none fit = (refl, function written other none fit, λ u ws. absurd (no_widths refl ws), λ begins. absurd cc)

-- no token of its sort fits, and no record begins there
abbrev pub NoneLike : (Token → Type 0) → (Token → Token → Type 0) → (Token → Type 0) → Token → Type 0
NoneLike Fit Bad Refused t = ((u : Token) → Like (Unit {0}) t u → Bad t u) × (begins_record t ≡ true → NoRecord Fit Refused)

none_reason : (Fit : Token → Type 0) (Bad : Token → Token → Type 0) (Repeats : List ℕ → Type 0) (Refused : Token → Type 0) (t : Token) → NoneLike Fit Bad Refused t → ¬ (t ≡ Bad_token) → Reason Fit Bad Repeats Refused t Syntax
none_reason Fit Bad Repeats Refused t none no_bad = (λ u like. inl (none.0 u like), none.1, no_bad)

-- where a certain token is expected, no other is refused as `LeftOut`
pub fixed_reason : (Fit : Token → Type 0) (Bad : Token → Token → Type 0) (Repeats : List ℕ → Type 0) (Refused : Token → Type 0) (t : Token) → NoneLike Fit Bad Refused t → Reason Fit Bad Repeats Refused t (misfit places.Fixed t)
unfolding misfit leaves_out
fixed_reason Fit Bad Repeats Refused Bad_token none = refl
fixed_reason Fit Bad Repeats Refused Other none = none_reason Fit Bad Repeats Refused Other none (λ bad. cc)
fixed_reason Fit Bad Repeats Refused End none = none_reason Fit Bad Repeats Refused End none (λ bad. cc)
fixed_reason Fit Bad Repeats Refused t none = none_reason Fit Bad Repeats Refused t none (λ bad. cc)

pub choice_reason : (Fit : Token → Type 0) (Bad : Token → Token → Type 0) (Repeats : List ℕ → Type 0) (Refused : Token → Type 0) (t : Token) → is_word t ≡ false → NoneLike Fit Bad Refused t → Reason Fit Bad Repeats Refused t (misfit places.Choice t)
unfolding misfit leaves_out
choice_reason Fit Bad Repeats Refused Bad_token h none = refl
choice_reason Fit Bad Repeats Refused Other h none = none_reason Fit Bad Repeats Refused Other none (λ bad. cc)
choice_reason Fit Bad Repeats Refused End h none = none_reason Fit Bad Repeats Refused End none (λ bad. cc)
choice_reason Fit Bad Repeats Refused (Word w) h none = absurd cc
choice_reason Fit Bad Repeats Refused t h none = none_reason Fit Bad Repeats Refused t none (λ bad. cc)

-- a mark that is left out by a test
tested : (Fit : Token → Type 0) (Bad : Token → Token → Type 0) (Repeats : List ℕ → Type 0) (Refused : Token → Type 0) (m : ℕ) (b : Bool) → (b ≡ true → LeftOutBy Fit (Mark m) × (begins_record (Mark m) ≡ true → NoGroup Refused)) → (b ≡ false → NoneLike Fit Bad Refused (Mark m)) → Reason Fit Bad Repeats Refused (Mark m) (cond b (LeftOut (shown (Mark m))) Syntax)
tested Fit Bad Repeats Refused m true h none = (refl, (h refl).0, λ u ws. absurd (no_widths refl ws), (h refl).1)
tested Fit Bad Repeats Refused m false h none = none_reason Fit Bad Repeats Refused (Mark m) (none refl) (λ bad. cc)

pub type_reason : (Fit : Token → Type 0) (Bad : Token → Token → Type 0) (Repeats : List ℕ → Type 0) (Refused : Token → Type 0) (t : Token) → is_word t ≡ false → Fit a_type → (begins_type t ≡ false → NoneLike Fit Bad Refused t) → Reason Fit Bad Repeats Refused t (misfit places.Type t)
unfolding misfit leaves_out
type_reason Fit Bad Repeats Refused Bad_token h fit none = refl
type_reason Fit Bad Repeats Refused Other h fit none = none_reason Fit Bad Repeats Refused Other (none refl) (λ bad. cc)
type_reason Fit Bad Repeats Refused End h fit none = none_reason Fit Bad Repeats Refused End (none refl) (λ bad. cc)
type_reason Fit Bad Repeats Refused (Word w) h fit none = absurd cc
type_reason Fit Bad Repeats Refused (Mark m) h fit none = tested Fit Bad Repeats Refused m (begins_type (Mark m)) (λ begins. (mark_of_type (Mark m) begins fit, λ other. absurd (begins_one (Mark m) begins other))) none
type_reason Fit Bad Repeats Refused t h fit none = none_reason Fit Bad Repeats Refused t (none refl) (λ bad. cc)

is_one : (b : Bool) → b ≡ true → b ≡ false → ⊥
is_one b holds fails = cc

pub instruction_reason : (Fit : Token → Type 0) (Bad : Token → Token → Type 0) (Repeats : List ℕ → Type 0) (Refused : Token → Type 0) (t : Token) → is_word t ≡ false → Fit an_end → NoGroup Refused → ((u : Token) → Like (Unit {0}) t u → Bad t u) → Reason Fit Bad Repeats Refused t (misfit places.Instruction t)
unfolding misfit leaves_out
instruction_reason Fit Bad Repeats Refused Bad_token h fit groups none = refl
instruction_reason Fit Bad Repeats Refused Other h fit groups none = none_reason Fit Bad Repeats Refused Other (none, λ begins. absurd cc) (λ bad. cc)
instruction_reason Fit Bad Repeats Refused End h fit groups none = none_reason Fit Bad Repeats Refused End (none, λ begins. absurd cc) (λ bad. cc)
instruction_reason Fit Bad Repeats Refused (Word w) h fit groups none = absurd cc
instruction_reason Fit Bad Repeats Refused (Mark m) h fit groups none = tested Fit Bad Repeats Refused m (begins_record (Mark m)) (λ begins. (mark_of_record (Mark m) begins fit, λ again. groups)) (λ no_record. (none, λ begins. absurd (is_one (begins_record (Mark m)) begins no_record)))
instruction_reason Fit Bad Repeats Refused t h fit groups none = none_reason Fit Bad Repeats Refused t (none, λ begins. absurd cc) (λ bad. cc)
