-- Viable prefixes of instructions and terminators.
use Rattle.ir_viable_prefixes.proofs.Common.{◌≡◌, ℕ, Bool, true, false, not, eqb, List, [], ◌∷◌, Option, Some, None, refl, sym, subst, ◌∙◌, inl, inr, eqb-true, codes, bytes_eq, bytes_eq-Decides, Cast, is_plain_name, is_number, Token, Placed, Word, Register, Metadata, Mark, is_last, RawIdentifier, True, RawTerminator, Jump, OutOfRange, begins_record, begins_type, Reader, ◌>>=◌, done, each_at, ending_in, ending_word, type_in, value_in, truth_in, flags_of, flags_of_cast, flags_of_icmp, Flag, flag_in, flag_keyword, attachment-takes, tail-takes, case-takes}
use Rattle.ops.specs.declared.opcode.Opcode.{Opcode}
use Rattle.scan.specs.Bytes as bytes
use Rattle.ir_instructions.specs.declared.word.Ending.{Ending}
use Rattle.ir_instructions.specs.declared.word.Ending.TheVariants as endings
use Rattle.ir_instructions.specs.InstructionReaders as parsing
use Rattle.ir_instructions.specs.Punctuation as marks
use Rattle.ir_viable_prefixes.proofs.Choices.{AsksNext, Tested, Opens, SaysOfRecords, And, either_outcome, either_sample, same-good}
use Rattle.ir_viable_prefixes.specs.Misfits as nouns
use Rattle.ir_viable_prefixes.proofs.Outcomes.{Follow, Anything, Ended, Fit, RefusesEach, ReasonsIf, OutcomeIf, takes, GoodIf, Good, done-good, ◌then◌, taken, both}
use Rattle.ir_viable_prefixes.proofs.Reasons.{a_type, an_end, Like, like_word, like_type, like_function, like_width, like_number}
use Rattle.ir_viable_prefixes.proofs.FlagReaders.{NotFlag, flags_then}
use Rattle.ir_viable_prefixes.proofs.FlagRuns.{either_apart}
use Rattle.ir_viable_prefixes.proofs.Repeats.{repeat-good, each-good}
use Rattle.ir_viable_prefixes.proofs.TokenReaders.{no_label, no_to, type_flags, type_fits, pred_flags, pred_fits, mark-good, keyword-good, register-good, type-good, operand-good, case_value-good, metadata-good, pred-good, ending_word_at, ending-good}

-- ---- lookahead

pub mark_next : (wanted : ℕ) → AsksNext (parsing.is_mark wanted)
mark_next wanted l k (Mark m) a b = refl
mark_next wanted l k t a b = refl

keyword_next : (wanted : List ℕ) → AsksNext (parsing.is_keyword wanted)
keyword_next wanted l k (Word w) a b = refl
keyword_next wanted l k t a b = refl

pub register_next : AsksNext parsing.is_register
register_next l k (Register written) a b = refl
register_next l k t a b = refl

pub metadata_next : AsksNext parsing.is_metadata
metadata_next l k (Metadata text) a b = refl
metadata_next l k t a b = refl

case_next : AsksNext parsing.begins_case
case_next l k (Mark m) a b = refl
case_next l k t a b = refl

-- a token that is not the mark has no other of its sort that is; so it is for registers and metadata
pub mark_shut : (wanted : ℕ) → Opens (parsing.is_mark wanted) false (Unit {0})
mark_shut wanted t u none (like_word v w other noun) = refl
mark_shut wanted t u none (like_type m other width begins is) = refl
mark_shut wanted t u none (like_function written other) = refl
mark_shut wanted t u none (like_width w other width out is) = refl
mark_shut wanted t u none (like_number digits other) = refl

-- a mark that begins no type has no other token of its sort
pub mark_open : (wanted : ℕ) → begins_type (Mark wanted) ≡ false → Opens (parsing.is_mark wanted) true (Unit {0})
mark_open wanted other t u next (like_word v w noun is) = absurd cc
mark_open wanted other t u next (like_type m word width begins is) = let same : m ≡ wanted = eqb-true m wanted next in let no_type : begins_type (Mark m) ≡ false = subst (λ (n : ℕ). begins_type (Mark n) ≡ false) (sym same) other in absurd cc
mark_open wanted other t u next (like_function written f) = absurd cc
mark_open wanted other t u next (like_width w word width out is) = absurd cc
mark_open wanted other t u next (like_number digits n) = absurd cc

-- the test for a mark that begins no record fails for marks that begin one, as for terminators and groups
pub mark_records : (wanted : ℕ) → begins_record (Mark wanted) ≡ false → SaysOfRecords (parsing.is_mark wanted)
mark_records wanted other false (Mark m) begins says = (λ ending. refl, λ text. refl)
mark_records wanted other true (Mark m) begins says =
    let same : m ≡ wanted = eqb-true m wanted says in let no_record : begins_record (Mark m) ≡ false = subst (λ (n : ℕ). begins_record (Mark n) ≡ false) (sym same) other in absurd cc
mark_records wanted other b t begins says = absurd cc

pub register_records : SaysOfRecords parsing.is_register
register_records b (Mark m) begins says = (λ ending. says, λ text. says)
register_records b t begins says = absurd cc

pub metadata_records : SaysOfRecords parsing.is_metadata
metadata_records b (Mark m) begins says = (λ ending. says, λ text. says)
metadata_records b t begins says = absurd cc

-- a mark that begins a record does not end the cases of a switch
case_records : SaysOfRecords parsing.begins_case
case_records true (Mark m) begins says = (λ ending. refl, λ text. refl)
case_records false (Mark m) begins says = absurd (closes (eqb m marks.close_bracket) refl says)
  where
    closes : (b : Bool) → eqb m marks.close_bracket ≡ b → not b ≡ false → ⊥
    closes true same h = let is : m ≡ marks.close_bracket = eqb-true m marks.close_bracket same in let no_record : begins_record (Mark m) ≡ false = rw is refl in cc
    closes false same h = cc
case_records b t begins says = absurd cc

pub register_shut : Opens parsing.is_register false (Unit {0})
register_shut t u none (like_word v w other noun) = refl
register_shut t u none (like_type m other width begins is) = refl
register_shut t u none (like_function written other) = refl
register_shut t u none (like_width w other width out is) = refl
register_shut t u none (like_number digits other) = refl

pub register_open : Opens parsing.is_register true (Unit {0})
register_open t u next (like_word v w other noun) = absurd cc
register_open t u next (like_type m other width begins is) = absurd cc
register_open t u next (like_function written other) = absurd cc
register_open t u next (like_width w other width out is) = absurd cc
register_open t u next (like_number digits other) = absurd cc

pub metadata_shut : Opens parsing.is_metadata false (Unit {0})
metadata_shut t u none (like_word v w other noun) = refl
metadata_shut t u none (like_type m other width begins is) = refl
metadata_shut t u none (like_function written other) = refl
metadata_shut t u none (like_width w other width out is) = refl
metadata_shut t u none (like_number digits other) = refl

pub metadata_open : Opens parsing.is_metadata true (Unit {0})
metadata_open t u next (like_word v w other noun) = absurd cc
metadata_open t u next (like_type m other width begins is) = absurd cc
metadata_open t u next (like_function written other) = absurd cc
metadata_open t u next (like_width w other width out is) = absurd cc
metadata_open t u next (like_number digits other) = absurd cc

case_open : Opens parsing.begins_case true (Unit {0})
case_open t u next (like_word v w other noun) = refl
case_open t u next (like_type m other width begins is) = refl
case_open t u next (like_function written other) = refl
case_open t u next (like_width w other width out is) = refl
case_open t u next (like_number digits other) = refl

case_shut : Opens parsing.begins_case false (Unit {0})
case_shut t u none (like_word v w other noun) = absurd cc
case_shut t u none (like_type m other width begins is) = absurd (closes m none begins)
  where
    closes : (m : ℕ) → parsing.begins_case ((0, Mark m) ∷ []) ≡ false → begins_type (Mark m) ≡ true → ⊥
    closes m h k = by (eqb m marks.close_bracket) refl h
      where
        by : (b : Bool) → eqb m marks.close_bracket ≡ b → not b ≡ false → ⊥
        by true same h = let is : m ≡ marks.close_bracket = eqb-true m marks.close_bracket same in let no_type : begins_type (Mark m) ≡ false = rw is refl in cc
        by false same h = cc
case_shut t u none (like_function written other) = absurd cc
case_shut t u none (like_width w other width out is) = absurd cc
case_shut t u none (like_number digits other) = absurd cc

-- tokens for which these tests fail
abbrev pub NotComma : Follow
NotComma = Tested (parsing.is_mark marks.comma) false

abbrev pub NotRegister : Follow
NotRegister = Tested parsing.is_register false

abbrev pub NotMetadata : Follow
NotMetadata = Tested parsing.is_metadata false

-- ---- names, values and attachments

target-good : {E : Follow} → E (Word (codes "label")) → Good E parsing.target_at Anything
unfolding parsing.target_at
target-good e = keyword-good (codes "label") no_label e then (λ u. register-good tt)

typed-good : {V : Type 0} {E : Follow} → E a_type → GoodIf V E parsing.typed_at Anything (Unit {0})
unfolding parsing.typed_at
typed-good e = type-good e then (λ width. operand-good width then (λ operand. done-good (λ t f. tt) _))

abbrev pub a_metadata : Token
a_metadata = Metadata (codes "a")

pub attachment-good : {E : Follow} → E a_metadata → Good E parsing.attachment_at Anything
unfolding parsing.attachment_at is_plain_name is_number bytes.is_digit bytes.begins_name bytes.is_name_byte bytes.is_letter
attachment-good e = metadata-good is_plain_name (codes "a") refl e then (λ u. metadata-good is_number (codes "0") refl tt)

pub attachments-good : {E F : Follow} → ((t : Token) → F t → NotMetadata t) → ((t : Token) → F t → E t) → ((t : Token) → Tested parsing.is_metadata true t → E t) → Good E parsing.attachments_at F
unfolding parsing.attachments_at
attachments-good ends enters next_enters =
    repeat-good (Unit {0}) Anything parsing.is_metadata (λ before. parsing.attachment_at)
    (record { asks = metadata_next; takes = λ before. attachment-takes; ends = ends; ends_step = λ t f. tt; next_ends_step = λ t n. tt; opens = metadata_open; shuts = metadata_shut; records = λ a b t begins h. let r = metadata_records b t begins h in (inr r.0, λ end. r.1) })
    (λ before. (attachment-good {E = Anything} tt).apart) (λ before tokens e next. (attachment-good {E = Tested parsing.is_metadata true} refl).outcome tokens e) enters next_enters tt

tail_attachment-good : {E : Follow} → E (Mark marks.comma) → Good E parsing.tail_attachment_at Anything
unfolding parsing.tail_attachment_at
tail_attachment-good e = mark-good marks.comma e then (λ u. attachment-good tt)

pub tail-good : Good Anything parsing.tail_at NotComma
unfolding parsing.tail_at
tail-good =
    repeat-good (Unit {0}) Anything (parsing.is_mark marks.comma) (λ before. parsing.tail_attachment_at)
    (record { asks = mark_next marks.comma; takes = λ before. tail-takes; ends = λ t f. f; ends_step = λ t f. tt; next_ends_step = λ t n. tt; opens = mark_open marks.comma refl; shuts = mark_shut marks.comma; records = λ a b t begins h. let r = mark_records marks.comma refl b t begins h in (inr r.0, λ end. r.1) })
    (λ before. (tail_attachment-good {E = Anything} tt).apart) (λ before tokens e next. (tail_attachment-good {E = Tested (parsing.is_mark marks.comma) true} refl).outcome tokens e) (λ t f. tt) (λ t n. tt) tt

-- ---- operations

pub binary-good : (op : Opcode) → Good Anything (parsing.binary_at op) Anything
unfolding parsing.binary_at flag_in
binary-good op =
    flags_then (flags_of op) (type-good refl) (λ flags width. operand-good width then (λ left. mark-good marks.comma tt then (λ u. operand-good width then (λ right. done-good (λ t f. tt) _)))) type_flags.1
    (inl (type_fits (NotFlag (flags_of op)) refl))

pub compare-good : Good Anything parsing.compare_at Anything
unfolding parsing.compare_at flag_in
compare-good =
    flags_then flags_of_icmp (pred-good refl) (λ flags pred. type-good tt then (λ width. operand-good width then (λ left. mark-good marks.comma tt then (λ u. operand-good width then (λ right. done-good (λ t f. tt) _))))) pred_flags.1
    (inr (pred_fits (NotFlag flags_of_icmp) refl))

pub select-good : Good Anything parsing.select_at Anything
unfolding parsing.select_at
select-good = typed-good tt then (λ condition. mark-good marks.comma tt then (λ u. typed-good tt then (λ if_true. mark-good marks.comma tt then (λ v. typed-good tt then (λ if_false. done-good (λ t f. tt) _)))))

typed_flags : (flag : Flag) → RefusesEach parsing.typed_at (Word (flag_keyword flag))
unfolding parsing.typed_at
typed_flags flag line more = let r = type_flags.1 flag line more in (r.0, rw r.1 refl)

typed_fits : (E : Follow) → E a_type → Fit E parsing.typed_at Anything [] a_type
unfolding parsing.typed_at parsing.type_at parsing.operand_at type_in bytes.is_digit value_in truth_in
typed_fits E e = ((record { width = 8; operand = record { line = 0; value = True } }, (0, Word (codes "true")) ∷ [], λ ts f. refl), λ none. e)

pub convert-good : (cast : Cast) → Good Anything (parsing.convert_at cast) Anything
unfolding parsing.convert_at flag_in
convert-good cast =
    flags_then (flags_of_cast cast) (typed-good refl) (λ flags from. keyword-good (codes "to") no_to tt then (λ u. type-good tt then (λ to. done-good (λ t f. tt) _))) typed_flags
    (inl (typed_fits (NotFlag (flags_of_cast cast)) refl))

pub freeze-good : Good Anything parsing.freeze_at Anything
unfolding parsing.freeze_at
freeze-good = typed-good tt then (λ typed. done-good (λ t f. tt) _)

pub incoming-good : {E : Follow} (width : ℕ) → E (Mark marks.open_bracket) → Good E (parsing.incoming_at width) Anything
unfolding parsing.incoming_at
incoming-good width e = mark-good marks.open_bracket e then (λ u. operand-good width then (λ value. mark-good marks.comma tt then (λ v. register-good tt then (λ block. mark-good marks.close_bracket tt then (λ w. done-good (λ t f. tt) _)))))

-- ---- terminators

return-good : Good Anything parsing.return_at Anything
unfolding parsing.return_at
return-good = typed-good tt then (λ typed. done-good (λ t f. tt) _)

conditional-good : {E : Follow} → E a_type → Good E parsing.conditional_at Anything
unfolding parsing.conditional_at
conditional-good e = typed-good e then (λ typed. mark-good marks.comma tt then (λ u. target-good tt then (λ if_true. mark-good marks.comma tt then (λ v. target-good tt then (λ if_false. done-good (λ t f. tt) _)))))

pub none_like : {t u : Token} → Like (Unit {0}) t u → is_last t ≡ true → ⊥
none_like (like_word v w other noun) h = cc
none_like (like_type m other width begins is) h = cc
none_like (like_function written other) h = cc
none_like (like_width w other width out is) h = cc
none_like (like_number digits other) h = cc

pub no_record : (t : Token) → begins_record t ≡ true → is_last t ≡ true → ⊥
no_record (Mark m) begins h = cc
no_record t begins h = cc

label_is_no_width : (w : List ℕ) → type_in w ≡ OutOfRange → bytes_eq w (codes "label") ≡ true → ⊥
unfolding type_in
label_is_no_width w out is = let same : w ≡ codes "label" = (bytes_eq-Decides w (codes "label")).0 is in let other : type_in (codes "label") ≡ OutOfRange = subst (λ (v : List ℕ). type_in v ≡ OutOfRange) same out in cc

label_open : Opens (parsing.is_keyword (codes "label")) true ⊥
label_open t u next (like_word v w other noun) = absurd v
label_open t u next (like_type m other width begins is) = absurd cc
label_open t u next (like_function written other) = absurd cc
label_open t u next (like_width w other width out is) = absurd (label_is_no_width w out next)
label_open t u next (like_number digits other) = absurd cc

label_shut : Opens (parsing.is_keyword (codes "label")) false (Unit {0})
label_shut t u none (like_word v w other noun) = no_label other noun
label_shut t u none (like_type m other width begins is) = no_label other (nouns.type width is)
label_shut t u none (like_function written other) = refl
label_shut t u none (like_width w other width out is) = no_label other (nouns.type width is)
label_shut t u none (like_number digits other) = refl

label_records : SaysOfRecords (parsing.is_keyword (codes "label"))
label_records b (Mark m) begins says = (λ ending. no_label (ending_word ending) (nouns.terminator ending refl) ∙ says, λ text. says)
label_records b t begins says = absurd cc

abbrev IsLabel : Follow
IsLabel = And Anything (Tested (parsing.is_keyword (codes "label")) true)

-- the word `label` of a target, where it is next
label_outcome : (tokens : List Placed) → Ended tokens → parsing.is_keyword (codes "label") tokens ≡ true → OutcomeIf ⊥ IsLabel (parsing.keyword_at (codes "label")) Anything (Unit {0}) (ReasonsIf ⊥ IsLabel (parsing.keyword_at (codes "label")) Anything) tokens (parsing.keyword_at (codes "label") tokens)
unfolding parsing.keyword_at
label_outcome ((line, Word w) ∷ rest) e next =
    taken ⊥ IsLabel (parsing.keyword_at (codes "label")) Anything (Unit {0}) (ReasonsIf ⊥ IsLabel (parsing.keyword_at (codes "label")) Anything) line (Word w) rest e (takes tt refl (λ more. rw next refl))
label_outcome tokens e next = absurd cc

jumping-good : {E : Follow} → E (Word (codes "label")) → Good E parsing.jump_at Anything
unfolding parsing.jump_at
jumping-good e = target-good e then (λ target. done-good (λ t f. tt) (Jump target))

jump_outcome : (tokens : List Placed) → Ended tokens → parsing.is_keyword (codes "label") tokens ≡ true → OutcomeIf ⊥ IsLabel parsing.jump_at Anything (Unit {0}) (ReasonsIf ⊥ IsLabel parsing.jump_at Anything) tokens (parsing.jump_at tokens)
unfolding parsing.jump_at parsing.target_at
jump_outcome tokens e next =
    both ⊥ (Unit {0}) (Unit {0}) IsLabel Anything Anything parsing.target_at (λ target. done (Jump target)) (target-good {E = Anything} tt).apart (λ target. (last target).sample) tokens
    (both ⊥ (Unit {0}) (Unit {0}) IsLabel Anything Anything (parsing.keyword_at (codes "label")) (λ u. parsing.register_at) (keyword-good {E = Anything} (codes "label") no_label tt).apart (λ u. register.sample) tokens (label_outcome tokens e next) (λ x is ended. register.outcome x.1 ended))
    (λ x is ended. (last x.0).outcome x.1 ended)
  where
    register : Good Anything parsing.register_at Anything
    register = register-good tt

    last : (target : RawIdentifier) → Good Anything (done (Jump target)) Anything
    last target = done-good (λ t f. tt) (Jump target)

branch-good : Good Anything parsing.branch_at Anything
unfolding parsing.branch_at
branch-good = record {
  sample = either_sample Anything Anything parsing.jump_at parsing.conditional_at (parsing.is_keyword (codes "label")) (keyword_next (codes "label")) (jumping-good (tt, refl)).sample;
  outcome = λ tokens e.
      either_outcome ⊥ Anything Anything parsing.jump_at parsing.conditional_at (parsing.is_keyword (codes "label")) (keyword_next (codes "label")) label_open label_shut label_records tokens (jump_outcome tokens e) (λ next. (conditional-good (tt, refl)).outcome tokens e);
  apart = either_apart (parsing.is_keyword (codes "label")) parsing.jump_at parsing.conditional_at (jumping-good {E = Anything} tt).apart (conditional-good {E = Anything} tt).apart;
}

case-good : {E : Follow} → E a_type → Good E parsing.case_at Anything
unfolding parsing.case_at
case-good e = type-good e then (λ width. case_value-good width then (λ value. mark-good marks.comma tt then (λ u. target-good tt then (λ target. done-good (λ t f. tt) _))))

cases-good : Good Anything parsing.cases_at Anything
unfolding parsing.cases_at
cases-good = mark-good marks.open_bracket tt then (λ u. each then (λ cases. mark-good marks.close_bracket refl then (λ v. done-good (λ t f. tt) _)))
  where
    each : Good Anything (each_at parsing.begins_case parsing.case_at []) (Tested parsing.begins_case false)
    each =
        each-good (Unit {0}) Anything parsing.begins_case parsing.case_at (record { asks = case_next; takes = case-takes; ends = λ t f. f; ends_part = λ t f. tt; next_ends_part = λ t n. tt; opens = case_open; shuts = case_shut; records = λ a b t begins h. let r = case_records b t begins h in (inr r.0, λ end. r.1) })
        (case-good {E = Anything} tt).apart (λ tokens e next. (case-good {E = Tested parsing.begins_case true} refl).outcome tokens e) (λ t f. tt) (λ t n. tt) []

switch-good : Good Anything parsing.switch_at Anything
unfolding parsing.switch_at
switch-good = typed-good tt then (λ typed. mark-good marks.comma tt then (λ u. target-good tt then (λ default. cases-good then (λ cases. done-good (λ t f. tt) _))))

ending_at-good : (ending : Ending) → Good Anything (parsing.ending_at ending) Anything
ending_at-good endings.Return = return-good
ending_at-good endings.Unreachable = done-good (λ t f. tt) _
ending_at-good endings.Branch = branch-good
ending_at-good endings.Switch = switch-good

-- the parser of a terminator: its first word, and then the rest
abbrev placed_terminator_at : Reader (ℕ × RawTerminator)
placed_terminator_at = ending_word_at >>= λ begun. parsing.ending_at begun.1 >>= λ end. done (begun.0, end)

same_terminator : (tokens : List Placed) → parsing.terminator_at tokens ≡ placed_terminator_at tokens
unfolding parsing.terminator_at
same_terminator ((line, Word w) ∷ rest) = by (ending_in w) refl
  where
    by : (ending : Option Ending) → ending_in w ≡ ending → parsing.terminator_at ((line, Word w) ∷ rest) ≡ placed_terminator_at ((line, Word w) ∷ rest)
    by (Some ending) h = rw h refl
    by None h = rw h refl
same_terminator tokens = refl

pub terminator-good : {E : Follow} → E an_end → Good E parsing.terminator_at Anything
terminator-good e = same-good same_terminator (ending-good e then (λ begun. ending_at-good begun.1 then (λ end. done-good (λ t f. tt) _)))
