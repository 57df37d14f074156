-- Viable prefixes of blocks, parameters and functions.
use Rattle.ir_viable_prefixes.proofs.Common.{◌≡◌, ℕ, Bool, true, false, eqb, List, [], ◌∷◌, Option, Some, None, Ok, Err, refl, sym, subst, ◌⊎◌, inl, inr, codes, eqb-true, Identifier, Named, Numbered, identifier_of, name_of, Token, Placed, Label, Word, Number, Register, Function, Metadata, Mark, RawBlock, RawIdentifier, RawParameter, Fault, IrFaultKind, LeftOut, callee_named, intrinsic_in, attachments_at, identified, insts_at, is_metadata, is_register, terminator_at, begins_record, Read, Reader, fault, unexpected, ◌>>=◌, done, each_at, Pred, Flag, predicate_keyword, RawTerminator, ending_in, ending_word, type_in, is_item_word, block-takes, parameter-takes, flag_keyword}
use Rattle.scan.specs.Bytes as bytes
use Rattle.ir_instructions.specs.declared.place.Expected.TheVariants as places
use Rattle.ir_instructions.specs.InstructionReaders.{is_mark, tail_at}
use Rattle.ir_instructions.specs.Places.{misfit}
use Rattle.ops.specs.declared.comparison.Pred.TheVariants as preds
use Rattle.ops.specs.declared.keywords.flag.Flag.TheVariants as flags
use Rattle.ir_instructions.specs.Punctuation as marks
use Rattle.ir_parse.specs.ModuleReaders as parsing
use Rattle.ir_viable_prefixes.proofs.Choices.{AsksNext, Tested, Opens, SaysOfRecords, reasons_transferred, either-good}
use Rattle.ir_viable_prefixes.proofs.Closed.{Closes, closes_behind, closes_done, mark_closes}
use Rattle.ir_viable_prefixes.proofs.Instructions.{insts-open}
use Rattle.ir_viable_prefixes.proofs.Items.{FollowsLast, items-good, last_items-good}
use Rattle.ir_viable_prefixes.proofs.Outcomes.{Again, Follow, Next, next_map, Anything, Ended, StopsEach, Halts, CompletesBegun, Fit, FitsEnd, RefusesAt, Bad, NoValue, no_number, no_word, no_truth_value, no_group, no_quoted, a_truth, no_truth, InCall, of_callee, of_value, of_truth, Why, Reasons, Outcome, RefusesEach, Apart, behind_open, Takes, takes, refuses, fits_alone, one_token, MayTake, may_take, leaves, token_or_none, Good, GoodOpen, done-good, ◌then◌, TakesNoFlag, LeavesFlags}
use Rattle.ir_viable_prefixes.proofs.Reasons.{a_type, a_pred, an_end, a_group, NoRecord, Like, like_word, like_type, like_function, like_width, like_number, reason_map, fixed_reason, function_reason}
use Rattle.ir_viable_prefixes.proofs.Repeats.{each-good}
use Rattle.ir_viable_prefixes.proofs.Statements.{NotComma, NotMetadata, NotRegister, mark_next, mark_open, mark_shut, mark_records, attachments-good, tail-good, terminator-good}
use Rattle.ir_viable_prefixes.proofs.TokenReaders.{type_is_no_ending, all_bad, mark-good, type-good}

-- ---- blocks

pub label_next : AsksNext parsing.is_label
label_next l k (Label name) a b = refl
label_next l k t a b = refl

abbrev pub NotLabel : Follow
NotLabel = Tested parsing.is_label false

label_stops : {t u : Token} → Like (Unit {0}) t u → StopsEach parsing.label_at [] None u
unfolding parsing.label_at
label_stops (like_word v w other noun) = λ l more. refl
label_stops (like_type m other width begins is) = λ l more. refl
label_stops (like_function written other) = λ l more. refl
label_stops (like_width w other width out is) = λ l more. refl
label_stops (like_number digits other) = λ l more. refl

pub label_open : Opens parsing.is_label true (Unit {0})
label_open t u next (like_word v w other noun) = absurd cc
label_open t u next (like_type m other width begins is) = absurd cc
label_open t u next (like_function written other) = absurd cc
label_open t u next (like_width w other width out is) = absurd cc
label_open t u next (like_number digits other) = absurd cc

pub label_shut : Opens parsing.is_label false (Unit {0})
label_shut t u none (like_word v w other noun) = refl
label_shut t u none (like_type m other width begins is) = refl
label_shut t u none (like_function written other) = refl
label_shut t u none (like_width w other width out is) = refl
label_shut t u none (like_number digits other) = refl

pub label_records : SaysOfRecords parsing.is_label
label_records b (Mark m) begins says = (λ ending. says, λ text. says)
label_records b t begins says = absurd cc

label_takes : (W : Why) (line : ℕ) (t : Token) → MayTake parsing.label_at W None line t
unfolding parsing.label_at
label_takes W line (Label name) = may_take (takes _ refl (λ more. refl))
label_takes W line t = leaves (λ l more. refl) (λ u like. label_stops like) (λ begins. (λ ending l more. refl, λ text l more. refl))

no_label : (t : Token) → NotLabel t → StopsEach parsing.label_at [] None t
unfolding parsing.label_at
no_label (Label name) none = absurd cc
no_label t none = λ l more. refl

label_leaves_flags : LeavesFlags parsing.label_at None
unfolding parsing.label_at
label_leaves_flags = (refl, λ flag l more. refl)

pub label-good : Good Anything parsing.label_at NotLabel
label-good = token_or_none None no_label (λ t is. tt) label_leaves_flags (label_takes _)

-- what may follow instructions
abbrev pub FollowsInsts : Follow
FollowsInsts t = NotComma t × NotRegister t × NotLabel t

pub register_is_no_label : (t : Token) → Tested is_register true t → NotLabel t
register_is_no_label (Register name) next = refl
register_is_no_label t next = absurd cc

-- a block behind its label
abbrev pub block_behind : Option RawIdentifier → Reader RawBlock
block_behind label = do
  insts ← insts_at
  end ← terminator_at
  _ ← tail_at
  done (record { label = label; insts = insts; end = end.1; end_line = end.0 })

-- no terminator begins with a flag, a type or a predicate
terminator_refuses : (w : List ℕ) → ending_in w ≡ None → RefusesEach terminator_at (Word w)
unfolding terminator_at
terminator_refuses w none line more = (fault line (LeftOut w), rw none refl)

flag_is_no_ending : (flag : Flag) → ending_in (flag_keyword flag) ≡ None
unfolding ending_in
flag_is_no_ending flags.Nuw = refl
flag_is_no_ending flags.Nsw = refl
flag_is_no_ending flags.Exact = refl
flag_is_no_ending flags.NNeg = refl
flag_is_no_ending flags.Disjoint = refl
flag_is_no_ending flags.SameSign = refl

pred_is_no_ending : (pred : Pred) → ending_in (predicate_keyword pred) ≡ None
unfolding ending_in
pred_is_no_ending preds.Eq = refl
pred_is_no_ending preds.Ne = refl
pred_is_no_ending preds.Ugt = refl
pred_is_no_ending preds.Uge = refl
pred_is_no_ending preds.Ult = refl
pred_is_no_ending preds.Ule = refl
pred_is_no_ending preds.Sgt = refl
pred_is_no_ending preds.Sge = refl
pred_is_no_ending preds.Slt = refl
pred_is_no_ending preds.Sle = refl

end_apart : {B : Type 0} (S : ℕ × RawTerminator → Reader B) → Apart (terminator_at >>= S)
end_apart S = record {
  flags = λ flag line more. let r = terminator_refuses (flag_keyword flag) (flag_is_no_ending flag) line more in (r.0, rw r.1 refl);
  types = λ w width is line more. let r = terminator_refuses w (type_is_no_ending w width is) line more in (r.0, rw r.1 refl);
  preds = λ pred line more. let r = terminator_refuses (predicate_keyword pred) (pred_is_no_ending pred) line more in (r.0, rw r.1 refl);
}

pub block_behind-good : (label : Option RawIdentifier) → Good NotLabel (block_behind label) NotComma
block_behind-good label = behind_open insts (λ insts. terminator-good (refl, refl, refl) then (λ end. tail-good then (λ u. done-good (λ t f. f) _))) (λ insts. end_apart _) (Mark marks.open_paren) refl
  where
    insts : GoodOpen NotLabel insts_at FollowsInsts
    insts = insts-open (λ t f. f.0) (λ t f. f.1) (λ t f. f.2) register_is_no_label

pub block-good : Good Anything parsing.block_at NotComma
unfolding parsing.block_at
block-good = label-good then block_behind-good

-- the parser of a label that has to be there
abbrev some_label_at : Reader (Option RawIdentifier)
some_label_at ((line, Label written) ∷ rest) = Ok (Some (identified line written), rest)
some_label_at tokens = Err (unexpected places.Fixed tokens)

some_label_bad : {t u : Token} → Like (Unit {0}) t u → Bad (Unit {0}) some_label_at [] t u
unfolding unexpected
some_label_bad like = all_bad some_label_at (λ w line more. (fault line (misfit places.Fixed (Word w)), refl)) (λ f line more. (fault line (misfit places.Fixed (Function f)), refl)) (λ n line more. (fault line (misfit places.Fixed (Number n)), refl)) like

some_label_takes : (E F : Follow) (line : ℕ) (t : Token) → Takes some_label_at (Reasons E some_label_at F) line t
unfolding unexpected
some_label_takes E F line (Label name) = takes _ refl (λ more. refl)
some_label_takes E F line t = refuses (fault line (misfit places.Fixed t)) (inl (refl, (fixed_reason (Fit E some_label_at F []) (Bad (Unit {0}) some_label_at []) (Again E some_label_at F []) (RefusesAt some_label_at []) t (λ u like. some_label_bad like, λ begins. inr (λ ending more. (fault 0 (misfit places.Fixed (Word (ending_word ending))), refl)))))) (λ more. refl)

some_label_flags : TakesNoFlag some_label_at
unfolding unexpected
some_label_flags = ((unexpected places.Fixed [], refl), λ flag line more. (fault line (misfit places.Fixed (Word (flag_keyword flag))), refl))

narrowed : {A : Type 0} {E F G : Follow} {R : Reader A} → ((t : Token) → G t → F t) → Good E R F → Good E R G
narrowed {A} {E} {F} {G} {R} within r = record { sample = (r.sample.0, r.sample.1, λ ts next. r.sample.2 ts (next_map G F ts within next)); outcome = λ tokens e. outcome tokens (R tokens) (r.outcome tokens e); apart = r.apart }
  where
    begun : (front : List Placed) → CompletesBegun R F front → CompletesBegun R G front
    begun [] c = tt
    begun (t ∷ front) c = (c.0, c.1, λ ts next. c.2 ts (next_map G F ts within next))

    fits : (front : List Placed) (u : Token) → Fit E R F front u → Fit E R G front u
    fits front u fit = ((fit.0.0, fit.0.1, λ ts next. fit.0.2 ts (next_map G F ts within next)), fit.1)

    no_records : (H : Token → Type 0) (front : List Placed) → NoRecord (Fit E R F front) H → NoRecord (Fit E R G front) H
    no_records H front (inl fit) = inl (fits front a_group fit)
    no_records H front (inr h) = inr h

    records : (front : List Placed) (x : A) (rest : List Placed) → Next (λ t. begins_record t ≡ true → NoRecord (Fit E R F front) (Halts R front x)) rest → Next (λ t. begins_record t ≡ true → NoRecord (Fit E R G front) (Halts R front x)) rest
    records front x [] h = absurd h
    records front x ((l, t) ∷ rest) h = λ begins. no_records (Halts R front x) front (h begins)

    go_on : (front : List Placed) → Fit E R F front a_type ⊎ Fit E R F front a_pred → Fit E R G front a_type ⊎ Fit E R G front a_pred
    go_on front (inl fit) = inl (fits front a_type fit)
    go_on front (inr fit) = inr (fits front a_pred fit)

    fits_end : (front : List Placed) (v : Token) → FitsEnd E R F front v → FitsEnd E R G front v
    fits_end front v fit = ((fit.0.0, fit.0.1, λ ts next. fit.0.2 ts (next_map G F ts within next)), fit.1)

    no_value : (front : List Placed) {t : Token} {kind : IrFaultKind} → NoValue (Unit {0}) E R F front t kind → NoValue (Unit {0}) E R G front t kind
    no_value front (no_number digits width out fit bad) = no_number digits width out (λ other number is. fits_end front (Number other) (fit other number is)) bad
    no_value front (no_word w fit) = no_word w (fits_end front no_truth fit)
    no_value front (no_truth_value w bad) = no_truth_value w bad
    no_value front (no_group text) = no_group text
    no_value front (no_quoted text) = no_quoted text

    in_call : (front : List Placed) {t : Placed} {found : Fault IrFaultKind} → InCall (Unit {0}) E R F front t found → InCall (Unit {0}) E R G front t found
    in_call front (of_callee line at written one stands fit bad) = of_callee line at written one stands (fits front (Function one) fit) bad
    in_call front (of_value before line last end kind same ends none item fit why) = of_value before line last end kind same ends none (fits before a_group item) (fits_end before a_truth fit) (no_value before why)
    in_call front (of_truth line w item fit bad) = of_truth line w (fits front a_group item) (fits_end front a_truth fit) bad

    reasons : (front : List Placed) (t : Placed) (found : Fault IrFaultKind) → Reasons E R F front t found → Reasons E R G front t found
    reasons front t found (inl (same, why)) =
        inl (
          same,
          reason_map (Fit E R F front) (Fit E R G front) (Bad (Unit {0}) R front) (Bad (Unit {0}) R front) (Again E R F front) (Again E R G front)
              (RefusesAt R front) (RefusesAt R front) t.1
              (record { fits = fits front; bad = λ u b. b; repeats = λ w again. (again.0, go_on front again.1); records = λ begins none. no_records (RefusesAt R front) front none; groups = λ begins end none. none }) found.kind why,
        )
    reasons front t found (inr call) = inr (in_call front call)

    outcome : (tokens : List Placed) (q : Read A) → Outcome E R F (Reasons E R F) tokens q → Outcome E R G (Reasons E R G) tokens q
    outcome tokens (Ok x) o = record {
      front = o.front;
      there = o.there;
      ended = o.ended;
      stopped = o.stopped;
      halts = o.halts;
      records = records o.front x.0 x.1 o.records;
      groups = λ end. o.groups (within an_end end);
      words = o.words;
      follows = λ t g. o.follows t (within t g);
      completes = begun o.front o.completes;
      nothing = λ none t g. o.nothing none t (within t g);
    }
    outcome tokens (Err x) o = record {
      front = o.front;
      token = o.token;
      behind = o.behind;
      there = o.there;
      refused = o.refused;
      completes = begun o.front o.completes;
      why = reasons o.front o.token x o.why;
      new = o.new;
    }

labelled-good : Good (Tested parsing.is_label true) (some_label_at >>= block_behind) NotComma
labelled-good = closed then block_behind-good
  where
    closed : Good (Tested parsing.is_label true) some_label_at NotLabel
    closed = one_token (Label (codes "a"), refl, _, λ more. refl) some_label_flags (some_label_takes (Tested parsing.is_label true) NotLabel)

same_block : (tokens : List Placed) → parsing.is_label tokens ≡ true → parsing.block_at tokens ≡ (some_label_at >>= block_behind) tokens
unfolding parsing.block_at parsing.label_at
same_block ((line, Label written) ∷ rest) next = refl
same_block tokens next = absurd cc

pub label_is_no_comma : (t : Token) → Tested parsing.is_label true t → NotComma t
label_is_no_comma (Label name) next = refl
label_is_no_comma t next = absurd cc

-- what may follow blocks
abbrev pub FollowsBlocks : Follow
FollowsBlocks t = NotLabel t × NotComma t

pub blocks-good : Good Anything parsing.blocks_at FollowsBlocks
unfolding parsing.blocks_at
blocks-good = block-good then (λ first. others (first ∷ []))
  where
    labelled : (tokens : List Placed) → Ended tokens → parsing.is_label tokens ≡ true → Outcome (Tested parsing.is_label true) parsing.block_at NotComma (Reasons (Tested parsing.is_label true) parsing.block_at NotComma) tokens (parsing.block_at tokens)
    labelled tokens e next =
        subst (Outcome (Tested parsing.is_label true) parsing.block_at NotComma (Reasons (Tested parsing.is_label true) parsing.block_at NotComma) tokens) (sym (same_block tokens next))
        (reasons_transferred parsing.is_label label_next true (some_label_at >>= block_behind) parsing.block_at same_block (Unit {0}) (Unit {0}) (Unit {0}) (λ v. v) label_open (Tested parsing.is_label true) (Tested parsing.is_label true) NotComma (λ t begins says. let r = label_records true t begins says in (inr r.0, λ end. r.1)) (λ t d. d) (λ t d. d) tokens next ((some_label_at >>= block_behind) tokens) (labelled-good.outcome tokens e))

    others : (front : List RawBlock) → Good NotComma (each_at parsing.is_label parsing.block_at front) FollowsBlocks
    others front = each-good (Unit {0}) NotComma parsing.is_label parsing.block_at (record { asks = label_next; takes = block-takes; ends = λ t f. f.0; ends_part = λ t f. f.1; next_ends_part = label_is_no_comma; opens = label_open; shuts = label_shut; records = λ a b t begins h. let r = label_records b t begins h in (inr r.0, λ end. r.1) }) block-good.apart labelled (λ t f. f.1) label_is_no_comma front

-- ---- parameters

name_stops : {t u : Token} → Like (Unit {0}) t u → StopsEach parsing.parameter_name_at [] None u
unfolding parsing.parameter_name_at
name_stops (like_word v w other noun) = λ l more. refl
name_stops (like_type m other width begins is) = λ l more. refl
name_stops (like_function written other) = λ l more. refl
name_stops (like_width w other width out is) = λ l more. refl
name_stops (like_number digits other) = λ l more. refl

parameter_name_takes : (W : Why) (line : ℕ) (t : Token) → MayTake parsing.parameter_name_at W None line t
unfolding parsing.parameter_name_at
parameter_name_takes W line (Register name) = may_take (takes _ refl (λ more. refl))
parameter_name_takes W line t = leaves (λ l more. refl) (λ u like. name_stops like) (λ begins. (λ ending l more. refl, λ text l more. refl))

no_name : (t : Token) → NotRegister t → StopsEach parsing.parameter_name_at [] None t
unfolding parsing.parameter_name_at
no_name (Register name) none = absurd cc
no_name t none = λ l more. refl

-- what may follow a parameter, and parameters
abbrev pub FollowsParameter : Follow
FollowsParameter t = FollowsLast t × NotRegister t

abbrev FollowsParameters : Follow
FollowsParameters t = FollowsParameter t × NotComma t

name_leaves_flags : LeavesFlags parsing.parameter_name_at None
unfolding parsing.parameter_name_at
name_leaves_flags = (refl, λ flag l more. refl)

pub parameter_name-good : Good FollowsLast parsing.parameter_name_at FollowsParameter
parameter_name-good = token_or_none None (λ t f. no_name t f.1) (λ t f. f.0) name_leaves_flags (parameter_name_takes _)

pub parameter-good : {E : Follow} → E a_type → Good E parsing.parameter_at FollowsParameter
unfolding parsing.parameter_at
parameter-good e = type-good e then (λ width. last_items-good then (λ items. parameter_name-good then (λ name. done-good (λ t f. f) _)))

pub further_parameter-good : {E : Follow} → E (Mark marks.comma) → Good E parsing.further_parameter_at FollowsParameter
unfolding parsing.further_parameter_at
further_parameter-good e = mark-good marks.comma e then (λ u. parameter-good tt)

-- a mark other than `=` may follow a parameter
pub mark_follows : (m wanted : ℕ) → eqb m wanted ≡ true → eqb wanted marks.equals ≡ false → FollowsParameter (Mark m)
mark_follows m wanted is other = (((refl, subst (λ (n : ℕ). eqb n marks.equals ≡ false) (sym (eqb-true m wanted is)) other), refl), refl)

comma_follows : (t : Token) → Tested (is_mark marks.comma) true t → FollowsParameter t
comma_follows (Mark m) next = mark_follows m marks.comma next refl
comma_follows t next = absurd cc

-- the mark that closes parameters
abbrev ClosesList : Follow
ClosesList = Tested (is_mark marks.close_paren) true

close_follows : (t : Token) → ClosesList t → FollowsParameters t
close_follows (Mark m) next = (mark_follows m marks.close_paren next refl, subst (λ (n : ℕ). eqb n marks.comma ≡ false) (sym (eqb-true m marks.close_paren next)) refl)
close_follows t next = absurd cc

some_parameters-good : {E : Follow} → E a_type → Good E parsing.some_parameters_at FollowsParameters
unfolding parsing.some_parameters_at
some_parameters-good e = parameter-good e then (λ first. others (first ∷ []))
  where
    others : (front : List RawParameter) → Good FollowsParameter (each_at (is_mark marks.comma) parsing.further_parameter_at front) FollowsParameters
    others front =
        each-good (Unit {0}) FollowsParameter (is_mark marks.comma) parsing.further_parameter_at
        (record { asks = mark_next marks.comma; takes = parameter-takes; ends = λ t f. f.1; ends_part = λ t f. f.0; next_ends_part = comma_follows; opens = mark_open marks.comma refl; shuts = mark_shut marks.comma; records = λ a b t begins h. let r = mark_records marks.comma refl b t begins h in (inr r.0, λ end. r.1) })
        (further_parameter-good {E = Anything} tt).apart (λ tokens e next. (further_parameter-good {E = Tested (is_mark marks.comma) true} refl).outcome tokens e) (λ t f. f.0) comma_follows front

pub parameter_list-good : Good Anything parsing.parameter_list_at ClosesList
unfolding parsing.parameter_list_at
parameter_list-good = either-good (is_mark marks.close_paren) (mark_next marks.close_paren) (mark_open marks.close_paren refl) (mark_shut marks.close_paren) (mark_records marks.close_paren refl) (done-good (λ t is. (tt, is)) []) (narrowed close_follows (some_parameters-good (tt, refl)))

pub parameters-good : Good Anything parsing.parameters_at Anything
unfolding parsing.parameters_at
parameters-good = mark-good marks.open_paren tt then (λ u. parameter_list-good then (λ parameters. mark-good marks.close_paren refl then (λ v. done-good (λ t f. tt) _)))

-- ---- functions

-- a name of a function
abbrev a_function : Token
a_function = Function (codes "f")

abbrev is_function : Token → Bool
is_function (Function written) = true
is_function t = false

function_name_bad : {t u : Token} → is_function t ≡ false → Like (Unit {0}) t u → Bad (Unit {0}) parsing.function_name_at [] t u
unfolding parsing.function_name_at unexpected
function_name_bad none (like_word v w other noun) = (λ more. (fault 0 (misfit places.Fixed (Word other)), refl), λ empty. like_word v w other noun)
function_name_bad none (like_type m other width begins is) = (λ more. (fault 0 (misfit places.Fixed (Word other)), refl), λ empty. like_type m other width begins is)
function_name_bad none (like_function written other) = absurd cc
function_name_bad none (like_width w other width out is) = (λ more. (fault 0 (misfit places.Fixed (Word other)), refl), λ empty. like_width w other width out is)
function_name_bad none (like_number digits other) = (λ more. (fault 0 (misfit places.Fixed (Number other)), refl), λ empty. like_number digits other)

-- `@f` is no intrinsic
no_intrinsic : callee_named (identifier_of (codes "f")) ≡ None
unfolding identifier_of name_of bytes.is_digit intrinsic_in
no_intrinsic = refl

function_name_takes : (E F : Follow) → Fit E parsing.function_name_at F [] a_function → (line : ℕ) (t : Token) → Takes parsing.function_name_at (Reasons E parsing.function_name_at F) line t
unfolding parsing.function_name_at unexpected
function_name_takes E F fit line (Function written) = by (identifier_of written) refl
  where
    by : (i : Identifier) → identifier_of written ≡ i → Takes parsing.function_name_at (Reasons E parsing.function_name_at F) line (Function written)
    by (Named name) h = takes (line, name) refl (λ more. rw h refl)
    by (Numbered n) h = refuses (fault line (LeftOut (codes "@"))) (inl (refl, (function_reason (Fit E parsing.function_name_at F []) (Bad (Unit {0}) parsing.function_name_at []) (Again E parsing.function_name_at F []) (RefusesAt parsing.function_name_at []) written (codes "f") no_intrinsic fit))) (λ more. rw h refl)
function_name_takes E F fit line t = refuses (fault line (misfit places.Fixed t)) (inl (refl, (fixed_reason (Fit E parsing.function_name_at F []) (Bad (Unit {0}) parsing.function_name_at []) (Again E parsing.function_name_at F []) (RefusesAt parsing.function_name_at []) t (λ u like. function_name_bad refl like, λ begins. inr (λ ending more. (fault 0 (misfit places.Fixed (Word (ending_word ending))), refl)))))) (λ more. refl)

function_name_flags : TakesNoFlag parsing.function_name_at
unfolding parsing.function_name_at unexpected
function_name_flags = ((unexpected places.Fixed [], refl), λ flag line more. (fault line (misfit places.Fixed (Word (flag_keyword flag))), refl))

pub function_name-good : Good Anything parsing.function_name_at Anything
unfolding parsing.function_name_at identifier_of name_of bytes.is_digit
function_name-good = one_token (a_function, tt, _, λ more. refl) function_name_flags (function_name_takes Anything Anything (fits_alone Anything parsing.function_name_at Anything a_function (0, codes "f") tt (λ more. refl)))

-- what may follow attachments
abbrev pub FollowsAttachments : Follow
FollowsAttachments t = FollowsLast t × NotMetadata t

pub metadata_follows : (t : Token) → Tested is_metadata true t → FollowsLast t
metadata_follows (Metadata text) next = ((refl, tt), refl)
metadata_follows t next = absurd cc

pub body-good : Good FollowsLast parsing.body_at Anything
unfolding parsing.body_at
body-good = attachments then (λ u. mark-good marks.open_brace (((refl, refl), refl), refl) then (λ v. blocks-good then (λ blocks. mark-good marks.close_brace (refl, refl) then (λ w. done-good (λ t f. tt) _))))
  where
    attachments : Good FollowsLast attachments_at FollowsAttachments
    attachments = attachments-good (λ t f. f.1) (λ t f. f.0) metadata_follows

pub function-good : Good Anything parsing.function_at Anything
unfolding parsing.function_at is_item_word type_in bytes.is_digit
function-good =
    items-good then (λ before. type-good (refl, tt) then (λ width. function_name-good then (λ name. parameters-good then (λ parameters. last_items-good then (λ after. body-good then (λ blocks. done-good (λ t f. tt) _))))))

-- ---- parsers that end with a token of their own

body-closes : Closes parsing.body_at
unfolding parsing.body_at
body-closes =
    closes_behind (attachments-good {E = Anything} {F = NotMetadata} (λ t f. f) (λ t f. tt) (λ t n. tt))
    (λ u. closes_behind (mark-good {E = Anything} marks.open_brace tt) (λ v. closes_behind blocks-good (λ blocks. closes_done (mark_closes marks.close_brace) (λ w. blocks))))

pub function-closes : Closes parsing.function_at
unfolding parsing.function_at
function-closes =
    closes_behind items-good
    (λ before. closes_behind (type-good {V = Unit {0}} {E = Anything} tt)
    (λ width. closes_behind function_name-good (λ name. closes_behind parameters-good (λ parameters. closes_behind last_items-good (λ after. closes_done body-closes _)))))
