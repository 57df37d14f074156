-- Viable prefixes of the arguments of calls.
use Rattle.ir_viable_prefixes.proofs.Common.{◌≡◌, ℕ, suc, Bool, true, false, cond, List, [], ◌∷◌, ◌++◌, length, Option, Some, None, Ok, Err, refl, sym, ap, subst, ◌∙◌, ◌⊎◌, inl, inr, append_assoc, arith, codes, Flag, Nuw, Nsw, Exact, NNeg, Disjoint, SameSign, flag_keyword, Unary, has_truth, identifier_of, Token, Placed, Word, Number, Register, Function, Group, Quoted, RawOperand, RawValue, TypedOperand, Fault, IrFaultKind, Syntax, LeftOut, Intrinsic, begins_inner_item, ends_argument, inner_items_at, argument_at, no_truth_kind, truth_value_at, truth_argument_at, further_truth_at, truth_at, two_arguments_at, one_argument_at, arguments_at, SpellsOperand, IsValueToken, begins_item, item_at, is_item_word, IsTypeWord, type_in, truth_in, value_in, leaves_out, Read, Reader, fault, unexpected, goes_on, ◌>>=◌, done, each_at, inner_items_at-is, truth_value_at-is, same_behind, operand_at-is, bind_ok, type_in-of, EndsArgument, comma}
use Rattle.ir_tokens.specs.declared.raw.RawValue.TheVariants as values
use Rattle.ir_instructions.specs.declared.place.Expected.TheVariants as places
use Rattle.ir_instructions.specs.declared.intrinsic.Intrinsic.TheVariants as intrinsics
use Rattle.ir_instructions.specs.Places.{misfit}
use Rattle.ir_instructions.specs.TokenReaders.{type_at, operand_at}
use Rattle.ir_instructions.specs.Punctuation as marks
use Rattle.ir_viable_prefixes.specs.Misfits as nouns
use Rattle.ir_viable_prefixes.proofs.Choices.{same-good}
use Rattle.ir_viable_prefixes.proofs.FlagRuns.{NoFlag, NoFlagLast, ReadsApart}
use Rattle.ir_viable_prefixes.proofs.Items.{choice_left, fixed_left, syntax_left, one_more}
use Rattle.ir_viable_prefixes.proofs.Outcomes.{Again, Follow, Anything, Fit, RefusesAt, RefusesEach, Bad, a_truth, no_truth, of_truth, Reasons, Takes, takes, refuses, refuses_by, outcome_map, Good, done-good, ◌then◌}
use Rattle.ir_viable_prefixes.proofs.Reasons.{a_type, like_word, word_reason, fixed_reason, choice_reason}
use Rattle.ir_viable_prefixes.proofs.TokenReaders.{no_number, operand_no_type, type_is_no_truth, other_bad, types_bad, mark-good, type-good}
use Rattle.ir_viable_prefixes.proofs.Values.{In, IsValue, IsNone, IsNoneBy, operands, truths, ReadsValue, none_before, no_item, last, value_end, none_end, fit_truth, fit_group, ValueWhy, value_outcome}

-- ---- values

pub operand_reads : (width : ℕ) → ReadsValue (operand_at width) width
unfolding operand_at value_in truth_in unexpected misfit leaves_out
operand_reads width = record {
  truth = λ line. (record { line = line; value = values.True }, λ more. refl);
  words = operands (λ line. (record { line = line; value = values.Undef }, λ more. refl)) (λ w. by w (value_in w) refl);
  number = λ digits n is line. (record { line = line; value = values.Number n }, λ more. rw is refl);
  no_number = λ digits none line more. rw none refl;
  group = λ text line more. refl;
  quoted = λ text line more. refl;
  mark = λ m line more. refl;
  kept = λ text line more. refl;
  shorter = λ tokens x is. let s = operand_at-is width tokens x is in omega (arith, ap length s.2);
}
  where
    by : (w : List ℕ) (value : Option RawValue) → value_in w ≡ value → IsValue (operand_at width) (Word w) ⊎ IsNone (operand_at width) (Word w) (LeftOut w)
    by w (Some value) h = inl (λ line. (record { line = line; value = value }, λ more. rw h refl))
    by w None h = inr (λ line more. rw h refl)

pub truth_reads : (width : ℕ) → ReadsValue (truth_value_at width) width
unfolding truth_value_at truth_in unexpected misfit leaves_out
truth_reads width = record {
  truth = λ line. (record { line = line; value = values.True }, λ more. refl);
  words = truths (λ line more. refl) (λ w. by w (truth_in w) refl);
  number = λ digits n is line. (record { line = line; value = values.Number n }, λ more. rw is refl);
  no_number = λ digits none line more. rw none refl;
  group = λ text line more. refl;
  quoted = λ text line more. refl;
  mark = λ m line more. refl;
  kept = λ text line more. refl;
  shorter = λ tokens x is. let s = truth_value_at-is width tokens x is in omega (arith, ap length s.1.2);
}
  where
    by : (w : List ℕ) (value : Option RawValue) → truth_in w ≡ value → IsValue (truth_value_at width) (Word w) ⊎ IsNoneBy (truth_value_at width) (Word w) (no_truth_kind w)
    by w (Some value) h = inl (λ line. (record { line = line; value = value }, λ more. rw h refl))
    by w None h = inr (λ line more. rw h refl)

-- ---- tokens that are no items

is_one : (b : Bool) → b ≡ true → b ≡ false → ⊥
is_one b holds fails = cc

flag_is_item : (flag : Flag) → is_item_word (flag_keyword flag) ≡ true
unfolding is_item_word type_in
flag_is_item Nuw = refl
flag_is_item Nsw = refl
flag_is_item Exact = refl
flag_is_item NNeg = refl
flag_is_item Disjoint = refl
flag_is_item SameSign = refl

no_flag : (w : List ℕ) → is_item_word w ≡ false → NoFlag (Word w)
no_flag w none flag same = let is : w ≡ flag_keyword flag = cc in is_one (is_item_word w) (subst (λ (v : List ℕ). is_item_word v ≡ true) (sym is) (flag_is_item flag)) none

type_is_no_item : (w : List ℕ) (n : ℕ) → IsTypeWord w n → is_item_word w ≡ false
unfolding is_item_word
type_is_no_item w n is = rw (type_in-of w n is) refl

operand_alone : (width : ℕ) (items : List (List ℕ)) (l : ℕ) (t : Token) → begins_item ((l, t) ∷ []) ≡ false → Takes (In (operand_at width) items) (ValueWhy (operand_at width) width (operand_reads width) items) l t
unfolding operand_at unexpected
operand_alone width items l (Number digits) none = absurd cc
operand_alone width items l (Group text) none = absurd cc
operand_alone width items l (Quoted text) none = absurd cc
operand_alone width items l (Register written) none = takes (record { line = l; value = values.Register (identifier_of written) }) refl (λ more. no_item (operand_at width) items (l, Register written) more refl)
operand_alone width items l (Word w) none = by (value_in w) refl
  where
    types : (v : List ℕ) (n : ℕ) → IsTypeWord v n → RefusesEach (In (operand_at width) items) (Word v)
    types v n is line more = let r = operand_no_type width v n is line more in (r.0, no_item (operand_at width) items (line, Word v) more (type_is_no_item v n is) ∙ r.1)

    by : (value : Option RawValue) → value_in w ≡ value → Takes (In (operand_at width) items) (ValueWhy (operand_at width) width (operand_reads width) items) l (Word w)
    by (Some value) h = takes (record { line = l; value = value }) refl (λ more. no_item (operand_at width) items (l, Word w) more none ∙ rw h refl)
    by None h =
        refuses (fault l (LeftOut w)) (
          inl (
            refl,
            word_reason (Fit Anything (In (operand_at width) items) EndsArgument []) (Bad (Unit {0}) (In (operand_at width) items) []) (Again Anything (In (operand_at width) items) EndsArgument []) (RefusesAt (In (operand_at width) items) []) w (codes "true") (nouns.value 1 values.True refl)
                (fit_truth (operand_at width) width (operand_reads width) items) (λ u ws. types_bad (In (operand_at width) items) types ws),
          ),
          λ left. no_flag w none,
        )
        (λ more. no_item (operand_at width) items (l, Word w) more none ∙ rw h refl)
operand_alone width items l t none =
    refuses (fault l (misfit places.Choice t)) (
      inl (
        refl,
        choice_reason (Fit Anything (In (operand_at width) items) EndsArgument []) (Bad (Unit {0}) (In (operand_at width) items) []) (Again Anything (In (operand_at width) items) EndsArgument []) (RefusesAt (In (operand_at width) items) []) t refl (
          λ u like. other_bad (In (operand_at width) items) refl
              (λ v n is line more. let r = operand_no_type width v n is line more in (r.0, no_item (operand_at width) items (line, Word v) more (type_is_no_item v n is) ∙ r.1))
              (λ f line more. (fault line (misfit places.Choice (Function f)), no_item (operand_at width) items (line, Function f) more refl)) (λ digits n is. absurd (no_number t digits refl is)) like,
          λ begins. inl (fit_group (operand_at width) width (operand_reads width) items),
        ),
      ),
      λ left. absurd (choice_left t refl left),
    )
    (λ more. no_item (operand_at width) items (l, t) more refl)

truth_alone : (width : ℕ) (items : List (List ℕ)) (l : ℕ) (t : Token) → begins_item ((l, t) ∷ []) ≡ false → Takes (In (truth_value_at width) items) (ValueWhy (truth_value_at width) width (truth_reads width) items) l t
unfolding truth_value_at truth_in unexpected
truth_alone width items l (Number digits) none = absurd cc
truth_alone width items l (Group text) none = absurd cc
truth_alone width items l (Quoted text) none = absurd cc
truth_alone width items l (Word w) none = by (truth_in w) refl
  where
    types : (v : List ℕ) (n : ℕ) → IsTypeWord v n → RefusesEach (In (truth_value_at width) items) (Word v)
    types v n is line more = (fault line (no_truth_kind v more), no_item (truth_value_at width) items (line, Word v) more (type_is_no_item v n is) ∙ rw (type_is_no_truth v n is) refl)

    by : (value : Option RawValue) → truth_in w ≡ value → Takes (In (truth_value_at width) items) (ValueWhy (truth_value_at width) width (truth_reads width) items) l (Word w)
    by (Some value) h = takes (record { line = l; value = value }) refl (λ more. no_item (truth_value_at width) items (l, Word w) more none ∙ rw h refl)
    by None h = refuses_by (λ more. of more (ends_argument more) refl)
      where
        at_end : IsNoneBy (truth_value_at width) no_truth (no_truth_kind (codes "undef"))
        at_end line more = refl

        of : (more : List Placed) (ends : Bool) → ends_argument more ≡ ends
            → (e : Fault IrFaultKind) × ValueWhy (truth_value_at width) width (truth_reads width) items [] (l, Word w) e × (In (truth_value_at width) items ((l, Word w) ∷ more) ≡ Err e)
        of more true last_end = (
          fault l Syntax,
          (
            inr (of_truth l w (fit_group (truth_value_at width) width (truth_reads width) items) (value_end (truth_value_at width) width (truth_reads width) items a_truth (λ line. (record { line = line; value = values.True }, λ ts. refl)))
                (none_end (truth_value_at width) width (truth_reads width) items (Word w) no_truth Syntax (like_word tt w (codes "undef") (nouns.value 1 values.Undef refl)) (none_before (truth_value_at width) (codes "undef") at_end))),
            λ left. absurd (syntax_left left),
          ),
          no_item (truth_value_at width) items (l, Word w) more none ∙ rw (h, last_end) refl,
        )
        of more false going = (
          fault l (LeftOut w),
          (
            inl (
              refl,
              word_reason (Fit Anything (In (truth_value_at width) items) EndsArgument []) (Bad (Unit {0}) (In (truth_value_at width) items) []) (Again Anything (In (truth_value_at width) items) EndsArgument []) (RefusesAt (In (truth_value_at width) items) []) w (codes "true") (nouns.value 1 values.True refl)
                  (fit_truth (truth_value_at width) width (truth_reads width) items) (λ u ws. types_bad (In (truth_value_at width) items) types ws),
            ),
            λ left. no_flag w none,
          ),
          no_item (truth_value_at width) items (l, Word w) more none ∙ rw (h, going) refl,
        )
truth_alone width items l t none =
    refuses (fault l (misfit places.Fixed t)) (
      inl (
        refl,
        fixed_reason (Fit Anything (In (truth_value_at width) items) EndsArgument []) (Bad (Unit {0}) (In (truth_value_at width) items) []) (Again Anything (In (truth_value_at width) items) EndsArgument []) (RefusesAt (In (truth_value_at width) items) []) t (
          λ u like. other_bad (In (truth_value_at width) items) refl
              (λ v n is line more. (fault line (no_truth_kind v more), no_item (truth_value_at width) items (line, Word v) more (type_is_no_item v n is) ∙ rw (type_is_no_truth v n is) refl))
              (λ f line more. (fault line (misfit places.Fixed (Function f)), no_item (truth_value_at width) items (line, Function f) more refl)) (λ digits n is. absurd (no_number t digits refl is)) like,
          λ begins. inl (fit_group (truth_value_at width) width (truth_reads width) items),
        ),
      ),
      λ left. absurd (fixed_left t left),
    )
    (λ more. no_item (truth_value_at width) items (l, t) more refl)

-- ---- values behind items

last_token : (front : List Placed) (t : Placed) → NoFlag t.1 → NoFlagLast (front ++ t ∷ [])
last_token [] t none = none
last_token (u ∷ []) t none = none
last_token (u ∷ v ∷ front) t none = last_token (v ∷ front) t none

-- no keyword of a flag is a value
flag_is_no_value : (flag : Flag) → value_in (flag_keyword flag) ≡ None
unfolding value_in truth_in
flag_is_no_value Nuw = refl
flag_is_no_value Nsw = refl
flag_is_no_value Exact = refl
flag_is_no_value NNeg = refl
flag_is_no_value Disjoint = refl
flag_is_no_value SameSign = refl

value_of : Token → Option RawValue
value_of (Word w) = value_in w
value_of t = None

named_is_no_flag : (w : List ℕ) (value : RawValue) → value_in w ≡ Some value → NoFlag (Word w)
unfolding value_of value_in
named_is_no_flag w value some flag same = let both : value_of (Word w) ≡ None = ap value_of same ∙ flag_is_no_value flag in cc

value_is_no_flag : (width : ℕ) (value : RawValue) (t : Token) → IsValueToken width value t → NoFlag t
unfolding value_in truth_in
value_is_no_flag width (values.Register name) t (written, same, is) flag other = let both : Register written ≡ Word (flag_keyword flag) = sym is ∙ other in cc
value_is_no_flag width (values.Number n) t (digits, constant, is) flag other = let both : Number digits ≡ Word (flag_keyword flag) = sym is ∙ other in cc
value_is_no_flag width values.True t is flag other = named_is_no_flag (codes "true") values.True refl flag (sym is ∙ other)
value_is_no_flag width values.False t is flag other = named_is_no_flag (codes "false") values.False refl flag (sym is ∙ other)
value_is_no_flag width values.Undef t is flag other = named_is_no_flag (codes "undef") values.Undef refl flag (sym is ∙ other)
value_is_no_flag width values.Poison t is flag other = named_is_no_flag (codes "poison") values.Poison refl flag (sym is ∙ other)

in_apart : (Q : Reader RawOperand) (width : ℕ) → ((tokens : List Placed) (x : RawOperand × List Placed) → Q tokens ≡ Ok x → SpellsOperand width x.0 tokens x.1) → ReadsApart (In Q [])
unfolding inner_items_at
in_apart Q width spelled tokens x is =
    let one = bind_ok (each_at begins_inner_item item_at [] tokens) (λ before. Q) x is in
    let items = inner_items_at-is tokens one.0 one.1 in
    let m = one_more items.0 [] tokens one.0.1 items.1 in
    let (t, value, same) = spelled one.0.1 x one.2 in
    (m.0 ++ (x.0.line, t) ∷ [], m.1 ∙ ap (λ (ts : List Placed). m.0 ++ ts) same ∙ sym (append_assoc m.0 ((x.0.line, t) ∷ []) x.1), inl (last_token m.0 (x.0.line, t) (value_is_no_flag width x.0.value t value)))

in_good : (Q : Reader RawOperand) (width : ℕ) (q : ReadsValue Q width) → ((items : List (List ℕ)) (l : ℕ) (t : Token) → begins_item ((l, t) ∷ []) ≡ false → Takes (In Q items) (ValueWhy Q width q items) l t)
    → ((tokens : List Placed) (x : RawOperand × List Placed) → Q tokens ≡ Ok x → SpellsOperand width x.0 tokens x.1) → Good Anything (In Q []) EndsArgument
in_good Q width q alone spelled =
    let x = q.truth 0 in
    record {
      sample = (x.0, (0, a_truth) ∷ [], λ ts ends. (last Q [] (0, a_truth) ts ends ∙ x.1 ts, tt));
      outcome = λ tokens e.
          outcome_map (Unit {0}) Anything (In Q []) EndsArgument (Unit {0}) (ValueWhy Q width q []) (Reasons Anything (In Q []) EndsArgument) (λ front t found why. why.0) tokens (In Q [] tokens)
          (value_outcome Q width q alone (suc (length tokens)) [] tokens (omega arith) e);
      apart = in_apart Q width spelled;
    }

pub operand_in-good : (width : ℕ) → Good Anything (In (operand_at width) []) EndsArgument
operand_in-good width = in_good (operand_at width) width (operand_reads width) (operand_alone width) (operand_at-is width)

pub truth_in-good : (width : ℕ) → Good Anything (In (truth_value_at width) []) EndsArgument
truth_in-good width = in_good (truth_value_at width) width (truth_reads width) (truth_alone width) (λ tokens x is. (truth_value_at-is width tokens x is).1)

-- ---- arguments

assoc : {A B C : Type 0} (r : Read A) (f : A → Reader B) (g : B → Reader C) → goes_on (goes_on r f) g ≡ goes_on r (λ x. f x >>= g)
assoc (Ok x) f g = refl
assoc (Err e) f g = refl

abbrev pub typed : ℕ → RawOperand → TypedOperand
typed width operand = record { width = width; operand = operand }

pub argument_from : (tokens : List Placed) → argument_at tokens ≡ (type_at >>= λ width. In (operand_at width) [] >>= λ operand. done (typed width operand)) tokens
unfolding argument_at inner_items_at
argument_from tokens = same_behind (type_at tokens) _ _ (λ x is. sym (assoc (each_at begins_inner_item item_at [] x.1) (λ before. operand_at x.0) (λ operand. done (typed x.0 operand))))

pub truth_argument_from : (tokens : List Placed) → truth_argument_at tokens ≡ (type_at >>= λ width. In (truth_value_at width) [] >>= λ operand. done (typed width operand)) tokens
unfolding truth_argument_at inner_items_at
truth_argument_from tokens = same_behind (type_at tokens) _ _ (λ x is. sym (assoc (each_at begins_inner_item item_at [] x.1) (λ before. truth_value_at x.0) (λ operand. done (typed x.0 operand))))

pub argument-good : {E : Follow} → E a_type → Good E argument_at EndsArgument
argument-good e = same-good argument_from (type-good e then (λ width. operand_in-good width then (λ operand. done-good (λ t f. f) (typed width operand))))

pub truth_argument-good : {E : Follow} → E a_type → Good E truth_argument_at EndsArgument
truth_argument-good e = same-good truth_argument_from (type-good e then (λ width. truth_in-good width then (λ operand. done-good (λ t f. f) (typed width operand))))

further_truth-good : Good EndsArgument further_truth_at EndsArgument
unfolding further_truth_at
further_truth-good = mark-good marks.comma comma then (λ u. truth_argument-good tt then (λ truth. done-good (λ t f. f) (Some truth)))

pub truth-good : (op : Unary) → Good EndsArgument (truth_at op) EndsArgument
unfolding truth_at
truth-good op = by (has_truth op) refl
  where
    by : (b : Bool) → has_truth op ≡ b → Good EndsArgument (λ tokens. cond (has_truth op) (further_truth_at tokens) (Ok (None, tokens))) EndsArgument
    by true h = same-good (λ tokens. rw h refl) further_truth-good
    by false h = same-good (λ tokens. rw h refl) (done-good (λ t f. f) None)

pub arguments-good : (what : Intrinsic) → Good Anything (arguments_at what) EndsArgument
unfolding two_arguments_at one_argument_at
arguments-good (intrinsics.Binary op) = argument-good tt then (λ left. mark-good marks.comma comma then (λ u. argument-good tt then (λ right. done-good (λ t f. f) _)))
arguments-good (intrinsics.Unary op) = argument-good tt then (λ operand. truth-good op then (λ truth. done-good (λ t f. f) _))
