-- At which token the fault of a text is.
use Rattle.ir_viable_prefixes.proofs.Common.{◌≡◌, ◌≢◌, ◌≤◌, ℕ, Bool, true, false, List, [], ◌∷◌, ◌++◌, length, Result, Ok, Err, refl, sym, ap, subst, ◌∙◌, ◌⊎◌, inl, inr, append_assoc, arith, append-nil, codes, Option, Some, None, IsSome, is_some, Identifier, Named, Numbered, identifier_of, constant_of, Section, TextsHaveOneListOfTokens, line_at, between, TokenKind, IsTokenAt, itself, kept_line, kept_group, unclosed, bad_byte, TokensFrom, AreTokens, Token, Placed, End, Other, Word, Number, Function, Group, Mark, token_of, is_last, RawEntry, RawModule, IrFaultKind, BadByte, Syntax, LeftOut, Width, ConstRange, Fault, Unreachable, Intrinsic, callee_named, intrinsic_in, intrinsic_in-is, intrinsic_in-of, begins_record, begins_type, leaves_out, Read, ending_word, Eq, predicate_keyword, SpellsModule, ModulesAreReadAsSpelled, entries_at, module_from, module_of, most_bytes, IsTextFault, too_long, Fits, FitsBehind, AttributesFit, NamesIntrinsic, CalleeFits, EndsArgument, ValueFits, IsNoValue, IsToldInCall, IsSaid, of_token, in_call, IsFirstMisfit, FaultsAreWhereTextsDoNotFit, TypeFits, TerminatorFits, AnotherFits, IsLeftOut, IsRepeated, IsNothingElse, IsWrongWidth, IsWrongNumber, IsMisfit}
use Rattle.ops.specs.Number.{Number as Numeral}
use Rattle.scan.specs.declared.ir.token.TokenKind.TheVariants as kinds
use Rattle.ir_tokens.specs.Order.{last, token}
use Rattle.ir_tokens.specs.Tokens.{Bad as Bad_token}
use Rattle.ir_instructions.specs.declared.place.Expected.TheVariants as places
use Rattle.ir_instructions.specs.Places.{misfit as misfit_at}
use Rattle.ir_parse.specs.Text.{misfit}
use Rattle.ir_viable_prefixes.specs.Calls as calls
use Rattle.ir_viable_prefixes.specs.Misfits as nouns
use Rattle.ir_viable_prefixes.proofs.Entries.{EndsAt, EndsText, OrEnds, entries_outcome, entries_sample}
use Rattle.ir_viable_prefixes.proofs.Outcomes.{Next, Anything, Ended, CompletesBegun, Fit, FitsEnd, RefusesAt, RefusesPlaced, RefusesEnd, Bad, Again, a_truth, no_truth, NoValue, no_number, no_word, no_truth_value, no_group, no_quoted, InCall, of_callee, of_value, of_truth, New, IsRefused, Outcome}
use Rattle.ir_viable_prefixes.proofs.Reasons.{a_type, a_pred, an_end, a_group, Reason, LeftOutBy, NoRecord, NoGroup, Widths, widths, Like, like_word, like_type, like_function, like_number}
use Rattle.ir_viable_prefixes.proofs.Reasons as reasons
use Rattle.ir_viable_prefixes.proofs.FlagRuns.{IsLeft}
use Rattle.ir_viable_prefixes.proofs.OneFault.{one_fault}
use Rattle.ir_viable_prefixes.proofs.OneKind.{EndsHaveNoNumbers, one_kind}
use Rattle.ir_viable_prefixes.proofs.Statements.{no_record}
use Rattle.ir_viable_prefixes.proofs.TextEnds.{UpTo, ended_before, is_left_out, refused_at_end, types_refused_at_end, numbers_refused_at_end, functions_refused_at_end}
use Rattle.ir_viable_prefixes.proofs.TokenReaders.{i8}
use Rattle.ir_viable_prefixes.proofs.Told.{CalleeAlone, told_alone, truth_stands, alone, begun_fits}

-- the line of a mark is at least 1
mark_line : (kind : TokenKind) (bytes text : List ℕ) (start mark : ℕ) → token_of kind bytes ≡ Mark mark → line_at kind text start ≢ 0
mark_line kinds.End bytes text start mark is = absurd cc
mark_line kind bytes text start mark is = λ none. omega arith

on_some_line : {text : List ℕ} {place : Section} {at end : ℕ} {t : Placed} → IsTokenAt text place at t end → (mark : ℕ) → t.1 ≡ Mark mark → t.0 ≢ 0
on_some_line {text = text} (itself t next extent) mark is = λ none. mark_line t.kind (between text t.span.start t.span.end) text t.span.start mark is (sym next.line ∙ none)
on_some_line (kept_line t rest next extent kept) mark is = absurd cc
on_some_line (kept_group t rest next extent group) mark is = absurd cc
on_some_line (unclosed t next extent none) mark is = absurd cc
on_some_line (bad_byte line bad) mark is = absurd cc

-- the last token of a text is its end, or one that the grammar allows nowhere
tokens_end : {text : List ℕ} {place : Section} {at : ℕ} {tokens : List Placed} → TokensFrom text place at tokens → Ended tokens
tokens_end (last one end) = end
tokens_end (token one going (last next end)) = (going, end, on_some_line one)
tokens_end (token one going (token next goes more)) = (going, tokens_end (token next goes more), on_some_line one)

-- tokens that the parser reads up to the end of a text are a viable prefix
read_to_end : ModulesAreReadAsSpelled → (front more : List Placed) (all : List RawEntry) → ((tokens : List Placed) → Next EndsText tokens → entries_at (front ++ (more ++ tokens)) ≡ Ok (all, tokens)) → Fits front
read_to_end law front more all read =
    let end : List Placed = (0, End) ∷ [] in
    (more ++ end, record { entries = all }, (law (front ++ (more ++ end)) (record { entries = all })).0 (ap module_from (read end refl)))

front_fits : ModulesAreReadAsSpelled → (front : List Placed) → CompletesBegun entries_at EndsText front → Fits front
front_fits law [] c = let s = entries_sample in read_to_end law [] s.1 s.0 (λ ts next. (s.2 ts next).0)
front_fits law (t ∷ front) c = read_to_end law (t ∷ front) c.1 c.0 c.2

token_fits : ModulesAreReadAsSpelled → (front : List Placed) (t : Token) → Fit Anything entries_at EndsText front t → FitsBehind front t
token_fits law front t fit =
    read_to_end law (front ++ (0, t) ∷ []) fit.0.1 fit.0.0 (λ ts next. ap entries_at (append_assoc front ((0, t) ∷ []) (fit.0.1 ++ ts)) ∙ fit.0.2 ts next)

end_fits : ModulesAreReadAsSpelled → (front : List Placed) → EndsAt entries_at EndsText front → FitsBehind front End
end_fits law front (all, ends) =
    let text : List Placed = front ++ (0, End) ∷ [] in
    let spelled : SpellsModule (record { entries = all }) text = (law text (record { entries = all })).0 (ap module_from (ends End refl [])) in
    ([], record { entries = all }, subst (SpellsModule (record { entries = all })) (sym (append-nil text)) spelled)

-- ---- kinds

abbrev the_module : Result RawModule (Fault IrFaultKind) → Result RawModule (Fault IrFaultKind)
the_module r = r

-- the names of intrinsics are those that the parser accepts as callees
is_called : (written : List ℕ) → NamesIntrinsic written → IsSome (callee_named (identifier_of written))
is_called written (name, named, is, intrinsic) = rw (is, intrinsic_in-of name named intrinsic) refl

no_intrinsic : (written : List ℕ) → callee_named (identifier_of written) ≡ None → ¬ NamesIntrinsic written
no_intrinsic written none names = let some : is_some (callee_named (identifier_of written)) ≡ false = rw none refl in let called = is_called written names in cc

left_out_is : ModulesAreReadAsSpelled → (front : List Placed) {t : Token} → (begins_record t ≡ true → ¬ AttributesFit front) → LeftOutBy (Fit Anything entries_at EndsText front) t → IsLeftOut front t
left_out_is law front none (reasons.word w other noun fit) = nouns.another (nouns.of_word w (other, noun, token_fits law front (Word other) fit))
left_out_is law front none (reasons.mark_of_type t begins fit) = nouns.another (nouns.of_mark t begins (codes "i8", 8, i8, token_fits law front a_type fit))
left_out_is law front none (reasons.function written other other_name fit) = nouns.another (nouns.of_function written other (no_intrinsic other other_name) (token_fits law front (Function other) fit))
left_out_is law front none (reasons.mark_of_record t begins fit) = nouns.mark_of_record begins (Unreachable, token_fits law front an_end fit) (none begins)

-- a token that the parser refuses does not fit
bad_misfits : ModulesAreReadAsSpelled → (front : List Placed) (u : Token) → RefusesAt entries_at front u → ¬ FitsBehind front u
bad_misfits law front u refused (more, m, spelled) =
    let read : module_of ((front ++ (0, u) ∷ []) ++ more) ≡ Ok m = (law ((front ++ (0, u) ∷ []) ++ more) m).1 spelled in
    let same : (front ++ (0, u) ∷ []) ++ more ≡ front ++ (0, u) ∷ more = append_assoc front ((0, u) ∷ []) more in
    let r = refused more in
    let refusal : module_of (front ++ (0, u) ∷ more) ≡ Err r.0 = ap module_from r.1 in
    let both : the_module (Ok m) ≡ Err r.0 = sym read ∙ ap module_of same ∙ refusal in absurd cc

-- a word repeats a flag
abbrev AgainThere : List Placed → Token → Type 0
AgainThere front t = (w : List ℕ) × (t ≡ Word w) × Again Anything entries_at EndsText front w

again_is : ModulesAreReadAsSpelled → (front : List Placed) (t : Token) → AgainThere front t → IsRepeated front t
again_is law front t (w, is, (follows, inl fit)) = (w, is, follows, inl (codes "i8", 8, i8, token_fits law front a_type fit))
again_is law front t (w, is, (follows, inr fit)) = (w, is, follows, inr (Eq, token_fits law front a_pred fit))

-- a token that repeats no flag, or in whose place neither a type nor a predicate fits
no_repeat : ModulesAreReadAsSpelled → (front : List Placed) (t : Token) → New (Unit {0}) entries_at front t → ¬ IsRepeated front t
no_repeat law front t (inl new) (w, is, follows, fits) = new (w, is, follows)
no_repeat law front t (inr free) (w, is, follows, inl (other, width, type, fits)) = bad_misfits law front (Word other) (free.0 other width type).0 fits
no_repeat law front t (inr free) (w, is, follows, inr (pred, fits)) = bad_misfits law front (Word (predicate_keyword pred)) (free.1 pred).0 fits

none_else : ModulesAreReadAsSpelled → (front : List Placed) (t u : Token) → Bad (Unit {0}) entries_at front t u ⊎ AgainThere front t → FitsBehind front u → IsRepeated front t
none_else law front t u (inl bad) fit = absurd (bad_misfits law front u bad.0 fit)
none_else law front t u (inr again) fit = again_is law front t again

abbrev NoneLike : List Placed → Token → Type 0
NoneLike front t = (u : Token) → Like (Unit {0}) t u → Bad (Unit {0}) entries_at front t u ⊎ AgainThere front t

syntax_is : ModulesAreReadAsSpelled → (front : List Placed) {t : Token} → NoneLike front t → AnotherFits front t → IsRepeated front t
syntax_is law front h (nouns.of_word w (other, noun, fit)) = none_else law front (Word w) (Word other) (h (Word other) (like_word tt w other noun)) fit
syntax_is law front h (nouns.of_function written other other_name fit) = none_else law front (Function written) (Function other) (h (Function other) (like_function written other)) fit
syntax_is law front h (nouns.of_mark (Mark m) begins (other, width, is, fit)) = none_else law front (Mark m) (Word other) (h (Word other) (like_type m other width begins is)) fit
syntax_is law front h (nouns.of_mark t begins types) = absurd cc

no_attributes : ModulesAreReadAsSpelled → (front : List Placed) → NoGroup (RefusesAt entries_at front) → ¬ AttributesFit front
no_attributes law front refused (text, fits) = bad_misfits law front (Group text) (refused text) fits

-- a terminator fits only where a group of attributes does
terminator_is : ModulesAreReadAsSpelled → (front : List Placed) → NoRecord (Fit Anything entries_at EndsText front) (RefusesAt entries_at front) → TerminatorFits front → AttributesFit front
terminator_is law front (inl fit) ends = (codes "#0", token_fits law front a_group fit)
terminator_is law front (inr refused) (ending, fits) = absurd (bad_misfits law front (Word (ending_word ending)) (refused ending) fits)

-- where the text may end, a token that is refused has the fault of one that begins no entry
abbrev EndsLeaveOut : List Placed → Token → IrFaultKind → Type 0
EndsLeaveOut front t kind = is_last t ≡ false → FitsBehind front End → kind ≡ misfit_at places.Entry t

-- and no type fits there
abbrev EndsHaveNoTypes : List Placed → Type 0
EndsHaveNoTypes front = FitsBehind front End → TypeFits front → ⊥

-- no type fits in place of a word that would be one but for its width
no_width_is : ModulesAreReadAsSpelled → (front : List Placed) (t : Token) → ((u : Token) → Widths t u → Bad (Unit {0}) entries_at front t u) → ¬ IsWrongWidth front t
no_width_is law front t bad (w, is, out, (other, width, is_type, fits)) =
    bad_misfits law front (Word other) (bad (Word other) (subst (λ (v : Token). Widths v (Word other)) (sym is) (widths w other width out is_type))).0 fits

-- the reason of a refusal by the parser of modules
abbrev Said : List Placed → Token → IrFaultKind → Type 0
Said front t kind = Reason (Fit Anything entries_at EndsText front) (Bad (Unit {0}) entries_at front) (Again Anything entries_at EndsText front) (RefusesAt entries_at front) t kind

number_is : ModulesAreReadAsSpelled → (front : List Placed) (t : Token) → Said front t ConstRange → IsWrongNumber front t
number_is law front t (digits, width, is, out, fit, bad) = (digits, width, is, out, λ other. (fits_in other, in_fits other))
  where
    fits_in : (other : List ℕ) → FitsBehind front (Number other) → IsSome (constant_of other width)
    fits_in other fits = by (constant_of other width) refl
      where
        by : (number : Option Numeral) → constant_of other width ≡ number → is_some (constant_of other width) ≡ true
        by (Some number) h = rw h refl
        by None h = absurd (bad_misfits law front (Number other) (bad other h).0 fits)

    in_fits : (other : List ℕ) → IsSome (constant_of other width) → FitsBehind front (Number other)
    in_fits other some = by (constant_of other width) refl
      where
        by : (number : Option Numeral) → constant_of other width ≡ number → FitsBehind front (Number other)
        by (Some number) h = token_fits law front (Number other) (fit other number h)
        by None h = let none : is_some (constant_of other width) ≡ false = rw h refl in absurd cc

-- no other number fits
no_function_is : ModulesAreReadAsSpelled → (front : List Placed) {t : Token} → NoneLike front t → (written other : List ℕ) → t ≡ Function written → ¬ FitsBehind front (Function other)
no_function_is law front {t} h written other is fits = by (h (Function other) (subst (λ (v : Token). Like (Unit {0}) v (Function other)) (sym is) (like_function written other)))
  where
    by : Bad (Unit {0}) entries_at front t (Function other) ⊎ AgainThere front t → ⊥
    by (inl bad) = bad_misfits law front (Function other) bad.0 fits
    by (inr repeats) = let word = repeats.1 in absurd cc

no_number_is : ModulesAreReadAsSpelled → (front : List Placed) {t : Token} → NoneLike front t → (digits other : List ℕ) → t ≡ Number digits → ¬ FitsBehind front (Number other)
no_number_is law front {t} h digits other is fits = by (h (Number other) (subst (λ (v : Token). Like (Unit {0}) v (Number other)) (sym is) (like_number digits other)))
  where
    by : Bad (Unit {0}) entries_at front t (Number other) ⊎ AgainThere front t → ⊥
    by (inl bad) = bad_misfits law front (Number other) bad.0 fits
    by (inr repeats) = let word = repeats.1 in absurd cc

reason_is : ModulesAreReadAsSpelled → (front : List Placed) (t : Token) (kind : IrFaultKind) → EndsLeaveOut front t kind → (IsLeft kind → ¬ IsRepeated front t) → Said front t kind → IsMisfit front t kind
reason_is law front t BadByte ends new h = h
reason_is law front t Width ends new h = (h.0, h.1, h.2, (codes "i8", 8, i8, token_fits law front a_type h.3))
reason_is law front t ConstRange ends new h = number_is law front t h
reason_is law front t (LeftOut text) ends new h = (h.0, left_out_is law front (λ begins. no_attributes law front (h.3 begins)) h.1, no_width_is law front t h.2, new (text, refl))
reason_is law front t Syntax ends new h = record {
  no_bad_byte = h.2;
  another = syntax_is law front h.0;
  mark_of_record = λ begins. terminator_is law front (h.1 begins);
  number = no_number_is law front h.0;
  function = no_function_is law front h.0;
  entry = λ goes fits. is_left_out t goes (ends goes fits);
}
reason_is law front t kind ends new h = absurd h

-- the end, and a token that the grammar allows nowhere, have no others of their sort
last_none : {front : List Placed} {t : Token} → is_last t ≡ true → begins_type t ≡ false → AnotherFits front t → IsRepeated front t
last_none end none (nouns.of_word w fits) = absurd cc
last_none end none (nouns.of_mark t begins types) = absurd cc
last_none end none (nouns.of_function written other other_name fits) = absurd cc

last_is : {front : List Placed} {t : Token} → is_last t ≡ true → begins_type t ≡ false → ¬ (t ≡ Bad_token) → IsNothingElse front t
last_is {t = t} end none no_bad = record { no_bad_byte = no_bad; another = last_none end none; mark_of_record = λ begins. absurd (no_record t begins end); number = λ digits other is fits. is_one (is_last t) end (rw is refl); function = λ written other is fits. is_one (is_last t) end (rw is refl); entry = λ goes. absurd (is_one (is_last t) end goes) }
  where
    is_one : (b : Bool) → b ≡ true → b ≡ false → ⊥
    is_one b holds fails = cc

entry_is : (front : List Placed) (t : Token) → FitsBehind front End → EndsHaveNoTypes front → (IsLeft (misfit_at places.Entry t) → ¬ IsRepeated front t) → IsMisfit front t (misfit_at places.Entry t)
unfolding misfit_at leaves_out
entry_is front Bad_token ends types new = refl
entry_is front Other ends types new = last_is refl refl (λ bad. cc)
entry_is front End ends types new = last_is refl refl (λ bad. cc)
entry_is front t ends types new = (refl, nouns.entry refl ends, λ wrong. types ends wrong.3, new (_, refl))

-- ---- calls

-- the value fits, with the end of an argument behind it
value_fits : ModulesAreReadAsSpelled → (front : List Placed) (v : Token) → FitsEnd Anything entries_at EndsText front v → ValueFits front v
value_fits law front v (c, enters) = by c.1 (c.2 ((0, End) ∷ []) refl)
  where
    by : (more : List Placed) → (entries_at (front ++ (0, v) ∷ (more ++ (0, End) ∷ [])) ≡ Ok (c.0, (0, End) ∷ [])) × Next EndsArgument (more ++ (0, End) ∷ []) → ValueFits front v
    by [] (read, ends) = absurd (no_end refl ends)
      where
        no_end : {t : Token} → t ≡ End → EndsArgument t → ⊥
        no_end is calls.comma = cc
        no_end is calls.close = cc
    by (end ∷ more) (read, ends) =
        let tokens : List Placed = (front ++ (0, v) ∷ end ∷ []) ++ (more ++ (0, End) ∷ []) in
        let same : tokens ≡ front ++ (0, v) ∷ end ∷ (more ++ (0, End) ∷ []) = append_assoc front ((0, v) ∷ end ∷ []) (more ++ (0, End) ∷ []) in
        (end, ends, (more ++ (0, End) ∷ [], record { entries = c.0 }, (law tokens (record { entries = c.0 })).0 (ap module_from (ap entries_at same ∙ read))))

-- a value that is refused with each end of an argument behind it does not fit
no_value_fits : ModulesAreReadAsSpelled → (front : List Placed) (t v : Token) → RefusesEnd (Unit {0}) entries_at front t v → ¬ ValueFits front v
no_value_fits law front t v (refused, like) (end, ends, (more, m, spelled)) =
    let read : module_of ((front ++ (0, v) ∷ end ∷ []) ++ more) ≡ Ok m = (law ((front ++ (0, v) ∷ end ∷ []) ++ more) m).1 spelled in
    let same : (front ++ (0, v) ∷ end ∷ []) ++ more ≡ front ++ (0, v) ∷ end ∷ more = append_assoc front ((0, v) ∷ end ∷ []) more in
    let r = refused end more ends in
    let refusal : module_of (front ++ (0, v) ∷ end ∷ more) ≡ Err r.0 = ap module_from r.1 in
    let both : the_module (Ok m) ≡ Err r.0 = sym read ∙ ap module_of same ∙ refusal in absurd cc

no_value_is : ModulesAreReadAsSpelled → (front : List Placed) {t : Token} {kind : IrFaultKind} → NoValue (Unit {0}) Anything entries_at EndsText front t kind → IsNoValue front t kind
no_value_is law front (no_number digits width out fit bad) = calls.number digits width out (λ other. (fits_in other, in_fits other))
  where
    fits_in : (other : List ℕ) → ValueFits front (Number other) → IsSome (constant_of other width)
    fits_in other fits = by (constant_of other width) refl
      where
        by : (number : Option Numeral) → constant_of other width ≡ number → is_some (constant_of other width) ≡ true
        by (Some number) h = rw h refl
        by None h = absurd (no_value_fits law front (Number digits) (Number other) (bad other h) fits)

    in_fits : (other : List ℕ) → IsSome (constant_of other width) → ValueFits front (Number other)
    in_fits other some = by (constant_of other width) refl
      where
        by : (number : Option Numeral) → constant_of other width ≡ number → ValueFits front (Number other)
        by (Some number) h = value_fits law front (Number other) (fit other number h)
        by None h = let none : is_some (constant_of other width) ≡ false = rw h refl in absurd cc
no_value_is law front (no_word w fit) = calls.word w (value_fits law front no_truth fit)
no_value_is law front (no_truth_value w bad) = calls.truth w (no_value_fits law front (Word w) no_truth bad)
no_value_is law front (no_group text) = calls.group text
no_value_is law front (no_quoted text) = calls.quoted text

-- a function that fits there is an intrinsic
callee_is : ModulesAreReadAsSpelled → (front : List Placed) (t : Token) → ((other : List ℕ) → callee_named (identifier_of other) ≡ None → Bad (Unit {0}) entries_at front t (Function other)) → (other : List ℕ) → FitsBehind front (Function other) → NamesIntrinsic other
callee_is law front t bad other fits = by (identifier_of other) refl
  where
    by : (called : Identifier) → identifier_of other ≡ called → NamesIntrinsic other
    by (Numbered n) is = absurd (bad_misfits law front (Function other) (bad other (ap callee_named is)).0 fits)
    by (Named name) is = found (intrinsic_in name) refl
      where
        found : (named : Option (Intrinsic × ℕ)) → intrinsic_in name ≡ named → NamesIntrinsic other
        found (Some named) h = (name, named, is, intrinsic_in-is name named h)
        found None h = absurd (bad_misfits law front (Function other) (bad other (ap callee_named is ∙ h)).0 fits)

-- a token that is refused on its own line does not fit
placed_misfits : ModulesAreReadAsSpelled → (front : List Placed) (u : Placed) → RefusesPlaced entries_at front u → ¬ Fits (front ++ u ∷ [])
placed_misfits law front u refused (more, m, spelled) =
    let read : module_of ((front ++ u ∷ []) ++ more) ≡ Ok m = (law ((front ++ u ∷ []) ++ more) m).1 spelled in
    let r = refused more in
    let refusal : module_of ((front ++ u ∷ []) ++ more) ≡ Err r.0 = ap module_from (ap entries_at (append_assoc front (u ∷ []) more) ∙ r.1) in
    let both : the_module (Ok m) ≡ Err r.0 = sym read ∙ refusal in absurd cc

call_is : ModulesAreReadAsSpelled → (front behind : List Placed) {t : Placed} {found : Fault IrFaultKind} → InCall (Unit {0}) Anything entries_at EndsText front t found → Ended (front ++ t ∷ behind) → ¬ Fits (front ++ t ∷ [])
    → entries_at (front ++ t ∷ behind) ≡ Err found → IsToldInCall front behind t found
call_is law front behind (of_callee line at written one stands fit bad) e unfit is =
    calls.callee line at written (record { one = one; fits = token_fits law front (Function one) fit; alone = callee_is law front (Function written) bad }) stands
call_is law front behind (of_value before line value end kind same ends none item fit why) e unfit is =
    calls.value before line value end kind same ends (λ other is. placed_misfits law front other (none other is)) (codes "#0", token_fits law before a_group item) (value_fits law before a_truth fit) (no_value_is law before why)
call_is law front behind (of_truth line w item fit bad) e unfit is =
    let attributes : AttributesFit front = (codes "#0", token_fits law front a_group item) in
    let truth = value_fits law front a_truth fit in
    let no_undef = no_value_fits law front (Word w) no_truth bad in
    calls.truth line w attributes truth no_undef (truth_stands law front line w behind e attributes unfit truth no_undef is)

-- where the text may end no function fits
abbrev EndsHaveNoFunctions : List Placed → Type 0
EndsHaveNoFunctions front = FitsBehind front End → (written : List ℕ) → ¬ FitsBehind front (Function written)

-- where only intrinsics fit, no function is refused for its sort
another_no_callee : (front : List Placed) {t : Token} → AnotherFits front t → (written : List ℕ) → t ≡ Function written → ¬ CalleeFits front
another_no_callee front (nouns.of_word w noun) written is c = cc
another_no_callee front (nouns.of_mark mark begins type) written is c = let no : begins_type mark ≡ false = rw is refl in cc
another_no_callee front (nouns.of_function name other none fits) written is c = none (c.alone other fits)

left_no_callee : (front : List Placed) (t : Token) → EndsHaveNoFunctions front → IsLeftOut front t → (written : List ℕ) → t ≡ Function written → ¬ CalleeFits front
left_no_callee front t ends (nouns.another fits) written is c = another_no_callee front fits written is c
left_no_callee front t ends (nouns.mark_of_record begins fits none) written is c = let no : begins_record t ≡ false = rw is refl in cc
left_no_callee front t ends (nouns.entry goes end) written is c = ends end c.one c.fits

no_callee : (front : List Placed) (t : Token) (kind : IrFaultKind) → EndsHaveNoFunctions front → IsMisfit front t kind → (written : List ℕ) → t ≡ Function written → ¬ CalleeFits front
no_callee front t BadByte ends told written is c = cc
no_callee front t Width ends (w, word, out, fits) written is c = cc
no_callee front t ConstRange ends (digits, width, number, out, fits) written is c = cc
no_callee front t (LeftOut text) ends (shows, left, no_width, new) written is c = left_no_callee front t ends left written is c
no_callee front t Syntax ends told written is c = told.function written c.one is c.fits
no_callee front t kind ends told written is c = absurd told

-- the kind of fault that is said of the token by itself
by_token : ModulesAreReadAsSpelled → (front : List Placed) (t : Placed) (behind : List Placed) (found : Fault IrFaultKind) → EndsHaveNoNumbers front → EndsHaveNoFunctions front → found.line ≡ t.0 → IsMisfit front t.1 found.kind → IsSaid front t behind found × CalleeAlone front t found
by_token law front t behind found numbers functions line told =
    let none = no_callee front t.1 found.kind functions told in
    (of_token line told (λ other h. one_kind front t.1 numbers found.kind other told h) none, λ l at written is callee stands. absurd (none written (ap (λ (p : Placed). p.1) is) callee))

-- ---- the fault that is told

said_is : ModulesAreReadAsSpelled → (front : List Placed) (t : Placed) (behind : List Placed) (found : Fault IrFaultKind) → Ended (front ++ t ∷ behind) → ¬ Fits (front ++ t ∷ []) → entries_at (front ++ t ∷ behind) ≡ Err found → EndsLeaveOut front t.1 found.kind → EndsHaveNoTypes front → EndsHaveNoNumbers front → EndsHaveNoFunctions front → (IsLeft found.kind → ¬ IsRepeated front t.1) → OrEnds Anything entries_at EndsText front t found
    → IsSaid front t behind found × CalleeAlone front t found
said_is law front t behind found e unfit is ends types numbers functions new (inl (end, line, kind)) =
    let told : IsMisfit front t.1 found.kind = subst (IsMisfit front t.1) (sym kind) (entry_is front t.1 (end_fits law front end) types (subst (λ (k : IrFaultKind). IsLeft k → ¬ IsRepeated front t.1) kind new)) in
    by_token law front t behind found numbers functions line told
said_is law front t behind found e unfit is ends types numbers functions new (inr (inl (line, why))) = by_token law front t behind found numbers functions line (reason_is law front t.1 found.kind ends new why)
said_is law front t behind found e unfit is ends types numbers functions new (inr (inr call)) = let told = call_is law front behind call e unfit is in (in_call told, told_alone front behind t found told)

-- ---- the token at which a fault is

-- a viable prefix with the end behind it is read up to there
read_up_to : ModulesAreReadAsSpelled → (front : List Placed) (ends : FitsBehind front End) → Ended (UpTo front 0) → (x : List RawEntry × List Placed) × (entries_at (UpTo front 0) ≡ Ok x)
read_up_to law front (more, m, spelled) e = by (entries_at (UpTo front 0)) refl (entries_outcome (UpTo front 0) e)
  where
    by : (r : Read (List RawEntry)) → entries_at (UpTo front 0) ≡ r → Outcome Anything entries_at EndsText (OrEnds Anything entries_at EndsText) (UpTo front 0) r → (x : List RawEntry × List Placed) × (entries_at (UpTo front 0) ≡ Ok x)
    by (Ok x) is o = (x, is)
    by (Err f) is o =
        let read : module_of (UpTo front 0 ++ more) ≡ Ok m = (law (UpTo front 0 ++ more) m).1 spelled in
        let same : UpTo front 0 ++ more ≡ o.front ++ o.token ∷ (o.behind ++ more) = ap (λ (ts : List Placed). ts ++ more) o.there ∙ append_assoc o.front (o.token ∷ o.behind) more in
        let r = o.refused (o.behind ++ more) in
        let refusal : module_of (o.front ++ o.token ∷ (o.behind ++ more)) ≡ Err r.0 = ap module_from r.1 in
        let both : the_module (Ok m) ≡ Err r.0 = sym read ∙ ap module_of same ∙ refusal in absurd cc

ends_leave_out : ModulesAreReadAsSpelled → (tokens : List Placed) (found : Fault IrFaultKind) → Ended tokens → entries_at tokens ≡ Err found → (o : IsRefused (Unit {0}) entries_at EndsText (OrEnds Anything entries_at EndsText) tokens found) → EndsLeaveOut o.front o.token.1 found.kind
ends_leave_out law tokens found e is o goes ends =
    let ended : Ended (UpTo o.front 0) = ended_before o.front o.token o.behind (subst Ended o.there e) 0 in
    let r = read_up_to law o.front ends ended in
    (refused_at_end o.front 0 o.token o.behind r.0 found ended r.1 goes o.refused (ap entries_at (sym o.there) ∙ is)).1

ends_have_no_types : ModulesAreReadAsSpelled → (tokens : List Placed) (found : Fault IrFaultKind) → Ended tokens → (o : IsRefused (Unit {0}) entries_at EndsText (OrEnds Anything entries_at EndsText) tokens found) → EndsHaveNoTypes o.front
ends_have_no_types law tokens found e o ends (w, width, is, fits) =
    let ended : Ended (UpTo o.front 0) = ended_before o.front o.token o.behind (subst Ended o.there e) 0 in
    let r = read_up_to law o.front ends ended in
    bad_misfits law o.front (Word w) (types_refused_at_end o.front 0 r.0 ended r.1 w width is) fits

ends_have_no_numbers : ModulesAreReadAsSpelled → (tokens : List Placed) (found : Fault IrFaultKind) → Ended tokens → (o : IsRefused (Unit {0}) entries_at EndsText (OrEnds Anything entries_at EndsText) tokens found) → EndsHaveNoNumbers o.front
ends_have_no_numbers law tokens found e o ends digits fits =
    let ended : Ended (UpTo o.front 0) = ended_before o.front o.token o.behind (subst Ended o.there e) 0 in
    let r = read_up_to law o.front ends ended in
    bad_misfits law o.front (Number digits) (numbers_refused_at_end o.front 0 r.0 ended r.1 digits) fits

ends_have_no_functions : ModulesAreReadAsSpelled → (tokens : List Placed) (found : Fault IrFaultKind) → Ended tokens → (o : IsRefused (Unit {0}) entries_at EndsText (OrEnds Anything entries_at EndsText) tokens found) → EndsHaveNoFunctions o.front
ends_have_no_functions law tokens found e o ends written fits =
    let ended : Ended (UpTo o.front 0) = ended_before o.front o.token o.behind (subst Ended o.there e) 0 in
    let r = read_up_to law o.front ends ended in
    bad_misfits law o.front (Function written) (functions_refused_at_end o.front 0 r.0 ended r.1 written) fits

first_misfit : ModulesAreReadAsSpelled → (tokens : List Placed) (found : Fault IrFaultKind) → Ended tokens → entries_at tokens ≡ Err found → IsRefused (Unit {0}) entries_at EndsText (OrEnds Anything entries_at EndsText) tokens found → IsFirstMisfit tokens found
first_misfit law tokens found e is o = record {
  front = o.front;
  token = o.token;
  behind = o.behind;
  stands = o.there;
  fits = front_fits law o.front o.completes;
  misfit = unfit;
  told = record {
    said = said.0;
    alone = alone law o.front o.token o.behind found (subst Ended o.there e) (front_fits law o.front o.completes) unfit here said.1;
  };
}
  where
    unfit : ¬ Fits (o.front ++ o.token ∷ [])
    unfit = placed_misfits law o.front o.token o.refused

    here : entries_at (o.front ++ o.token ∷ o.behind) ≡ Err found
    here = ap entries_at (sym o.there) ∙ is

    said : IsSaid o.front o.token o.behind found × CalleeAlone o.front o.token found
    said = said_is law o.front o.token o.behind found (subst Ended o.there e) unfit here (ends_leave_out law tokens found e is o) (ends_have_no_types law tokens found e o) (ends_have_no_numbers law tokens found e o) (ends_have_no_functions law tokens found e o) (λ left. no_repeat law o.front o.token.1 (o.new left)) o.why

refused_at : ModulesAreReadAsSpelled → (tokens : List Placed) (found : Fault IrFaultKind) (r : Read (List RawEntry)) → entries_at tokens ≡ r → module_from r ≡ Err found → Ended tokens → Outcome Anything entries_at EndsText (OrEnds Anything entries_at EndsText) tokens r → IsFirstMisfit tokens found
refused_at law tokens found (Ok x) read is ended o = absurd cc
refused_at law tokens found (Err e) read is ended o =
    first_misfit law tokens found ended (read ∙ ap the_refusal (err_is e found is)) (subst (IsRefused (Unit {0}) entries_at EndsText (OrEnds Anything entries_at EndsText) tokens) (err_is e found is) o)
  where
    the_refusal : Fault IrFaultKind → Read (List RawEntry)
    the_refusal f = Err f

    err_is : (a b : Fault IrFaultKind) → module_from (Err a) ≡ Err b → a ≡ b
    err_is a b same = cc

refused : ModulesAreReadAsSpelled → TextsHaveOneListOfTokens → (text : List ℕ) (tokens : List Placed) (found : Fault IrFaultKind) → length text ≤ most_bytes → AreTokens text tokens → IsTextFault text found → IsFirstMisfit tokens found
refused law one text tokens found within are (too_long more same) = absurd (omega arith)
refused law one text tokens found within are (misfit less others are_others is_refused) =
    let same : module_of tokens ≡ Err found = ap module_of (one.one text tokens others are are_others) ∙ is_refused in
    refused_at law tokens found (entries_at tokens) refl same (tokens_end are) (entries_outcome tokens (tokens_end are))

read : ModulesAreReadAsSpelled → TextsHaveOneListOfTokens → (text : List ℕ) (tokens : List Placed) (found : Fault IrFaultKind) → length text ≤ most_bytes → AreTokens text tokens → Fits tokens → ¬ IsTextFault text found
read law one text tokens found within are all_fit fault =
    let first = refused law one text tokens found within are fault in
    let t : List Placed = first.token ∷ [] in
    first.misfit (begun_fits (first.front ++ t) first.behind (subst Fits (first.stands ∙ sym (append_assoc first.front t first.behind)) all_fit))

pub faults : ModulesAreReadAsSpelled → TextsHaveOneListOfTokens → FaultsAreWhereTextsDoNotFit
faults law one = record { refused = refused law one; read = read law one; one = one_fault }
