-- Viable prefixes of entries. Where an entry may begin, the entries may also end.
use Rattle.ir_viable_prefixes.proofs.Common.{◌≡◌, ◌<◌, ℕ, suc, Bool, true, false, cond, List, [], ◌∷◌, ◌++◌, length, Option, Some, None, Ok, Err, refl, sym, ap, subst, ◌∙◌, ◌⊎◌, inl, inr, append_assoc, arith, codes, bytes_eq, Token, Placed, End, Kept, Word, Mark, RawEntry, Fault, IrFaultKind, LeftOut, leaves_out, shown, Read, Reader, fault, unexpected, ◌>>=◌, done, repeat_at, another_at, repeat-done, entry-takes, read_as, Flag, Nuw, Nsw, Exact, NNeg, Disjoint, SameSign, flag_keyword}
use Rattle.ir_tokens.specs.declared.raw.RawEntry.TheVariants as entries
use Rattle.ir_instructions.specs.declared.place.Expected.TheVariants as places
use Rattle.ir_instructions.specs.Places.{misfit}
use Rattle.ir_parse.specs.ModuleReaders as parsing
use Rattle.ir_viable_prefixes.proofs.Choices.{AsksNext, Tested, Opens, SaysOfRecords, transfer, begun_test, reasons_moved}
use Rattle.ir_viable_prefixes.proofs.Closed.{Closes, closes_done}
use Rattle.ir_viable_prefixes.proofs.Functions.{function-good, function-closes}
use Rattle.ir_viable_prefixes.proofs.Outcomes.{Follow, Anything, Ended, ended_behind, StopsAt, StopsBefore, stops, Sample, Why, Reasons, IsReadIf, Lifts, Outcome, outcome_both, reasons_first, reasons_second, Takes, takes, refuses, token_outcome, Good, done-good, ◌then◌, TakesNoFlag, RefusesEach, token_apart, apart_new}
use Rattle.ir_viable_prefixes.proofs.FlagRuns.{ReadsApart, both_apart}
use Rattle.ir_viable_prefixes.proofs.Reasons.{like_word, like_type, like_function, like_width, like_number}
use Rattle.ir_viable_prefixes.proofs.Repeats.{Steps, steps_of, another_apart, loop_sample, loop_lifts, one_step, repeat_outcomes}

-- ---- an entry

-- the first token of an entry: a kept line, or the word `define`
abbrev pub entry_token_at : Reader (Option (List ℕ))
entry_token_at ((line, Kept text) ∷ rest) = Ok (Some text, rest)
entry_token_at ((line, Word word) ∷ rest) = cond (bytes_eq word (codes "define")) (Ok (None, rest)) (Err (fault line (LeftOut word)))
entry_token_at tokens = Err (unexpected places.Entry tokens)

abbrev pub behind_entry : Option (List ℕ) → Reader RawEntry
behind_entry (Some text) = done (entries.Kept text)
behind_entry None = parsing.function_at >>= λ f. done (entries.Function f)

pub same_entry : (tokens : List Placed) → parsing.entry_at tokens ≡ (entry_token_at >>= behind_entry) tokens
unfolding parsing.entry_at
same_entry ((line, Kept text) ∷ rest) = refl
same_entry ((line, Word word) ∷ rest) = by (bytes_eq word (codes "define")) refl
  where
    by : (b : Bool) → bytes_eq word (codes "define") ≡ b → parsing.entry_at ((line, Word word) ∷ rest) ≡ (entry_token_at >>= behind_entry) ((line, Word word) ∷ rest)
    by true h = rw h refl
    by false h = rw h refl
same_entry tokens = refl

-- the first token begins no entry
abbrev pub IsFirst : Why
IsFirst front t found = (front ≡ []) × (found.line ≡ t.0) × (found.kind ≡ misfit places.Entry t.1)

pub entry_token_takes : (line : ℕ) (t : Token) → Takes entry_token_at IsFirst line t
unfolding unexpected misfit leaves_out shown
entry_token_takes line (Kept text) = takes _ refl (λ more. refl)
entry_token_takes line (Word word) = by (bytes_eq word (codes "define")) refl
  where
    by : (b : Bool) → bytes_eq word (codes "define") ≡ b → Takes entry_token_at IsFirst line (Word word)
    by true h = takes None refl (λ more. rw h refl)
    by false h = refuses (fault line (LeftOut word)) (refl, refl, refl) (λ more. rw h refl)
entry_token_takes line t = refuses (fault line (misfit places.Entry t)) (refl, refl, refl) (λ more. refl)

entry_flags : TakesNoFlag entry_token_at
entry_flags = ((unexpected places.Entry [], refl), by)
  where
    by : (flag : Flag) → RefusesEach entry_token_at (Word (flag_keyword flag))
    by Nuw line more = (fault line (LeftOut (codes "nuw")), refl)
    by Nsw line more = (fault line (LeftOut (codes "nsw")), refl)
    by Exact line more = (fault line (LeftOut (codes "exact")), refl)
    by NNeg line more = (fault line (LeftOut (codes "nneg")), refl)
    by Disjoint line more = (fault line (LeftOut (codes "disjoint")), refl)
    by SameSign line more = (fault line (LeftOut (codes "samesign")), refl)

pub behind_entry-good : (begun : Option (List ℕ)) → Good Anything (behind_entry begun) Anything
behind_entry-good (Some text) = done-good (λ t f. tt) _
behind_entry-good None = function-good then (λ f. done-good (λ t g. tt) _)

abbrev pub Begins : Follow
Begins = Tested parsing.begins_entry true

abbrev pub Ends : Follow
Ends = Tested parsing.begins_entry false

entry_apart : ReadsApart parsing.entry_at
entry_apart tokens x is = both_apart entry_token_at behind_entry (token_apart entry_token_at IsFirst entry_flags entry_token_takes) (λ y. (behind_entry-good y).apart) tokens x (sym (same_entry tokens) ∙ is)

-- the reason of a refusal, or that the first token begins no entry
abbrev pub OrFirst : {A : Type 0} → Follow → Reader A → Follow → Why
OrFirst E R F front t found = IsFirst front t found ⊎ Reasons E R F front t found

pub entry_outcome : (tokens : List Placed) → Ended tokens → Outcome Begins parsing.entry_at Anything (OrFirst Begins parsing.entry_at Anything) tokens (parsing.entry_at tokens)
entry_outcome tokens e =
    subst (Outcome Begins parsing.entry_at Anything (OrFirst Begins parsing.entry_at Anything) tokens) (sym (same_entry tokens))
    (transfer (λ ts. true) (λ l k t a b. refl) true read parsing.entry_at (λ ts h. same_entry ts) (Unit {0}) (Unit {0}) (Unit {0}) (λ v. v) (λ t u h like. refl) Begins Begins Anything (λ t begins h. (inr (λ ending. refl), λ end text. refl)) (OrFirst Begins read Anything) (OrFirst Begins parsing.entry_at Anything) (λ t d. refl) (λ t d. d) tokens over refl (read tokens)
    (outcome_both (Unit {0}) (Unit {0}) (Unit {0}) Begins Anything Anything entry_token_at behind_entry IsFirst (λ x. Reasons Anything (behind_entry x) Anything) (OrFirst Begins read Anything) tokens
    (record {
      first = λ front t behind there found why. inl why;
      second = λ x is o front t behind there found why.
          inr (reasons_second (Unit {0}) (Unit {0}) Begins Anything Anything entry_token_at behind_entry (λ y. (behind_entry-good y).sample) tokens x o front t behind there found why);
    })
    (apart_new (Unit {0}) (Unit {0}) Begins Anything Anything entry_token_at behind_entry (λ x. Reasons Anything (behind_entry x) Anything) tokens (token_apart entry_token_at IsFirst entry_flags entry_token_takes)) (λ x. (behind_entry-good x).sample) (entry_token_at tokens) refl (token_outcome (Unit {0}) Begins entry_token_at Anything (Unit {0}) IsFirst entry_token_takes tokens e) (λ x is ended. (behind_entry-good x.0).outcome x.1 ended)))
  where
    read : Reader RawEntry
    read ts = (entry_token_at >>= behind_entry) ts

    over : (front : List Placed) (t : Placed) (behind : List Placed) → tokens ≡ front ++ t ∷ behind → (found : Fault IrFaultKind) → OrFirst Begins read Anything front t found → OrFirst Begins parsing.entry_at Anything front t found
    over front t behind there found (inl why) = inl why
    over front t behind there found (inr why) =
        inr (reasons_moved (λ ts. true) (λ k i v a b. refl) true read parsing.entry_at (λ ts h. same_entry ts) (Unit {0}) (Unit {0}) (λ v. v) (λ v u h like. refl) Begins Begins Anything (λ w d. refl) (λ w d. d) tokens refl (λ v begins h. (inr (λ ending. refl), λ end text. refl)) front t behind there found why)

-- ---- entries

-- the parser may stop behind the front
abbrev pub EndsAt : {A : Type 0} → Reader A → Follow → List Placed → Type 0
EndsAt {A} R F front = (x : A) × ((t : Token) → F t → StopsAt R front x t)

-- the reason of a refusal, or that the entries may stop there and the token begins none
abbrev pub OrEnds : {A : Type 0} → Follow → Reader A → Follow → Why
OrEnds E R F front t found = (EndsAt R F front × (found.line ≡ t.0) × (found.kind ≡ misfit places.Entry t.1)) ⊎ Reasons E R F front t found

entry_next : AsksNext parsing.begins_entry
entry_next l k End a b = refl
entry_next l k t a b = refl

entry_open : Opens parsing.begins_entry true (Unit {0})
entry_open t u next (like_word v w other noun) = refl
entry_open t u next (like_type m other width begins is) = refl
entry_open t u next (like_function written other) = refl
entry_open t u next (like_width w other width out is) = refl
entry_open t u next (like_number digits other) = refl

entry_shut : Opens parsing.begins_entry false (Unit {0})
entry_shut t u none (like_word v w other noun) = absurd cc
entry_shut t u none (like_type m other width begins is) = absurd cc
entry_shut t u none (like_function written other) = absurd cc
entry_shut t u none (like_width w other width out is) = absurd cc
entry_shut t u none (like_number digits other) = absurd cc

entry_records : SaysOfRecords parsing.begins_entry
entry_records b (Mark m) begins says = (λ ending. says, λ text. says)
entry_records b t begins says = absurd cc

pub entry_steps : Steps (Unit {0}) Anything Ends (Unit {0}) parsing.begins_entry (another_at parsing.entry_at)
entry_steps = steps_of (record { asks = entry_next; takes = entry-takes; ends = λ t f. f; ends_part = λ t f. tt; next_ends_part = λ t n. tt; opens = entry_open; shuts = entry_shut; records = λ a b t begins h. let r = entry_records b t begins h in (inr r.0, λ end. r.1) })

abbrev pub Loop : List RawEntry → Reader (List RawEntry)
Loop = repeat_at parsing.begins_entry (another_at parsing.entry_at)

-- an entry is read the same whatever stands behind it
entry-closes : Closes parsing.entry_at
entry-closes tokens x e is = by tokens e (sym (same_entry tokens) ∙ is)
  where
    the_read : Read RawEntry → Read RawEntry
    the_read r = r

    Found : List Placed → RawEntry × List Placed → Type 0
    Found ts y = (t : Placed) × (front : List Placed) × (ts ≡ t ∷ (front ++ y.1)) × ((others : List Placed) → parsing.entry_at (t ∷ (front ++ others)) ≡ Ok (y.0, others))

    by : (ts : List Placed) → Ended ts → (entry_token_at >>= behind_entry) ts ≡ Ok x → Found ts x
    by [] e read = absurd e
    by ((line, Kept text) ∷ rest) e read = read_as (Found ((line, Kept text) ∷ rest)) (entries.Kept text, rest) x read ((line, Kept text), [], refl, λ others. same_entry ((line, Kept text) ∷ others))
    by ((line, Word word) ∷ rest) e read = of (bytes_eq word (codes "define")) refl
      where
        of : (b : Bool) → bytes_eq word (codes "define") ≡ b → Found ((line, Word word) ∷ rest) x
        of true h =
            let defined : (more : List Placed) → (entry_token_at >>= behind_entry) ((line, Word word) ∷ more) ≡ behind_entry None more = (λ more. rw h refl) in
            let behind : behind_entry None rest ≡ Ok x = sym (defined rest) ∙ read in
            let c = closes_done function-closes entries.Function rest x (ended_behind (line, Word word) rest refl e) behind in (
              (line, Word word),
              c.0 ∷ c.1,
              ap (λ (ts : List Placed). (line, Word word) ∷ ts) c.2,
              λ others. same_entry ((line, Word word) ∷ c.0 ∷ (c.1 ++ others)) ∙ defined (c.0 ∷ (c.1 ++ others)) ∙ c.3 others,
            )
        of false h =
            let refused : (entry_token_at >>= behind_entry) ((line, Word word) ∷ rest) ≡ Err (fault line (LeftOut word)) = rw h refl in
            let both : the_read (Err (fault line (LeftOut word))) ≡ the_read (Ok x) = sym refused ∙ read in absurd cc
    by (t ∷ rest) e read = absurd cc

pub another-closes : (before : List RawEntry) → Closes (another_at parsing.entry_at before)
another-closes before = closes_done entry-closes (λ x. before ++ x ∷ [])

-- another entry, behind those in front
pub another_outcome : (before : List RawEntry) (tokens : List Placed) → Ended tokens
    → Outcome Begins (another_at parsing.entry_at before) Anything (OrFirst Begins (another_at parsing.entry_at before) Anything) tokens (another_at parsing.entry_at before tokens)
another_outcome before tokens e =
    outcome_both (Unit {0}) (Unit {0}) (Unit {0}) Begins Anything Anything parsing.entry_at (λ x. done (before ++ x ∷ [])) (OrFirst Begins parsing.entry_at Anything) (λ x. Reasons Anything (done (before ++ x ∷ [])) Anything) (OrFirst Begins (another_at parsing.entry_at before) Anything) tokens
    (record {
      first = λ front t behind there found why. first front t found why;
      second = λ x is o front t behind there found why.
          inr (reasons_second (Unit {0}) (Unit {0}) Begins Anything Anything parsing.entry_at (λ y. done (before ++ y ∷ [])) (λ y. (last y).sample) tokens x o front t behind there found why);
    })
    (λ x is o found p failed left. absurd cc) (λ x. (last x).sample) (parsing.entry_at tokens) refl (entry_outcome tokens e) (λ x is ended. (last x.0).outcome x.1 ended)
  where
    last : (x : RawEntry) → Good Anything (done (before ++ x ∷ [])) Anything
    last x = done-good (λ t d. d) (before ++ x ∷ [])

    first : (front : List Placed) (t : Placed) (found : Fault IrFaultKind) → OrFirst Begins parsing.entry_at Anything front t found → OrFirst Begins (another_at parsing.entry_at before) Anything front t found
    first front t found (inl why) = inl why
    first front t found (inr why) = inr (reasons_first (Unit {0}) Begins Anything Anything parsing.entry_at (λ x. done (before ++ x ∷ [])) (λ x. (last x).sample) front t found why)

ends_first : (a : List RawEntry) (front : List Placed) → front ≡ [] → EndsAt (Loop a) Ends front
ends_first a front none =
    (a, λ t ends more. subst (λ (f : List Placed). Loop a (f ++ (0, t) ∷ more) ≡ Ok (a, (0, t) ∷ more)) (sym none) (repeat-done parsing.begins_entry (another_at parsing.entry_at) a ((0, t) ∷ more) (entry_next 0 0 t more [] ∙ ends)))

-- where entries may stop behind an entry, they may behind that and those before
ends_second : (a : List RawEntry) (tokens : List Placed) (x : List RawEntry × List Placed) → parsing.begins_entry tokens ≡ true → another_at parsing.entry_at a tokens ≡ Ok x → (o : IsReadIf (Unit {0}) Begins (another_at parsing.entry_at a) Anything (Unit {0}) tokens x.0 x.1)
    (front : List Placed) (u : Placed) (behind : List Placed) → x.1 ≡ front ++ u ∷ behind → EndsAt (Loop x.0) Ends front → EndsAt (Loop a) Ends (o.front ++ front)
ends_second a tokens x next is o front u behind there (all, ends) = (
  all,
  λ t last more.
      let ts : List Placed = (0, t) ∷ more in
      let one : another_at parsing.entry_at a (o.front ++ (front ++ ts)) ≡ Ok (x.0, front ++ ts) = stops (another_at parsing.entry_at a) o.front x.0 (front ++ ts) (stopped front there t more) in
      let begun : parsing.begins_entry (o.front ++ (front ++ ts)) ≡ true =
      begun_test parsing.begins_entry entry_next true o.front x.1 (front ++ ts) (subst (λ (f : List Placed). parsing.begins_entry f ≡ true) o.there next) (λ none. absurd (some o.front none o.there)) in
      ap (Loop a) (append_assoc o.front front ts) ∙ one_step parsing.begins_entry (another_at parsing.entry_at) entry_steps.takes a (o.front ++ (front ++ ts)) begun ∙ read_on (o.front ++ (front ++ ts)) (front ++ ts) one ∙ ends t last more,
)
  where
    stopped : (f : List Placed) → x.1 ≡ f ++ u ∷ behind → (t : Token) (more : List Placed) → StopsBefore (another_at parsing.entry_at a) o.front x.0 (f ++ (0, t) ∷ more)
    stopped [] same t more = o.follows t tt
    stopped (v ∷ f) same t more = subst (StopsBefore (another_at parsing.entry_at a) o.front x.0) same o.stopped

    some : (f : List Placed) → f ≡ [] → tokens ≡ f ++ x.1 → ⊥
    some [] none same = let fewer : length x.1 < length tokens = entry_steps.takes a tokens x next is in omega (arith, ap length same)
    some (t ∷ f) none same = absurd cc

    read_on : (ts rest : List Placed) → another_at parsing.entry_at a ts ≡ Ok (x.0, rest) → (another_at parsing.entry_at a >>= Loop) ts ≡ Loop x.0 rest
    read_on ts rest one = rw one refl

entry_lifts : (E : Follow) → ((t : Token) → Begins t → E t) → (a : List RawEntry) (tokens : List Placed) → parsing.begins_entry tokens ≡ true
    → Lifts (Unit {0}) (Unit {0}) Begins Anything Ends (another_at parsing.entry_at a) Loop (OrFirst Begins (another_at parsing.entry_at a) Anything) (λ x. OrEnds Anything (Loop x) Ends) (OrEnds E (Loop a) Ends) tokens
entry_lifts E enters a tokens next = record {
  first = λ front t behind there found why. first front t behind there found why;
  second = λ x is o front t behind there found why. second x is o front t behind there found why;
}
  where
    lifts : Lifts (Unit {0}) (Unit {0}) Begins Anything Ends (another_at parsing.entry_at a) Loop (Reasons Begins (another_at parsing.entry_at a) Anything) (λ x. Reasons Anything (Loop x) Ends) (Reasons E (Loop a) Ends) tokens
    lifts = loop_lifts (Unit {0}) Anything Ends (Unit {0}) parsing.begins_entry (another_at parsing.entry_at) entry_steps E enters a tokens next

    first : (front : List Placed) (t : Placed) (behind : List Placed) → tokens ≡ front ++ t ∷ behind → (found : Fault IrFaultKind) → OrFirst Begins (another_at parsing.entry_at a) Anything front t found → OrEnds E (Loop a) Ends front t found
    first front t behind there found (inl why) = inl (ends_first a front why.0, why.1, why.2)
    first front t behind there found (inr why) = inr (lifts.first front t behind there found why)

    second : (x : List RawEntry × List Placed) → another_at parsing.entry_at a tokens ≡ Ok x → (o : IsReadIf (Unit {0}) Begins (another_at parsing.entry_at a) Anything (Unit {0}) tokens x.0 x.1) (front : List Placed) (t : Placed) (behind : List Placed) → x.1 ≡ front ++ t ∷ behind
        → (found : Fault IrFaultKind) → OrEnds Anything (Loop x.0) Ends front t found → OrEnds E (Loop a) Ends (o.front ++ front) t found
    second x is o front t behind there found (inl why) = inl (ends_second a tokens x next is o front t behind there why.0, why.1, why.2)
    second x is o front t behind there found (inr why) = inr (lifts.second x is o front t behind there found why)

-- what may follow entries
abbrev pub EndsText : Follow
EndsText = Ends

pub entries_outcome : (tokens : List Placed) → Ended tokens → Outcome Anything parsing.entries_at EndsText (OrEnds Anything parsing.entries_at EndsText) tokens (parsing.entries_at tokens)
unfolding parsing.entries_at
entries_outcome tokens e =
    repeat_outcomes (Unit {0}) Anything Ends (Unit {0}) parsing.begins_entry (another_at parsing.entry_at) entry_steps (λ a. OrFirst Begins (another_at parsing.entry_at a) Anything) (λ E a. OrEnds E (Loop a) Ends) entry_lifts
    (λ a ts. apart_new (Unit {0}) (Unit {0}) Begins Anything Ends (another_at parsing.entry_at a) Loop (λ x. OrEnds Anything (Loop x) Ends) ts (another_apart parsing.entry_at entry_apart a)) (λ a ts ended next. another_outcome a ts ended) (suc (length tokens)) Anything (λ t f. tt) (λ t n. tt) [] tokens (omega arith) e

pub entries_sample : Sample Anything parsing.entries_at EndsText
unfolding parsing.entries_at
entries_sample = loop_sample (Unit {0}) Anything Ends (Unit {0}) parsing.begins_entry (another_at parsing.entry_at) entry_steps Anything (λ t f. tt) []
