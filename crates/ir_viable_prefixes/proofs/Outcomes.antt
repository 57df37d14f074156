-- What a parser (reader) makes of tokens, said so that it composes for parsers in sequence: it reads a prefix (front)
-- of them whatever stands further behind, or it refuses the token behind a front which other tokens can complete.
-- Tokens that might stand in the place of others stand on a line of their own.
use Rattle.ir_viable_prefixes.proofs.Common.{◌≡◌, ◌≢◌, ℕ, true, false, List, [], ◌∷◌, ◌++◌, Some, None, Ok, Err, refl, sym, ap, subst, ◌∙◌, ◌⊎◌, inl, inr, append_assoc, codes, append-nil, append_cancel_right, identifier_of, constant_of, Token, Placed, Word, Number, Function, Group, Quoted, Mark, is_last, IrFaultKind, Syntax, LeftOut, ConstRange, Fault, begins_record, callee_named, IsTypeWord, ending_word, Pred, predicate_keyword, Read, Reader, fault, goes_on, ◌>>=◌, done, bind_ok, ok_is, read_as, Flag, flag_keyword, CallStands, EndsArgument}
use Rattle.ops.specs.Number.{Number as Numeral}
use Rattle.ir_instructions.specs.declared.word.Ending.{Ending}
use Rattle.ir_viable_prefixes.specs.Misfits as nouns
use Rattle.ir_viable_prefixes.proofs.FlagRuns.{FollowsFlag, IsAgain, NoFlag, NoFlagNext, Parted, new_behind, none_repeated, ReadsApart, Splits, apart_splits, both_splits, leaves_both, done_apart, both_apart, IsLeft, LeavesNothingOut}
use Rattle.ir_viable_prefixes.proofs.Reasons.{a_type, a_pred, an_end, a_group, Like, like_word, NoRecord, NoGroup, Maps, Reason, reason_map}

-- ---- the next token

-- a set of tokens, as those that may stand next
abbrev pub Follow : Type 1
Follow = Token → Type 0

abbrev pub Next : Follow → List Placed → Type 0
Next F [] = ⊥
Next F ((line, t) ∷ tokens) = F t

abbrev pub Anything : Follow
Anything t = Unit {0}

-- the last of the tokens is one behind which nothing is read, and no mark among the others is on line 0
abbrev pub Ended : List Placed → Type 0
Ended [] = ⊥
Ended (t ∷ []) = is_last t.1 ≡ true
Ended (t ∷ u ∷ tokens) = (is_last t.1 ≡ false) × Ended (u ∷ tokens) × ((mark : ℕ) → t.1 ≡ Mark mark → t.0 ≢ 0)

pub ended_behind : (t : Placed) (tokens : List Placed) → is_last t.1 ≡ false → Ended (t ∷ tokens) → Ended tokens
ended_behind t [] going e = absurd cc
ended_behind t (u ∷ tokens) going e = e.1

-- a predicate that holds of any token holds of the next one
pub next_any : (P : Follow) (tokens : List Placed) → Ended tokens → ((t : Token) → P t) → Next P tokens
next_any P [] e p = absurd e
next_any P ((line, t) ∷ tokens) e p = p t

pub next_map : (P Q : Follow) (tokens : List Placed) → ((t : Token) → P t → Q t) → Next P tokens → Next Q tokens
next_map P Q [] f h = absurd h
next_map P Q ((line, t) ∷ tokens) f h = f t h

-- ---- what a parser does

-- whatever stands further behind, the parser reads the front and stops before this token
abbrev pub StopsAt : {A : Type 0} → Reader A → List Placed → A → Follow
StopsAt R front x t = (more : List Placed) → R (front ++ (0, t) ∷ more) ≡ Ok (x, (0, t) ∷ more)

-- the same with the token on any line
abbrev pub StopsEach : {A : Type 0} → Reader A → List Placed → A → Follow
StopsEach R front x t = (line : ℕ) (more : List Placed) → R (front ++ (line, t) ∷ more) ≡ Ok (x, (line, t) ∷ more)

-- the same with the token that is next
abbrev pub StopsBefore : {A : Type 0} → Reader A → List Placed → A → List Placed → Type 0
StopsBefore R front x [] = ⊥
StopsBefore R front x (t ∷ tokens) = (more : List Placed) → R (front ++ t ∷ more) ≡ Ok (x, t ∷ more)

pub stops : {A : Type 0} (R : Reader A) (front : List Placed) (x : A) (tokens : List Placed) → StopsBefore R front x tokens → R (front ++ tokens) ≡ Ok (x, tokens)
stops R front x [] h = absurd h
stops R front x (t ∷ tokens) h = h tokens

pub stops_any : {A : Type 0} (R : Reader A) (front : List Placed) (x : A) (tokens : List Placed) → Ended tokens → ((t : Placed) (more : List Placed) → R (front ++ t ∷ more) ≡ Ok (x, t ∷ more)) → StopsBefore R front x tokens
stops_any R front x [] e h = absurd e
stops_any R front x (t ∷ tokens) e h = h t

pub stops_next : {A : Type 0} (R : Reader A) (front : List Placed) (x : A) (tokens : List Placed) → Next (StopsEach R front x) tokens → StopsBefore R front x tokens
stops_next R front x [] h = absurd h
stops_next R front x ((line, t) ∷ tokens) h = h line

-- stopping before tokens depends on the first of them alone
pub stops_same : {A : Type 0} (R : Reader A) (read : List Placed) (x : A) (front : List Placed) (t : Placed) (a b : List Placed) → StopsBefore R read x (front ++ t ∷ a) → StopsBefore R read x (front ++ t ∷ b)
stops_same R read x [] t a b h = h
stops_same R read x (u ∷ front) t a b h = h

-- some tokens behind the front complete it: the parser reads all of them, if a token of F follows
abbrev pub Completes : {A : Type 0} → Reader A → Follow → List Placed → Type 0
Completes {A} R F front = (x : A) × (more : List Placed) × ((tokens : List Placed) → Next F tokens → R (front ++ (more ++ tokens)) ≡ Ok (x, tokens))

-- the same where the front is not empty
abbrev pub CompletesBegun : {A : Type 0} → Reader A → Follow → List Placed → Type 0
CompletesBegun R F [] = Unit {0}
CompletesBegun R F (t ∷ front) = Completes R F (t ∷ front)

begun : {A : Type 0} (R : Reader A) (F : Follow) (front : List Placed) → Completes R F front → CompletesBegun R F front
begun R F [] c = tt
begun R F (t ∷ front) c = c

-- a sample: some tokens that the parser reads, of which the first, if there is one, is in E
abbrev pub Sample : {A : Type 0} → Follow → Reader A → Follow → Type 0
Sample {A} E R F = (x : A) × (some : List Placed) × ((tokens : List Placed) → Next F tokens → (R (some ++ tokens) ≡ Ok (x, tokens)) × Next E (some ++ tokens))

-- the token fits behind the front: the parser can read both and some more; if the front is empty, the token is in E
abbrev pub Fit : {A : Type 0} → Follow → Reader A → Follow → List Placed → Token → Type 0
Fit {A} E R F front t = ((x : A) × (more : List Placed) × ((tokens : List Placed) → Next F tokens → R (front ++ (0, t) ∷ (more ++ tokens)) ≡ Ok (x, tokens))) × (front ≡ [] → E t)

-- a reason: what a fault says of a token that is refused behind a front
abbrev pub Why : Type 1
Why = List Placed → Placed → Fault IrFaultKind → Type 0

-- the parser refuses the token behind the front, whatever stands further behind
abbrev pub RefusesAt : {A : Type 0} → Reader A → List Placed → Follow
RefusesAt R front t = (more : List Placed) → (e : Fault IrFaultKind) × (R (front ++ (0, t) ∷ more) ≡ Err e)

-- the same with the token on its own line
abbrev pub RefusesPlaced : {A : Type 0} → Reader A → List Placed → Placed → Type 0
RefusesPlaced R front t = (more : List Placed) → (e : Fault IrFaultKind) × (R (front ++ t ∷ more) ≡ Err e)

-- the same with the token first, on any line
abbrev pub RefusesEach : {A : Type 0} → Reader A → Follow
RefusesEach R t = (line : ℕ) (more : List Placed) → (e : Fault IrFaultKind) × (R ((line, t) ∷ more) ≡ Err e)

abbrev pub Bad : {A : Type 0} → Type 0 → Reader A → List Placed → Token → Token → Type 0
Bad V R front t u = RefusesAt R front u × (front ≡ [] → Like V t u)

-- the value fits behind the front, with the end of an argument behind it
abbrev pub FitsEnd : {A : Type 0} → Follow → Reader A → Follow → List Placed → Token → Type 0
FitsEnd {A} E R F front v =
    ((x : A) × (more : List Placed) × ((tokens : List Placed) → Next F tokens → (R (front ++ (0, v) ∷ (more ++ tokens)) ≡ Ok (x, tokens)) × Next EndsArgument (more ++ tokens))) × (front ≡ [] → E v)

-- the parser refuses the value, or the end of an argument behind it; if the front is empty, the value is of t's sort
abbrev pub RefusesEnd : {A : Type 0} → Type 0 → Reader A → List Placed → Token → Token → Type 0
RefusesEnd V R front t v = ((end : Placed) (more : List Placed) → EndsArgument end.1 → (e : Fault IrFaultKind) × (R (front ++ (0, v) ∷ end ∷ more) ≡ Err e)) × (front ≡ [] → Like V t v)

abbrev pub a_truth : Token
a_truth = Word (codes "true")

abbrev pub no_truth : Token
no_truth = Word (codes "undef")

-- why the last token of an argument is no value
pub data NoValue {A : Type 0} (V : Type 0) (E : Follow) (R : Reader A) (F : Follow) (front : List Placed) : Token → IrFaultKind → Type 0 where
  no_number : (digits : List ℕ) (width : ℕ) → constant_of digits width ≡ None → ((other : List ℕ) (number : Numeral) → constant_of other width ≡ Some number → FitsEnd E R F front (Number other))
      → ((other : List ℕ) → constant_of other width ≡ None → RefusesEnd V R front (Number digits) (Number other)) → NoValue V E R F front (Number digits) ConstRange
  no_word : (w : List ℕ) → FitsEnd E R F front no_truth → NoValue V E R F front (Word w) (LeftOut w)
  no_truth_value : (w : List ℕ) → RefusesEnd V R front (Word w) no_truth → NoValue V E R F front (Word w) Syntax
  no_group : (text : List ℕ) → NoValue V E R F front (Group text) Syntax
  no_quoted : (text : List ℕ) → NoValue V E R F front (Quoted text) Syntax

-- the faults in calls
pub data InCall {A : Type 0} (V : Type 0) (E : Follow) (R : Reader A) (F : Follow) (front : List Placed) : Placed → Fault IrFaultKind → Type 0 where
  of_callee : (line at : ℕ) (written one : List ℕ) → CallStands line front → Fit E R F front (Function one)
      → ((other : List ℕ) → callee_named (identifier_of other) ≡ None → Bad V R front (Function written) (Function other)) → InCall V E R F front (at, Function written) (fault line (LeftOut (codes "call")))
  of_value : (before : List Placed) (line : ℕ) (last : Token) (end : Placed) (kind : IrFaultKind) → front ≡ before ++ (line, last) ∷ [] → EndsArgument end.1
      → ((other : Placed) → EndsArgument other.1 → RefusesPlaced R front other) → Fit E R F before a_group → FitsEnd E R F before a_truth → NoValue V E R F before last kind → InCall V E R F front end (fault line kind)
  of_truth : (line : ℕ) (w : List ℕ) → Fit E R F front a_group → FitsEnd E R F front a_truth → RefusesEnd V R front (Word w) no_truth → InCall V E R F front (line, Word w) (fault line Syntax)

-- the word repeats one of the flags right before it, and a type or a predicate fits, as behind flags
abbrev pub Again : {A : Type 0} → Follow → Reader A → Follow → List Placed → List ℕ → Type 0
Again E R F front w = FollowsFlag front w × (Fit E R F front a_type ⊎ Fit E R F front a_pred)

-- the reason of a refusal; V says whether words count as tokens of one sort at the front
abbrev pub ReasonsIf : {A : Type 0} → Type 0 → Follow → Reader A → Follow → Why
ReasonsIf V E R F front t found = ((found.line ≡ t.0) × Reason (Fit E R F front) (Bad V R front) (Again E R F front) (RefusesAt R front) t.1 found.kind) ⊎ InCall V E R F front t found

abbrev pub Reasons : {A : Type 0} → Follow → Reader A → Follow → Why
Reasons E R F = ReasonsIf (Unit {0}) E R F

-- the parser stops before the token, or refuses it
abbrev pub Halts : {A : Type 0} → Reader A → List Placed → A → Follow
Halts R front x t = (more : List Placed) → (R (front ++ (0, t) ∷ more) ≡ Ok (x, (0, t) ∷ more)) ⊎ ((e : Fault IrFaultKind) × (R (front ++ (0, t) ∷ more) ≡ Err e))

-- what the parser reads; W says whether, where it stops before a word, it also halts before other words
pub record IsReadIf {A : Type 0} (V : Type 0) (E : Follow) (R : Reader A) (F : Follow) (W : Type 0) (tokens : List Placed) (x : A) (rest : List Placed) : Type 0 where
  pub front : List Placed
  pub there : tokens ≡ front ++ rest
  pub ended : Ended rest
  pub stopped : StopsBefore R front x rest
  pub halts : Next (λ t. (u : Token) → Like W t u → Halts R front x u) rest
  pub records : Next (λ t. begins_record t ≡ true → NoRecord (Fit E R F front) (Halts R front x)) rest
  pub groups : F an_end → Next (λ t. begins_record t ≡ true → NoGroup (Halts R front x)) rest
  pub follows : (t : Token) → F t → StopsAt R front x t
  pub completes : CompletesBegun R F front
  pub nothing : front ≡ [] → (t : Token) → F t → E t
  pub words : front ≡ [] → Next (λ t. (u : Token) → Like W t u → Like V t u) rest

-- neither a type nor a predicate is read in place of the token
abbrev pub Free : {A : Type 0} → Type 0 → Reader A → List Placed → Token → Type 0
Free V R front t = ((w : List ℕ) (width : ℕ) → IsTypeWord w width → Bad V R front t (Word w)) × ((pred : Pred) → Bad V R front t (Word (predicate_keyword pred)))

-- the token repeats none of the flags right before it, or neither a type nor a predicate is read there
abbrev pub New : {A : Type 0} → Type 0 → Reader A → List Placed → Token → Type 0
New V R front t = ¬ IsAgain front t ⊎ Free V R front t

pub record IsRefused {A : Type 0} (V : Type 0) (R : Reader A) (F : Follow) (W : Why) (tokens : List Placed) (found : Fault IrFaultKind) : Type 0 where
  pub front : List Placed
  pub token : Placed
  pub behind : List Placed
  pub there : tokens ≡ front ++ token ∷ behind
  pub refused : RefusesPlaced R front token
  pub completes : CompletesBegun R F front
  pub why : W front token found
  -- a token of which the fault is `LeftOut` repeats no flag
  pub new : IsLeft found.kind → New V R front token.1

abbrev pub OutcomeIf : {A : Type 0} → Type 0 → Follow → Reader A → Follow → Type 0 → Why → List Placed → Read A → Type 0
OutcomeIf V E R F W Y tokens (Ok x) = IsReadIf V E R F W tokens x.0 x.1
OutcomeIf V E R F W Y tokens (Err e) = IsRefused V R F Y tokens e

abbrev pub Outcome : {A : Type 0} → Follow → Reader A → Follow → Why → List Placed → Read A → Type 0
Outcome E R F Y tokens r = OutcomeIf (Unit {0}) E R F (Unit {0}) Y tokens r

abbrev pub OutcomesIf : {A : Type 0} → Type 0 → Follow → Reader A → Follow → Type 0 → Type 0
OutcomesIf V E R F W = (tokens : List Placed) → Ended tokens → OutcomeIf V E R F W (ReasonsIf V E R F) tokens (R tokens)

-- The parser has a sample, what it reads or refuses is known for all tokens that end as those of a text do, and it
-- splits no run of flags. It may begin before tokens of E, and tokens of F may follow it.
pub record GoodIf {A : Type 0} (V : Type 0) (E : Follow) (R : Reader A) (F : Follow) (W : Type 0) : Type 0 where
  pub sample : Sample E R F
  pub outcome : OutcomesIf V E R F W
  pub apart : ReadsApart R

abbrev pub Good : {A : Type 0} → Follow → Reader A → Follow → Type 0
Good E R F = GoodIf (Unit {0}) E R F (Unit {0})

-- ---- one token

pub data Takes {A : Type 0} (R : Reader A) (W : Why) (line : ℕ) (t : Token) : Type 0 where
  takes : (x : A) → is_last t ≡ false → ((more : List Placed) → R ((line, t) ∷ more) ≡ Ok (x, more)) → Takes R W line t
  refuses : (found : Fault IrFaultKind) → W [] (line, t) found → ((more : List Placed) → R ((line, t) ∷ more) ≡ Err found) → Takes R W line t
  -- for a reason that depends on what stands behind
  refuses_by : ((more : List Placed) → (e : Fault IrFaultKind) × W [] (line, t) e × (R ((line, t) ∷ more) ≡ Err e)) → Takes R W line t

-- a token that the parser takes by itself fits
pub fits_alone : {A : Type 0} (E : Follow) (R : Reader A) (F : Follow) (t : Token) (x : A) → E t → ((more : List Placed) → R ((0, t) ∷ more) ≡ Ok (x, more)) → Fit E R F [] t
fits_alone E R F t x e h = ((x, [], λ tokens next. h tokens), λ none. e)

abbrev pub SampleToken : {A : Type 0} → Follow → Reader A → Type 0
SampleToken {A} E R = (t : Token) × E t × (x : A) × ((more : List Placed) → R ((0, t) ∷ more) ≡ Ok (x, more))

pub taken : {A : Type 0} (V : Type 0) (E : Follow) (R : Reader A) (F : Follow) (W : Type 0) (Y : Why) (line : ℕ) (t : Token) (rest : List Placed) → Ended ((line, t) ∷ rest) → Takes R Y line t → OutcomeIf V E R F W Y ((line, t) ∷ rest) (R ((line, t) ∷ rest))
taken V E R F W Y line t rest e (takes x going h) =
    subst (OutcomeIf V E R F W Y ((line, t) ∷ rest)) (sym (h rest))
    (record {
      front = (line, t) ∷ [];
      there = refl;
      ended = ended_behind (line, t) rest going e;
      stopped = stops_any R ((line, t) ∷ []) x rest (ended_behind (line, t) rest going e) (λ u more. h (u ∷ more));
      halts = next_any _ rest (ended_behind (line, t) rest going e) (λ s u like more. inl (h ((0, u) ∷ more)));
      records = next_any _ rest (ended_behind (line, t) rest going e) (λ s begins. inr (λ ending more. inl (h ((0, Word (ending_word ending)) ∷ more))));
      groups = λ end. next_any _ rest (ended_behind (line, t) rest going e) (λ s begins text more. inl (h ((0, Group text) ∷ more)));
      follows = λ u f more. h ((0, u) ∷ more);
      completes = (x, [], λ ts next. h ts);
      nothing = λ none. absurd cc;
      words = λ none. absurd cc;
    })
taken V E R F W Y line t rest e (refuses found why h) =
    subst (OutcomeIf V E R F W Y ((line, t) ∷ rest)) (sym (h rest)) (record { front = []; token = (line, t); behind = rest; there = refl; refused = λ more. (found, h more); completes = tt; why = why; new = λ left. inl (none_repeated t) })
taken V E R F W Y line t rest e (refuses_by h) =
    let here = h rest in
    subst (OutcomeIf V E R F W Y ((line, t) ∷ rest)) (sym here.2)
    (record { front = []; token = (line, t); behind = rest; there = refl; refused = λ more. let r = h more in (r.0, r.2); completes = tt; why = here.1; new = λ left. inl (none_repeated t) })

pub token_outcome : {A : Type 0} (V : Type 0) (E : Follow) (R : Reader A) (F : Follow) (W : Type 0) (Y : Why) → ((line : ℕ) (t : Token) → Takes R Y line t) → (tokens : List Placed) → Ended tokens → OutcomeIf V E R F W Y tokens (R tokens)
token_outcome V E R F W Y one [] e = absurd e
token_outcome V E R F W Y one ((line, t) ∷ rest) e = taken V E R F W Y line t rest e (one line t)

-- the parser refuses flags, and the empty list of tokens
abbrev pub TakesNoFlag : {A : Type 0} → Reader A → Type 0
TakesNoFlag R = ((e : Fault IrFaultKind) × (R [] ≡ Err e)) × ((flag : Flag) → RefusesEach R (Word (flag_keyword flag)))

abbrev the_read : {A : Type 0} → Read A → Read A
the_read r = r

pub token_apart : {A : Type 0} (R : Reader A) (Y : Why) → TakesNoFlag R → ((line : ℕ) (t : Token) → Takes R Y line t) → ReadsApart R
token_apart R Y flags one [] x is = let both : the_read (Err flags.0.0) ≡ Ok x = sym flags.0.1 ∙ is in absurd cc
token_apart R Y flags one ((line, t) ∷ rest) x is = by (one line t)
  where
    no_flag : (y : _) → ((more : List Placed) → R ((line, t) ∷ more) ≡ Ok (y, more)) → NoFlag t
    no_flag y h flag same =
        let r = flags.1 flag line [] in
        let both : the_read (Err r.0) ≡ Ok (y, []) = sym r.1 ∙ ap (λ (u : Token). R ((line, u) ∷ [])) (sym same) ∙ h [] in absurd cc

    by : Takes R Y line t → (front : List Placed) × ((line, t) ∷ rest ≡ front ++ x.1) × Parted front x.1
    by (takes y going h) = read_as (λ z. (front : List Placed) × ((line, t) ∷ rest ≡ front ++ z.1) × Parted front z.1) (y, rest) x (sym (h rest) ∙ is) ((line, t) ∷ [], refl, inl (no_flag y h))
    by (refuses found why h) = let both : the_read (Err found) ≡ Ok x = sym (h rest) ∙ is in absurd cc
    by (refuses_by h) = let r = h rest in let both : the_read (Err r.0) ≡ Ok x = sym r.2 ∙ is in absurd cc

pub one_token : {A : Type 0} {V : Type 0} {E : Follow} {R : Reader A} {F : Follow} {W : Type 0} → SampleToken E R → TakesNoFlag R → ((line : ℕ) (t : Token) → Takes R (ReasonsIf V E R F) line t) → GoodIf V E R F W
one_token some flags one = record { sample = (some.2, (0, some.0) ∷ [], λ tokens next. (some.3 tokens, some.1)); outcome = token_outcome _ _ _ _ _ _ one; apart = token_apart _ _ flags one }

-- ---- one token, or none

pub data MayTake {A : Type 0} (R : Reader A) (Y : Why) (x : A) (line : ℕ) (t : Token) : Type 0 where
  may_take : Takes R Y line t → MayTake R Y x line t
  leaves : StopsEach R [] x t → ((u : Token) → Like (Unit {0}) t u → StopsEach R [] x u) → (begins_record t ≡ true → ((ending : Ending) → StopsEach R [] x (Word (ending_word ending))) × NoGroup (StopsEach R [] x)) → MayTake R Y x line t

-- the parser reads nothing before flags, and of no tokens
abbrev pub LeavesFlags : {A : Type 0} → Reader A → A → Type 0
LeavesFlags R x = (R [] ≡ Ok (x, [])) × ((flag : Flag) → StopsEach R [] x (Word (flag_keyword flag)))

no_longer : {A : Type 0} (x y : A) (t : Placed) → the_read (Ok (x, t ∷ [])) ≡ the_read (Ok (y, [])) → ⊥
no_longer x y t same = let both = ap (λ z. z.1) (ok_is (x, t ∷ []) (y, []) same) in cc

pub token_or_none : {A : Type 0} {E : Follow} {R : Reader A} {F : Follow} (x : A) → ((t : Token) → F t → StopsEach R [] x t) → ((t : Token) → F t → E t) → LeavesFlags R x → ((line : ℕ) (t : Token) → MayTake R (Reasons E R F) x line t) → Good E R F
token_or_none {A} {E} {R} {F} x none_at enters flags one = record {
  sample = (x, [], λ tokens next. (stops R [] x tokens (stops_next R [] x tokens (next_map F (StopsEach R [] x) tokens none_at next)), next_map F E tokens enters next));
  outcome = outcome;
  apart = apart;
}
  where
    apart : ReadsApart R
    apart [] y is = read_as (λ z. (front : List Placed) × ([] ≡ front ++ z.1) × Parted front z.1) (x, []) y (sym flags.0 ∙ is) ([], refl, inl tt)
    apart ((line, t) ∷ rest) y is = of (one line t)
      where
        no_flag : (z : A) → ((more : List Placed) → R ((line, t) ∷ more) ≡ Ok (z, more)) → NoFlag t
        no_flag z h flag same = no_longer x z (line, Word (flag_keyword flag)) (sym (flags.1 flag line []) ∙ ap (λ (u : Token). R ((line, u) ∷ [])) (sym same) ∙ h [])

        of : MayTake R (Reasons E R F) x line t → (front : List Placed) × ((line, t) ∷ rest ≡ front ++ y.1) × Parted front y.1
        of (may_take (takes z going h)) = read_as (λ z. (front : List Placed) × ((line, t) ∷ rest ≡ front ++ z.1) × Parted front z.1) (z, rest) y (sym (h rest) ∙ is) ((line, t) ∷ [], refl, inl (no_flag z h))
        of (may_take (refuses found why h)) = let both : the_read (Err found) ≡ Ok y = sym (h rest) ∙ is in absurd cc
        of (may_take (refuses_by h)) = let r = h rest in let both : the_read (Err r.0) ≡ Ok y = sym r.2 ∙ is in absurd cc
        of (leaves h k j) = read_as (λ z. (front : List Placed) × ((line, t) ∷ rest ≡ front ++ z.1) × Parted front z.1) (x, (line, t) ∷ rest) y (sym (h line rest) ∙ is) ([], refl, inl tt)

    outcome : (tokens : List Placed) → Ended tokens → Outcome E R F (Reasons E R F) tokens (R tokens)
    outcome [] e = absurd e
    outcome ((line, t) ∷ rest) e = of (one line t)
      where
        of : MayTake R (Reasons E R F) x line t → Outcome E R F (Reasons E R F) ((line, t) ∷ rest) (R ((line, t) ∷ rest))
        of (may_take h) = taken (Unit {0}) E R F (Unit {0}) (Reasons E R F) line t rest e h
        of (leaves h k j) =
            subst (Outcome E R F (Reasons E R F) ((line, t) ∷ rest)) (sym (h line rest))
            (record {
              front = [];
              there = refl;
              ended = e;
              stopped = h line;
              halts = λ u like more. inl (k u like 0 more);
              records = λ begins. inr (λ ending more. inl ((j begins).0 ending 0 more));
              groups = λ end begins text more. inl ((j begins).1 text 0 more);
              follows = λ u f. none_at u f 0;
              completes = tt;
              nothing = λ none. enters;
              words = λ none u like. like;
            })

-- ---- the parser that reads nothing

pub done-good : {A : Type 0} {V : Type 0} {E F : Follow} → ((t : Token) → F t → E t) → (x : A) → GoodIf V E (done x) F V
done-good {A} {V} {E} {F} enters x = record {
  sample = (x, [], λ tokens next. (refl, next_map F E tokens enters next));
  outcome = λ tokens e. record {
    front = [];
    there = refl;
    ended = e;
    stopped = stops_any (done x) [] x tokens e (λ t more. refl);
    halts = next_any _ tokens e (λ t u like more. inl refl);
    records = next_any _ tokens e (λ t begins. inr (λ ending more. inl refl));
    groups = λ end. next_any _ tokens e (λ t begins text more. inl refl);
    follows = λ t f more. refl;
    completes = tt;
    nothing = λ none. enters;
    words = λ none. next_any _ tokens e (λ t u like. like);
  };
  apart = done_apart x;
}

-- ---- parsers in sequence

read_both : {A B : Type 0} (R : Reader A) (S : A → Reader B) (front second : List Placed) (x : A) (y : B) (tokens rest : List Placed)
    → R (front ++ (second ++ tokens)) ≡ Ok (x, second ++ tokens) → S x (second ++ tokens) ≡ Ok (y, rest) → (R >>= S) ((front ++ second) ++ tokens) ≡ Ok (y, rest)
read_both R S front second x y tokens rest one two = rw (append_assoc front second tokens, one) two

-- a sample of the first and one of the second
pub sample_both : {A B : Type 0} (E F G : Follow) (R : Reader A) (S : A → Reader B) → Sample E R F → ((x : A) → Sample F (S x) G) → Sample E (R >>= S) G
sample_both {A} {B} E F G R S r s =
    let q = s r.0 in (
      q.0,
      r.1 ++ q.1,
      λ tokens next.
          let second = q.2 tokens next in
          let first = r.2 (q.1 ++ tokens) second.1 in
          (read_both R S r.1 q.1 r.0 q.0 tokens tokens first.0 second.0, subst (Next E) (sym (append_assoc r.1 q.1 tokens)) first.1),
    )

no_first : (a b : List Placed) → a ++ b ≡ [] → a ≡ []
no_first [] b none = refl
no_first (t ∷ a) b none = absurd cc

no_second : (a b : List Placed) → a ++ b ≡ [] → b ≡ []
no_second [] b none = none
no_second (t ∷ a) b none = absurd cc

-- ---- completions

-- a completion of the first and a sample of the second complete the sequence
completes_first : {A B : Type 0} (F G : Follow) (R : Reader A) (S : A → Reader B) → ((x : A) → Sample F (S x) G) → (front : List Placed) → CompletesBegun R F front → CompletesBegun (R >>= S) G front
completes_first F G R S s [] c = tt
completes_first F G R S s (t ∷ front) c =
    let q = s c.0 in
    (q.0, c.1 ++ q.1, λ ts next. let second = q.2 ts next in rw (append_assoc c.1 q.1 ts, c.2 (q.1 ++ ts) second.1) second.0)

completes_both : {A B : Type 0} {U V : Type 0} {E F : Follow} (G : Follow) (R : Reader A) (S : A → Reader B) → ((x : A) → Sample F (S x) G) → (tokens : List Placed) (x : A × List Placed) (o : IsReadIf U E R F V tokens x.0 x.1) (front rest : List Placed)
    → x.1 ≡ front ++ rest → CompletesBegun (S x.0) G front → CompletesBegun (R >>= S) G (o.front ++ front)
completes_both {A} {B} {U} {V} {E} {F} G R S s tokens x o [] rest same c = subst (CompletesBegun (R >>= S) G) (sym (append-nil o.front)) (completes_first F G R S s o.front o.completes)
completes_both {A} {B} {U} {V} {E} {F} G R S s tokens x o ((l, u) ∷ front) rest same c =
    begun (R >>= S) G (o.front ++ (l, u) ∷ front) (
      c.0,
      c.1,
      λ ts next.
          read_both R S o.front ((l, u) ∷ front) x.0 c.0 (c.1 ++ ts) ts
          (stops R o.front x.0 ((l, u) ∷ (front ++ (c.1 ++ ts))) (subst (StopsBefore R o.front x.0) same o.stopped)) (c.2 ts next),
    )

-- ---- tokens that fit

-- a token that fits the first parser, or the second behind it, fits the sequence
pub fits_first : {A B : Type 0} (E F G : Follow) (R : Reader A) (S : A → Reader B) → ((x : A) → Sample F (S x) G) → (front : List Placed) (t : Token) → Fit E R F front t → Fit E (R >>= S) G front t
fits_first E F G R S s front t (c, enters) =
    let q = s c.0 in
    ((q.0, c.1 ++ q.1, λ ts next. let second = q.2 ts next in rw (append_assoc c.1 q.1 ts, c.2 (q.1 ++ ts) second.1) second.0), enters)

pub fits_second : {A B : Type 0} (U V : Type 0) (E F G : Follow) (R : Reader A) (S : A → Reader B) (tokens : List Placed) (x : A × List Placed) (o : IsReadIf U E R F V tokens x.0 x.1)
    (front : List Placed) (u : Placed) (behind : List Placed) → x.1 ≡ front ++ u ∷ behind → (t : Token) → Fit F (S x.0) G front t → Fit E (R >>= S) G (o.front ++ front) t
fits_second U V E F G R S tokens x o [] u behind there t (c, enters) =
    ((c.0, c.1, λ ts next. read_both R S o.front [] x.0 c.0 ((0, t) ∷ (c.1 ++ ts)) ts (o.follows t (enters refl) (c.1 ++ ts)) (c.2 ts next)), λ none. o.nothing (no_first o.front [] none) t (enters refl))
fits_second U V E F G R S tokens x o ((l, v) ∷ front) u behind there t (c, enters) = (
  (
    c.0,
    c.1,
    λ ts next.
        read_both R S o.front ((l, v) ∷ front) x.0 c.0 ((0, t) ∷ (c.1 ++ ts)) ts
        (stops R o.front x.0 ((l, v) ∷ (front ++ (0, t) ∷ (c.1 ++ ts))) (subst (StopsBefore R o.front x.0) there o.stopped)) (c.2 ts next),
  ),
  λ none. let bad = no_second o.front ((l, v) ∷ front) none in absurd cc,
)

-- the same for values
fits_end_first : {A B : Type 0} (E F G : Follow) (R : Reader A) (S : A → Reader B) → ((x : A) → Sample F (S x) G) → (front : List Placed) (v : Token) → FitsEnd E R F front v → FitsEnd E (R >>= S) G front v
fits_end_first E F G R S s front v (c, enters) =
    let q = s c.0 in (
      (
        q.0,
        c.1 ++ q.1,
        λ ts next.
            let second = q.2 ts next in
            let first = c.2 (q.1 ++ ts) second.1 in
            rw (append_assoc c.1 q.1 ts) (rw first.0 second.0, first.1),
      ),
      enters,
    )

fits_end_second : {A B : Type 0} (U V : Type 0) (E F G : Follow) (R : Reader A) (S : A → Reader B) (tokens : List Placed) (x : A × List Placed) (o : IsReadIf U E R F V tokens x.0 x.1)
    (front : List Placed) (u : Placed) (behind : List Placed) → x.1 ≡ front ++ u ∷ behind → (v : Token) → FitsEnd F (S x.0) G front v → FitsEnd E (R >>= S) G (o.front ++ front) v
fits_end_second U V E F G R S tokens x o [] u behind there v (c, enters) = (
  (c.0, c.1, λ ts next. let end = c.2 ts next in (read_both R S o.front [] x.0 c.0 ((0, v) ∷ (c.1 ++ ts)) ts (o.follows v (enters refl) (c.1 ++ ts)) end.0, end.1)),
  λ none. o.nothing (no_first o.front [] none) v (enters refl),
)
fits_end_second U V E F G R S tokens x o ((l, w) ∷ front) u behind there v (c, enters) = (
  (
    c.0,
    c.1,
    λ ts next.
        let end = c.2 ts next in (
          read_both R S o.front ((l, w) ∷ front) x.0 c.0 ((0, v) ∷ (c.1 ++ ts)) ts
              (stops R o.front x.0 ((l, w) ∷ (front ++ (0, v) ∷ (c.1 ++ ts))) (subst (StopsBefore R o.front x.0) there o.stopped)) end.0,
          end.1,
        ),
  ),
  λ none. let bad = no_second o.front ((l, w) ∷ front) none in absurd cc,
)

-- ---- what the sequence reads

both_read : {A B : Type 0} {U V W : Type 0} {E F G : Follow} (R : Reader A) (S : A → Reader B) (tokens : List Placed) (x : A × List Placed) (y : B × List Placed)
    → ((z : A) → Sample F (S z) G) → IsReadIf U E R F V tokens x.0 x.1 → IsReadIf V F (S x.0) G W x.1 y.0 y.1 → IsReadIf U E (R >>= S) G W tokens y.0 y.1
both_read {A} {B} {U} {V} {W} {E} {F} {G} R S tokens x y s o p = record {
  front = o.front ++ p.front;
  there = o.there ∙ ap (λ (ts : List Placed). o.front ++ ts) p.there ∙ sym (append_assoc o.front p.front y.1);
  ended = p.ended;
  stopped = next_here y.1 p.stopped (subst (StopsBefore R o.front x.0) p.there o.stopped);
  halts = halts_here y.1 p.ended p.front p.words p.halts (subst (StopsBefore R o.front x.0) p.there o.stopped) (subst (Next (λ t. (u : Token) → Like V t u → Halts R o.front x.0 u)) p.there o.halts);
  records = records_here y.1 p.front p.there p.records;
  groups = λ end. groups_here y.1 p.front p.there (p.groups end) (λ none. o.groups (p.nothing none an_end end));
  follows = λ t g more. at (0, t) more (p.follows t g more) (follows_first t g more);
  completes = completes_both G R S s tokens x o p.front y.1 p.there p.completes;
  nothing = λ none t g. o.nothing (no_first o.front p.front none) t (p.nothing (no_second o.front p.front none) t g);
  words = λ none. next_both y.1 (p.words (no_second o.front p.front none)) (subst (λ (f : List Placed). Next (λ t. (u : Token) → Like V t u → Like U t u) (f ++ y.1)) (no_second o.front p.front none) (subst (Next (λ t. (u : Token) → Like V t u → Like U t u)) p.there (o.words (no_first o.front p.front none))));
}
  where
    at : (t : Placed) (more : List Placed) → S x.0 (p.front ++ t ∷ more) ≡ Ok (y.0, t ∷ more) → StopsBefore R o.front x.0 (p.front ++ t ∷ more) → (R >>= S) ((o.front ++ p.front) ++ t ∷ more) ≡ Ok (y.0, t ∷ more)
    at t more h k = read_both R S o.front p.front x.0 y.0 (t ∷ more) (t ∷ more) (stops R o.front x.0 (p.front ++ t ∷ more) k) h

    next_here : (rest : List Placed) → StopsBefore (S x.0) p.front y.0 rest → StopsBefore R o.front x.0 (p.front ++ rest) → StopsBefore (R >>= S) (o.front ++ p.front) y.0 rest
    next_here [] h k = absurd h
    next_here (t ∷ rest) h k = λ more. at t more (h more) (stops_same R o.front x.0 p.front t rest more k)

    next_both : (rest : List Placed) → Next (λ t. (u : Token) → Like W t u → Like V t u) rest → Next (λ t. (u : Token) → Like V t u → Like U t u) rest → Next (λ t. (u : Token) → Like W t u → Like U t u) rest
    next_both [] h k = absurd h
    next_both ((l, t) ∷ rest) h k = λ u like. k u (h u like)

    then_halts : (front : List Placed) (u : Token) (more : List Placed) → R (o.front ++ (front ++ (0, u) ∷ more)) ≡ Ok (x.0, front ++ (0, u) ∷ more)
        → (S x.0 (front ++ (0, u) ∷ more) ≡ Ok (y.0, (0, u) ∷ more)) ⊎ ((e : Fault IrFaultKind) × (S x.0 (front ++ (0, u) ∷ more) ≡ Err e))
        → ((R >>= S) ((o.front ++ front) ++ (0, u) ∷ more) ≡ Ok (y.0, (0, u) ∷ more)) ⊎ ((e : Fault IrFaultKind) × ((R >>= S) ((o.front ++ front) ++ (0, u) ∷ more) ≡ Err e))
    then_halts front u more one (inl two) = inl (rw (append_assoc o.front front ((0, u) ∷ more), one) two)
    then_halts front u more one (inr (e, two)) = inr (e, rw (append_assoc o.front front ((0, u) ∷ more), one) two)

    first_halts : (u : Token) (more : List Placed) → (R (o.front ++ (0, u) ∷ more) ≡ Ok (x.0, (0, u) ∷ more)) ⊎ ((e : Fault IrFaultKind) × (R (o.front ++ (0, u) ∷ more) ≡ Err e))
        → (S x.0 ((0, u) ∷ more) ≡ Ok (y.0, (0, u) ∷ more)) ⊎ ((e : Fault IrFaultKind) × (S x.0 ((0, u) ∷ more) ≡ Err e))
        → ((R >>= S) ((o.front ++ []) ++ (0, u) ∷ more) ≡ Ok (y.0, (0, u) ∷ more)) ⊎ ((e : Fault IrFaultKind) × ((R >>= S) ((o.front ++ []) ++ (0, u) ∷ more) ≡ Err e))
    first_halts u more (inl one) two = then_halts [] u more one two
    first_halts u more (inr (e, one)) two = inr (e, rw (append_assoc o.front [] ((0, u) ∷ more), one) refl)

    halts_here : (rest : List Placed) → Ended rest → (front : List Placed) → (front ≡ [] → Next (λ t. (u : Token) → Like W t u → Like V t u) rest) → Next (λ t. (u : Token) → Like W t u → Halts (S x.0) front y.0 u) rest → StopsBefore R o.front x.0 (front ++ rest)
        → Next (λ t. (u : Token) → Like V t u → Halts R o.front x.0 u) (front ++ rest) → Next (λ t. (u : Token) → Like W t u → Halts (R >>= S) (o.front ++ front) y.0 u) rest
    halts_here [] e front w h k j = absurd h
    halts_here ((l, t) ∷ rest) e [] w h k j = λ u like more. first_halts u more (j u (w refl u like) more) (h u like more)
    halts_here ((l, t) ∷ rest) e ((i, v) ∷ front) w h k j = λ u like more. then_halts ((i, v) ∷ front) u more (stops R o.front x.0 ((i, v) ∷ (front ++ (0, u) ∷ more)) k) (h u like more)

    first_records : (t : Token) (begins : begins_record t ≡ true) → NoRecord (Fit E R F o.front) (Halts R o.front x.0) → NoRecord (Fit F (S x.0) G []) (Halts (S x.0) [] y.0) → (rest : List Placed) (l : ℕ) → x.1 ≡ (l, t) ∷ rest
        → NoRecord (Fit E (R >>= S) G (o.front ++ [])) (Halts (R >>= S) (o.front ++ []) y.0)
    first_records t begins h (inl fit) rest l same = inl (fits_second U V E F G R S tokens x o [] (l, t) rest same a_group fit)
    first_records t begins (inl fit) (inr k) rest l same = inl (subst (λ (f : List Placed). Fit E (R >>= S) G f a_group) (sym (append-nil o.front)) (fits_first E F G R S s o.front a_group fit))
    first_records t begins (inr h) (inr k) rest l same = inr (λ ending more. first_halts (Word (ending_word ending)) more (h ending more) (k ending more))

    then_records : (t : Token) (i : ℕ) (v : Token) (front : List Placed) → NoRecord (Fit F (S x.0) G ((i, v) ∷ front)) (Halts (S x.0) ((i, v) ∷ front) y.0) → (rest : List Placed) (l : ℕ) → x.1 ≡ (i, v) ∷ (front ++ (l, t) ∷ rest)
        → NoRecord (Fit E (R >>= S) G (o.front ++ (i, v) ∷ front)) (Halts (R >>= S) (o.front ++ (i, v) ∷ front) y.0)
    then_records t i v front (inl fit) rest l same = inl (fits_second U V E F G R S tokens x o ((i, v) ∷ front) (l, t) rest same a_group fit)
    then_records t i v front (inr k) rest l same =
        inr (λ ending more.
        then_halts ((i, v) ∷ front) (Word (ending_word ending)) more (stops R o.front x.0 ((i, v) ∷ (front ++ (0, Word (ending_word ending)) ∷ more)) (subst (StopsBefore R o.front x.0) same o.stopped)) (k ending more))

    records_here : (rest front : List Placed) → x.1 ≡ front ++ rest → Next (λ t. begins_record t ≡ true → NoRecord (Fit F (S x.0) G front) (Halts (S x.0) front y.0)) rest
        → Next (λ t. begins_record t ≡ true → NoRecord (Fit E (R >>= S) G (o.front ++ front)) (Halts (R >>= S) (o.front ++ front) y.0)) rest
    records_here [] front same h = absurd h
    records_here ((l, t) ∷ rest) [] same h = λ begins. first_records t begins (subst (Next (λ t. begins_record t ≡ true → NoRecord (Fit E R F o.front) (Halts R o.front x.0))) same o.records begins) (h begins) rest l same
    records_here ((l, t) ∷ rest) ((i, v) ∷ front) same h = λ begins. then_records t i v front (h begins) rest l same

    groups_here : (rest front : List Placed) → x.1 ≡ front ++ rest → Next (λ t. begins_record t ≡ true → NoGroup (Halts (S x.0) front y.0)) rest → (front ≡ [] → Next (λ t. begins_record t ≡ true → NoGroup (Halts R o.front x.0)) x.1)
        → Next (λ t. begins_record t ≡ true → NoGroup (Halts (R >>= S) (o.front ++ front) y.0)) rest
    groups_here [] front same h k = absurd h
    groups_here ((l, t) ∷ rest) [] same h k = λ begins text more. first_halts (Group text) more (subst (Next (λ t. begins_record t ≡ true → NoGroup (Halts R o.front x.0))) same (k refl) begins text more) (h begins text more)
    groups_here ((l, t) ∷ rest) ((i, v) ∷ front) same h k = λ begins text more.
        then_halts ((i, v) ∷ front) (Group text) more (stops R o.front x.0 ((i, v) ∷ (front ++ (0, Group text) ∷ more)) (subst (StopsBefore R o.front x.0) same o.stopped)) (h begins text more)

    follows_first : (t : Token) → G t → (more : List Placed) → StopsBefore R o.front x.0 (p.front ++ (0, t) ∷ more)
    follows_first t g more = by_front p.front p.there (λ none. o.follows t (p.nothing none t g))
      where
        by_front : (front : List Placed) → x.1 ≡ front ++ y.1 → (front ≡ [] → StopsAt R o.front x.0 t) → StopsBefore R o.front x.0 (front ++ (0, t) ∷ more)
        by_front [] same h = h refl
        by_front (u ∷ front) same h = subst (StopsBefore R o.front x.0) same o.stopped

-- ---- what the sequence refuses

-- a token that the first parser refuses, or the second behind it, is refused by the sequence
pub bad_first : {A B : Type 0} (V : Type 0) (R : Reader A) (S : A → Reader B) (front : List Placed) (t u : Token) → Bad V R front t u → Bad V (R >>= S) front t u
bad_first V R S front t u (refuses_u, like) = (λ more. let r = refuses_u more in (r.0, rw r.1 refl), like)

first_refuses : {A B : Type 0} {T : Type 0} {F G : Follow} {V W : Why} (R : Reader A) (S : A → Reader B) → ((x : A) → Sample F (S x) G) → (tokens : List Placed) (found : Fault IrFaultKind) (o : IsRefused T R F V tokens found) → W o.front o.token found → IsRefused T (R >>= S) G W tokens found
first_refuses {T = T} {F = F} {G = G} R S s tokens found o why = record {
  front = o.front;
  token = o.token;
  behind = o.behind;
  there = o.there;
  refused = λ more. let r = o.refused more in (r.0, rw r.1 refl);
  completes = completes_first F G R S s o.front o.completes;
  why = why;
  new = λ left. by (o.new left);
}
  where
    by : New T R o.front o.token.1 → New T (R >>= S) o.front o.token.1
    by (inl new) = inl new
    by (inr free) = inr (λ w width is. bad_first T R S o.front o.token.1 (Word w) (free.0 w width is), λ pred. bad_first T R S o.front o.token.1 (Word (predicate_keyword pred)) (free.1 pred))

second_refuses : {A B : Type 0} {U U' : Type 0} {E F G : Follow} {V W : Why} (R : Reader A) (S : A → Reader B) → ((x : A) → Sample F (S x) G) → (tokens : List Placed) (x : A × List Placed) (found : Fault IrFaultKind) (o : IsReadIf U E R F U' tokens x.0 x.1) (p : IsRefused U' (S x.0) G V x.1 found)
    → W (o.front ++ p.front) p.token found → (IsLeft found.kind → New U (R >>= S) (o.front ++ p.front) p.token.1) → IsRefused U (R >>= S) G W tokens found
second_refuses {G = G} R S s tokens x found o p why new = record {
  front = o.front ++ p.front;
  token = p.token;
  behind = p.behind;
  there = o.there ∙ ap (λ (ts : List Placed). o.front ++ ts) p.there ∙ sym (append_assoc o.front p.front (p.token ∷ p.behind));
  refused = λ more.
      let r = p.refused more in
      (r.0, rw (append_assoc o.front p.front (p.token ∷ more), stops R o.front x.0 (p.front ++ p.token ∷ more) (stops_same R o.front x.0 p.front p.token p.behind more (subst (StopsBefore R o.front x.0) p.there o.stopped))) r.1);
  completes = completes_both G R S s tokens x o p.front (p.token ∷ p.behind) p.there p.completes;
  why = why;
  new = new;
}

-- if the first halts before a token and the second refuses it, the sequence refuses it
halts_refuses : {A B : Type 0} (R : Reader A) (S : A → Reader B) (front : List Placed) (x : A) (u : Token) (more : List Placed) → (e : Fault IrFaultKind) × (S x ((0, u) ∷ more) ≡ Err e)
    → (R (front ++ (0, u) ∷ more) ≡ Ok (x, (0, u) ∷ more)) ⊎ ((e : Fault IrFaultKind) × (R (front ++ (0, u) ∷ more) ≡ Err e)) → (e : Fault IrFaultKind) × ((R >>= S) ((front ++ []) ++ (0, u) ∷ more) ≡ Err e)
halts_refuses R S front x u more r (inl first) = (r.0, rw (append_assoc front [] ((0, u) ∷ more), first) r.1)
halts_refuses R S front x u more r (inr (e, first)) = (e, rw (append_assoc front [] ((0, u) ∷ more), first) refl)

-- behind a token that the second parser has read, what it refuses is refused by the sequence
begun_refuses : {A B : Type 0} (U V : Type 0) (E F : Follow) (R : Reader A) (S : A → Reader B) (tokens : List Placed) (x : A × List Placed) (o : IsReadIf U E R F V tokens x.0 x.1)
    (v : Placed) (front rest : List Placed) → x.1 ≡ v ∷ (front ++ rest) → (others : List Placed) → (e : Fault IrFaultKind) × (S x.0 (v ∷ (front ++ others)) ≡ Err e) → (e : Fault IrFaultKind) × ((R >>= S) ((o.front ++ v ∷ front) ++ others) ≡ Err e)
begun_refuses U V E F R S tokens x o v front rest there others r =
    let one = stops R o.front x.0 (v ∷ (front ++ others)) (subst (StopsBefore R o.front x.0) there o.stopped) in
    (r.0, rw (append_assoc o.front (v ∷ front) others, one) r.1)

pub bad_second : {A B : Type 0} (U V : Type 0) (E F : Follow) (R : Reader A) (S : A → Reader B) (tokens : List Placed) (x : A × List Placed) (o : IsReadIf U E R F V tokens x.0 x.1)
    (front : List Placed) (l : ℕ) (t : Token) (behind : List Placed) → x.1 ≡ front ++ (l, t) ∷ behind → (u : Token) → Bad V (S x.0) front t u → Bad U (R >>= S) (o.front ++ front) t u
bad_second U V E F R S tokens x o [] l t behind there u (refuses_u, like) =
    (λ more. halts_refuses R S o.front x.0 u more (refuses_u more) (halts u (like refl) more), λ none. known (o.words (no_first o.front [] none)) u (like refl))
  where
    known : Next (λ v. (u : Token) → Like V v u → Like U v u) x.1 → (u : Token) → Like V t u → Like U t u
    known = subst (Next (λ v. (u : Token) → Like V v u → Like U v u)) there

    halts : (u : Token) → Like V t u → Halts R o.front x.0 u
    halts = subst (Next (λ v. (u : Token) → Like V v u → Halts R o.front x.0 u)) there o.halts
bad_second U V E F R S tokens x o ((i, v) ∷ front) l t behind there u (refuses_u, like) =
    (λ more. begun_refuses U V E F R S tokens x o (i, v) front ((l, t) ∷ behind) there ((0, u) ∷ more) (refuses_u more), λ none. let bad = no_second o.front ((i, v) ∷ front) none in absurd cc)

-- the same for values
refuses_end_second : {A B : Type 0} (U V : Type 0) (E F : Follow) (R : Reader A) (S : A → Reader B) (tokens : List Placed) (x : A × List Placed) (o : IsReadIf U E R F V tokens x.0 x.1)
    (front : List Placed) (l : ℕ) (t : Token) (behind : List Placed) → x.1 ≡ front ++ (l, t) ∷ behind → (v : Token) → RefusesEnd V (S x.0) front t v → RefusesEnd U (R >>= S) (o.front ++ front) t v
refuses_end_second U V E F R S tokens x o [] l t behind there v (refuses_v, like) =
    (λ end more ends. halts_refuses R S o.front x.0 v (end ∷ more) (refuses_v end more ends) (halts v (like refl) (end ∷ more)), λ none. known (o.words (no_first o.front [] none)) v (like refl))
  where
    known : Next (λ v. (u : Token) → Like V v u → Like U v u) x.1 → (u : Token) → Like V t u → Like U t u
    known = subst (Next (λ v. (u : Token) → Like V v u → Like U v u)) there

    halts : (u : Token) → Like V t u → Halts R o.front x.0 u
    halts = subst (Next (λ v. (u : Token) → Like V v u → Halts R o.front x.0 u)) there o.halts
refuses_end_second U V E F R S tokens x o ((i, w) ∷ front) l t behind there v (refuses_v, like) =
    (λ end more ends. begun_refuses U V E F R S tokens x o (i, w) front ((l, t) ∷ behind) there ((0, v) ∷ end ∷ more) (refuses_v end more ends), λ none. let bad = no_second o.front ((i, w) ∷ front) none in absurd cc)

-- a mark of a record that the second parser refuses is refused by the sequence; a group that fits behind the first fits
records_second : {A B : Type 0} (U V : Type 0) (E F G : Follow) (R : Reader A) (S : A → Reader B) → ((x : A) → Sample F (S x) G) → (tokens : List Placed) (x : A × List Placed) (o : IsReadIf U E R F V tokens x.0 x.1) (front : List Placed) (l : ℕ) (t : Token) (behind : List Placed) → x.1 ≡ front ++ (l, t) ∷ behind
    → begins_record t ≡ true → NoRecord (Fit F (S x.0) G front) (RefusesAt (S x.0) front) → NoRecord (Fit E (R >>= S) G (o.front ++ front)) (RefusesAt (R >>= S) (o.front ++ front))
records_second U V E F G R S s tokens x o front l t behind there begins (inl fit) = inl (fits_second U V E F G R S tokens x o front (l, t) behind there a_group fit)
records_second U V E F G R S s tokens x o [] l t behind there begins (inr refused) = by (subst (Next (λ v. begins_record v ≡ true → NoRecord (Fit E R F o.front) (Halts R o.front x.0))) there o.records begins)
  where
    by : NoRecord (Fit E R F o.front) (Halts R o.front x.0) → NoRecord (Fit E (R >>= S) G (o.front ++ [])) (RefusesAt (R >>= S) (o.front ++ []))
    by (inl fit) = inl (subst (λ (f : List Placed). Fit E (R >>= S) G f a_group) (sym (append-nil o.front)) (fits_first E F G R S s o.front a_group fit))
    by (inr halts) = inr (λ ending more. halts_refuses R S o.front x.0 (Word (ending_word ending)) more (refused ending more) (halts ending more))
records_second U V E F G R S s tokens x o ((i, v) ∷ front) l t behind there begins (inr refused) =
    inr (λ ending more. begun_refuses U V E F R S tokens x o (i, v) front ((l, t) ∷ behind) there ((0, Word (ending_word ending)) ∷ more) (refused ending more))

-- the same for groups
groups_second : {A B : Type 0} (U V : Type 0) (E F G : Follow) (R : Reader A) (S : A → Reader B) (tokens : List Placed) (x : A × List Placed) (o : IsReadIf U E R F V tokens x.0 x.1) (front : List Placed) (l : ℕ) (t : Token) (behind : List Placed) → x.1 ≡ front ++ (l, t) ∷ behind
    → begins_record t ≡ true → Fit F (S x.0) G front an_end → NoGroup (RefusesAt (S x.0) front) → NoGroup (RefusesAt (R >>= S) (o.front ++ front))
groups_second U V E F G R S tokens x o [] l t behind there begins end refused text more =
    halts_refuses R S o.front x.0 (Group text) more (refused text more) (subst (Next (λ v. begins_record v ≡ true → NoGroup (Halts R o.front x.0))) there (o.groups (end.1 refl)) begins text more)
groups_second U V E F G R S tokens x o ((i, v) ∷ front) l t behind there begins end refused text more =
    begun_refuses U V E F R S tokens x o (i, v) front ((l, t) ∷ behind) there ((0, Group text) ∷ more) (refused text more)

-- ---- reasons of refusals

-- a run of flags at the end stays one with other tokens in front
pub repeats_behind : (first front : List Placed) (w : List ℕ) → FollowsFlag front w → FollowsFlag (first ++ front) w
repeats_behind first front w (before, behind, flag, flags, same, is, each) = (first ++ before, behind, flag, flags, ap (λ (ts : List Placed). first ++ ts) same ∙ sym (append_assoc first before behind), is, each)

pub maps_first : {A B : Type 0} (V : Type 0) (E F G : Follow) (R : Reader A) (S : A → Reader B) → ((x : A) → Sample F (S x) G) → (front : List Placed) (t : Token)
    → Maps (Fit E R F front) (Fit E (R >>= S) G front) (Bad V R front) (Bad V (R >>= S) front) (Again E R F front) (Again E (R >>= S) G front) (RefusesAt R front) (RefusesAt (R >>= S) front) t
maps_first {A} {B} V E F G R S s front t = record { fits = λ v fit. fits_first E F G R S s front v fit; bad = λ u b. bad_first V R S front t u b; repeats = λ w again. (again.0, go_on again.1); records = λ begins none. records none; groups = λ begins end refused text more. let r = refused text more in (r.0, rw r.1 refl) }
  where
    go_on : Fit E R F front a_type ⊎ Fit E R F front a_pred → Fit E (R >>= S) G front a_type ⊎ Fit E (R >>= S) G front a_pred
    go_on (inl fit) = inl (fits_first E F G R S s front a_type fit)
    go_on (inr fit) = inr (fits_first E F G R S s front a_pred fit)

    records : NoRecord (Fit E R F front) (RefusesAt R front) → NoRecord (Fit E (R >>= S) G front) (RefusesAt (R >>= S) front)
    records (inl fit) = inl (fits_first E F G R S s front a_group fit)
    records (inr refused) = inr (λ ending more. let r = refused ending more in (r.0, rw r.1 refl))

pub maps_second : {A B : Type 0} (U V : Type 0) (E F G : Follow) (R : Reader A) (S : A → Reader B) → ((x : A) → Sample F (S x) G) → (tokens : List Placed) (x : A × List Placed) (o : IsReadIf U E R F V tokens x.0 x.1) (front : List Placed) (l : ℕ) (t : Token) (behind : List Placed) → x.1 ≡ front ++ (l, t) ∷ behind
    → Maps (Fit F (S x.0) G front) (Fit E (R >>= S) G (o.front ++ front)) (Bad V (S x.0) front) (Bad U (R >>= S) (o.front ++ front)) (Again F (S x.0) G front) (Again E (R >>= S) G (o.front ++ front))
    (RefusesAt (S x.0) front) (RefusesAt (R >>= S) (o.front ++ front)) t
maps_second U V E F G R S s tokens x o front l t behind there = record {
  fits = λ v fit. fits_second U V E F G R S tokens x o front (l, t) behind there v fit;
  bad = λ u b. bad_second U V E F R S tokens x o front l t behind there u b;
  repeats = λ w again. (repeats_behind o.front front w again.0, go_on again.1);
  records = λ begins none. records_second U V E F G R S s tokens x o front l t behind there begins none;
  groups = λ begins end refused. groups_second U V E F G R S tokens x o front l t behind there begins end refused;
}
  where
    go_on : Fit F (S x.0) G front a_type ⊎ Fit F (S x.0) G front a_pred → Fit E (R >>= S) G (o.front ++ front) a_type ⊎ Fit E (R >>= S) G (o.front ++ front) a_pred
    go_on (inl fit) = inl (fits_second U V E F G R S tokens x o front (l, t) behind there a_type fit)
    go_on (inr fit) = inr (fits_second U V E F G R S tokens x o front (l, t) behind there a_pred fit)

-- faults in calls of the first parser are faults of the sequence
no_value_first : {A B : Type 0} (V : Type 0) (E F G : Follow) (R : Reader A) (S : A → Reader B) → ((x : A) → Sample F (S x) G) → (front : List Placed) {t : Token} {kind : IrFaultKind} → NoValue V E R F front t kind → NoValue V E (R >>= S) G front t kind
no_value_first V E F G R S s front (no_number digits width out fit bad) =
    no_number digits width out (λ other number is. fits_end_first E F G R S s front (Number other) (fit other number is)) (λ other is. let b = bad other is in (λ end more ends. let r = b.0 end more ends in (r.0, rw r.1 refl), b.1))
no_value_first V E F G R S s front (no_word w fit) = no_word w (fits_end_first E F G R S s front no_truth fit)
no_value_first V E F G R S s front (no_truth_value w bad) = no_truth_value w (λ end more ends. let r = bad.0 end more ends in (r.0, rw r.1 refl), bad.1)
no_value_first V E F G R S s front (no_group text) = no_group text
no_value_first V E F G R S s front (no_quoted text) = no_quoted text

in_call_first : {A B : Type 0} (V : Type 0) (E F G : Follow) (R : Reader A) (S : A → Reader B) → ((x : A) → Sample F (S x) G) → (front : List Placed) {t : Placed} {found : Fault IrFaultKind} → InCall V E R F front t found → InCall V E (R >>= S) G front t found
in_call_first V E F G R S s front (of_callee line at written one stands fit bad) =
    of_callee line at written one stands (fits_first E F G R S s front (Function one) fit) (λ other is. bad_first V R S front (Function written) (Function other) (bad other is))
in_call_first V E F G R S s front (of_value before line last end kind same ends none item fit why) =
    of_value before line last end kind same ends (λ other o more. let r = none other o more in (r.0, rw r.1 refl)) (fits_first E F G R S s before a_group item) (fits_end_first E F G R S s before a_truth fit) (no_value_first V E F G R S s before why)
in_call_first V E F G R S s front (of_truth line w item fit bad) =
    of_truth line w (fits_first E F G R S s front a_group item) (fits_end_first E F G R S s front a_truth fit) (λ end more ends. let r = bad.0 end more ends in (r.0, rw r.1 refl), bad.1)

-- and so are those of the second
no_value_second : {A B : Type 0} (U V : Type 0) (E F G : Follow) (R : Reader A) (S : A → Reader B) (tokens : List Placed) (x : A × List Placed) (o : IsReadIf U E R F V tokens x.0 x.1)
    (front : List Placed) (l : ℕ) {t : Token} (behind : List Placed) → x.1 ≡ front ++ (l, t) ∷ behind → {kind : IrFaultKind} → NoValue V F (S x.0) G front t kind → NoValue U E (R >>= S) G (o.front ++ front) t kind
no_value_second U V E F G R S tokens x o front l behind there (no_number digits width out fit bad) =
    no_number digits width out (λ other number is. fits_end_second U V E F G R S tokens x o front (l, Number digits) behind there (Number other) (fit other number is))
    (λ other is. refuses_end_second U V E F R S tokens x o front l (Number digits) behind there (Number other) (bad other is))
no_value_second U V E F G R S tokens x o front l behind there (no_word w fit) = no_word w (fits_end_second U V E F G R S tokens x o front (l, Word w) behind there no_truth fit)
no_value_second U V E F G R S tokens x o front l behind there (no_truth_value w bad) = no_truth_value w (refuses_end_second U V E F R S tokens x o front l (Word w) behind there no_truth bad)
no_value_second U V E F G R S tokens x o front l behind there (no_group text) = no_group text
no_value_second U V E F G R S tokens x o front l behind there (no_quoted text) = no_quoted text

pub stands_behind : (first front : List Placed) (line : ℕ) → CallStands line front → CallStands line (first ++ front)
stands_behind first front line (before, call, behind, width, begins, same, spelled) =
    (first ++ before, call, behind, width, begins, ap (λ (ts : List Placed). first ++ ts) same ∙ sym (append_assoc first before (call ++ behind)), spelled)

-- a token that the second parser refuses behind some that it has read
refuses_begun : {A B : Type 0} (U V : Type 0) (E F : Follow) (R : Reader A) (S : A → Reader B) (tokens : List Placed) (x : A × List Placed) (o : IsReadIf U E R F V tokens x.0 x.1)
    (front before : List Placed) (last : Placed) (rest : List Placed) → x.1 ≡ front ++ rest → front ≡ before ++ last ∷ [] → (u : Placed) → RefusesPlaced (S x.0) front u → RefusesPlaced (R >>= S) (o.front ++ front) u
refuses_begun U V E F R S tokens x o [] before last rest there same u refused = let some = no_second before (last ∷ []) (sym same) in absurd cc
refuses_begun U V E F R S tokens x o (v ∷ front) before last rest there same u refused = λ more. begun_refuses U V E F R S tokens x o v front rest there (u ∷ more) (refused more)

in_call_second : {A B : Type 0} (U V : Type 0) (E F G : Follow) (R : Reader A) (S : A → Reader B) (tokens : List Placed) (x : A × List Placed) (o : IsReadIf U E R F V tokens x.0 x.1)
    (front : List Placed) {t : Placed} (behind : List Placed) → x.1 ≡ front ++ t ∷ behind → {found : Fault IrFaultKind} → InCall V F (S x.0) G front t found → InCall U E (R >>= S) G (o.front ++ front) t found
in_call_second U V E F G R S tokens x o front behind there (of_callee line at written one stands fit bad) =
    of_callee line at written one (stands_behind o.front front line stands) (fits_second U V E F G R S tokens x o front (at, Function written) behind there (Function one) fit)
    (λ other is. bad_second U V E F R S tokens x o front at (Function written) behind there (Function other) (bad other is))
in_call_second U V E F G R S tokens x o front behind there (of_value before line last end kind same ends none item fit why) =
    let whole : x.1 ≡ before ++ (line, last) ∷ (end ∷ behind) = there ∙ ap (λ (ts : List Placed). ts ++ end ∷ behind) same ∙ append_assoc before ((line, last) ∷ []) (end ∷ behind) in
    of_value (o.front ++ before) line last end kind (ap (λ (ts : List Placed). o.front ++ ts) same ∙ sym (append_assoc o.front before ((line, last) ∷ []))) ends
    (λ other is. refuses_begun U V E F R S tokens x o front before (line, last) (end ∷ behind) there same other (none other is))
    (fits_second U V E F G R S tokens x o before (line, last) (end ∷ behind) whole a_group item) (fits_end_second U V E F G R S tokens x o before (line, last) (end ∷ behind) whole a_truth fit) (no_value_second U V E F G R S tokens x o before line (end ∷ behind) whole why)
in_call_second U V E F G R S tokens x o front behind there (of_truth line w item fit bad) =
    of_truth line w (fits_second U V E F G R S tokens x o front (line, Word w) behind there a_group item) (fits_end_second U V E F G R S tokens x o front (line, Word w) behind there a_truth fit) (refuses_end_second U V E F R S tokens x o front line (Word w) behind there no_truth bad)

pub reasons_first : {A B : Type 0} (V : Type 0) (E F G : Follow) (R : Reader A) (S : A → Reader B) → ((x : A) → Sample F (S x) G) → (front : List Placed) (t : Placed) (found : Fault IrFaultKind) → ReasonsIf V E R F front t found → ReasonsIf V E (R >>= S) G front t found
reasons_first V E F G R S s front t found (inl (same, why)) = inl (same, reason_map _ _ _ _ _ _ _ _ t.1 (maps_first V E F G R S s front t.1) found.kind why)
reasons_first V E F G R S s front t found (inr call) = inr (in_call_first V E F G R S s front call)

pub reasons_second : {A B : Type 0} (U V : Type 0) (E F G : Follow) (R : Reader A) (S : A → Reader B) → ((x : A) → Sample F (S x) G) → (tokens : List Placed) (x : A × List Placed) (o : IsReadIf U E R F V tokens x.0 x.1) (front : List Placed) (t : Placed) (behind : List Placed) → x.1 ≡ front ++ t ∷ behind
    → (found : Fault IrFaultKind) → ReasonsIf V F (S x.0) G front t found → ReasonsIf U E (R >>= S) G (o.front ++ front) t found
reasons_second U V E F G R S s tokens x o front t behind there found (inl (same, why)) = inl (same, reason_map _ _ _ _ _ _ _ _ t.1 (maps_second U V E F G R S s tokens x o front t.0 t.1 behind there) found.kind why)
reasons_second U V E F G R S s tokens x o front t behind there found (inr call) = inr (in_call_second U V E F G R S tokens x o front behind there call)

-- Reasons of refusals by the first parser carry over to the sequence, and so do those by the second.
pub record Lifts {A B : Type 0} (T U : Type 0) (E F G : Follow) (R : Reader A) (S : A → Reader B) (X : Why) (V : A → Why) (W : Why) (tokens : List Placed) : Type 0 where
  pub first : (front : List Placed) (t : Placed) (behind : List Placed) → tokens ≡ front ++ t ∷ behind → (found : Fault IrFaultKind) → X front t found → W front t found
  pub second : (x : A × List Placed) → R tokens ≡ Ok x → (o : IsReadIf T E R F U tokens x.0 x.1) (front : List Placed) (t : Placed) (behind : List Placed) → x.1 ≡ front ++ t ∷ behind
      → (found : Fault IrFaultKind) → V x.0 front t found → W (o.front ++ front) t found

-- A token that the second parser refuses as `LeftOut` repeats no flag that the first has read either.
abbrev pub StaysNew : {A B : Type 0} (T U : Type 0) (E F G : Follow) (R : Reader A) (S : A → Reader B) (V : A → Why) (tokens : List Placed) → Type 0
StaysNew {A} T U E F G R S V tokens =
    (x : A × List Placed) → R tokens ≡ Ok x → (o : IsReadIf T E R F U tokens x.0 x.1) (found : Fault IrFaultKind) (p : IsRefused U (S x.0) G (V x.0) x.1 found) → S x.0 x.1 ≡ Err found → IsLeft found.kind → New T (R >>= S) (o.front ++ p.front) p.token.1

-- if neither a type nor a predicate is read by the second parser there, neither is by the sequence
pub free_second : {A B : Type 0} (T U : Type 0) (E F : Follow) (R : Reader A) (S : A → Reader B) (tokens : List Placed) (x : A × List Placed) (o : IsReadIf T E R F U tokens x.0 x.1)
    (front : List Placed) (t : Placed) (behind : List Placed) → x.1 ≡ front ++ t ∷ behind → Free U (S x.0) front t.1 → Free T (R >>= S) (o.front ++ front) t.1
free_second T U E F R S tokens x o front t behind there free =
    (λ w width is. bad_second T U E F R S tokens x o front t.0 t.1 behind there (Word w) (free.0 w width is), λ pred. bad_second T U E F R S tokens x o front t.0 t.1 behind there (Word (predicate_keyword pred)) (free.1 pred))

-- this holds if no run of flags goes across the border of the two
pub apart_new : {A B : Type 0} (T U : Type 0) (E F G : Follow) (R : Reader A) (S : A → Reader B) (V : A → Why) (tokens : List Placed) → ReadsApart R → StaysNew T U E F G R S V tokens
apart_new T U E F G R S V tokens apart x is o found p failed left =
    let a = apart tokens x is in
    let same : a.0 ≡ o.front = append_cancel_right a.0 o.front x.1 (sym a.1 ∙ o.there) in
    let parted : Parted o.front (p.front ++ p.token ∷ p.behind) = subst (Parted o.front) p.there (subst (λ (f : List Placed). Parted f x.1) same a.2) in
    by parted (p.new left)
  where
    by : Parted o.front (p.front ++ p.token ∷ p.behind) → New U (S x.0) p.front p.token.1 → New T (R >>= S) (o.front ++ p.front) p.token.1
    by parted (inl new) = inl (new_behind o.front p.front p.token.0 p.token.1 p.behind parted new)
    by parted (inr free) = inr (free_second T U E F R S tokens x o p.front p.token p.behind p.there free)

-- and if no fault of the second is `LeftOut`
pub nothing_new : {A B : Type 0} (T U : Type 0) (E F G : Follow) (R : Reader A) (S : A → Reader B) (V : A → Why) (tokens : List Placed) → ((x : A) → LeavesNothingOut (S x)) → StaysNew T U E F G R S V tokens
nothing_new T U E F G R S V tokens nothing x is o found p failed left = absurd (nothing x.0 x.1 found failed left)

pub outcome_both : {A B : Type 0} (T U Z : Type 0) (E F G : Follow) (R : Reader A) (S : A → Reader B) (X : Why) (V : A → Why) (W : Why) (tokens : List Placed) → Lifts T U E F G R S X V W tokens → StaysNew T U E F G R S V tokens → ((x : A) → Sample F (S x) G) → (r : Read A) → R tokens ≡ r → OutcomeIf T E R F U X tokens r
    → ((x : A × List Placed) → R tokens ≡ Ok x → Ended x.1 → OutcomeIf U F (S x.0) G Z (V x.0) x.1 (S x.0 x.1)) → OutcomeIf T E (R >>= S) G Z W tokens (goes_on r S)
outcome_both T U Z E F G R S X V W tokens lifts new s (Err e) is o p = first_refuses R S s tokens e o (lifts.first o.front o.token o.behind o.there e o.why)
outcome_both {A} {B} T U Z E F G R S X V W tokens lifts new s (Ok x) is o p = behind (S x.0 x.1) refl (p x is o.ended)
  where
    behind : (q : Read B) → S x.0 x.1 ≡ q → OutcomeIf U F (S x.0) G Z (V x.0) x.1 q → OutcomeIf T E (R >>= S) G Z W tokens q
    behind (Ok y) made p = both_read R S tokens x y s o p
    behind (Err e) made p = second_refuses R S s tokens x e o p (lifts.second x is o p.front p.token p.behind p.there e p.why) (new x is o e p made)

pub reasons_lift : {A B : Type 0} (U V : Type 0) (E F G : Follow) (R : Reader A) (S : A → Reader B) → ((x : A) → Sample F (S x) G) → (tokens : List Placed) → Lifts U V E F G R S (ReasonsIf U E R F) (λ x. ReasonsIf V F (S x) G) (ReasonsIf U E (R >>= S) G) tokens
reasons_lift U V E F G R S s tokens = record {
  first = λ front t behind there found why. reasons_first U E F G R S s front t found why;
  second = λ x is o front t behind there found why. reasons_second U V E F G R S s tokens x o front t behind there found why;
}

-- what the sequence does
pub both : {A B : Type 0} (U V W : Type 0) (E F G : Follow) (R : Reader A) (S : A → Reader B) → ReadsApart R → ((x : A) → Sample F (S x) G) → (tokens : List Placed) → OutcomeIf U E R F V (ReasonsIf U E R F) tokens (R tokens)
    → ((x : A × List Placed) → R tokens ≡ Ok x → Ended x.1 → OutcomeIf V F (S x.0) G W (ReasonsIf V F (S x.0) G) x.1 (S x.0 x.1)) → OutcomeIf U E (R >>= S) G W (ReasonsIf U E (R >>= S) G) tokens ((R >>= S) tokens)
both U V W E F G R S apart s tokens o p =
    outcome_both U V W E F G R S (ReasonsIf U E R F) (λ x. ReasonsIf V F (S x) G) (ReasonsIf U E (R >>= S) G) tokens (reasons_lift U V E F G R S s tokens) (apart_new U V E F G R S (λ x. ReasonsIf V F (S x) G) tokens apart) s (R tokens) refl o p

infixr 15 ◌then◌
pub ◌then◌ : {A B : Type 0} {U V W : Type 0} {E F G : Follow} {R : Reader A} {S : A → Reader B} → GoodIf U E R F V → ((x : A) → GoodIf V F (S x) G W) → GoodIf U E (R >>= S) G W
◌then◌ {A} {B} {U} {V} {W} {E} {F} {G} {R} {S} r s = record {
  sample = sample_both E F G R S r.sample (λ x. (s x).sample);
  outcome = λ tokens e. both U V W E F G R S r.apart (λ x. (s x).sample) tokens (r.outcome tokens e) (λ x is ended. (s x.0).outcome x.1 ended);
  apart = both_apart R S r.apart (λ x. (s x).apart);
}

-- The same for a parser that may end with a word which elsewhere is that of a flag.
pub record GoodOpen {A : Type 0} (E : Follow) (R : Reader A) (F : Follow) : Type 0 where
  pub sample : Sample E R F
  pub outcome : OutcomesIf (Unit {0}) E R F (Unit {0})
  pub splits : Splits R

infixr 15 ◌then_open◌
pub ◌then_open◌ : {A B : Type 0} {E F G : Follow} {R : Reader A} {S : A → Reader B} → Good E R F → ((x : A) → GoodOpen F (S x) G) → GoodOpen E (R >>= S) G
◌then_open◌ {A} {B} {E} {F} {G} {R} {S} r s = record {
  sample = sample_both E F G R S r.sample (λ x. (s x).sample);
  outcome = λ tokens e. both (Unit {0}) (Unit {0}) (Unit {0}) E F G R S r.apart (λ x. (s x).sample) tokens (r.outcome tokens e) (λ x is ended. (s x.0).outcome x.1 ended);
  splits = both_splits R S (apart_splits r.apart) (λ x. (s x).splits);
}

-- ---- such a parser in sequence with another

-- a parser that refuses the words of flags, types and predicates as its first token
pub record Apart {A : Type 0} (S : Reader A) : Type 0 where
  pub flags : (flag : Flag) → RefusesEach S (Word (flag_keyword flag))
  pub types : (w : List ℕ) (width : ℕ) → IsTypeWord w width → RefusesEach S (Word w)
  pub preds : (pred : Pred) → RefusesEach S (Word (predicate_keyword pred))

no_flag_read : {A : Type 0} (S : Reader A) (apart : Apart S) (l : ℕ) (t : Token) (more : List Placed) (y : A × List Placed) → S ((l, t) ∷ more) ≡ Ok y → NoFlag t
no_flag_read S apart l t more y read flag same =
    let r = apart.flags flag l more in
    let both : the_read (Err r.0) ≡ Ok y = sym r.1 ∙ ap (λ (u : Token). S ((l, u) ∷ more)) (sym same) ∙ read in cc

no_flag_next : {A : Type 0} (S : Reader A) (apart : Apart S) (tokens : List Placed) (y : A × List Placed) → S tokens ≡ Ok y → NoFlagNext tokens
no_flag_next S apart [] y read = tt
no_flag_next S apart ((l, t) ∷ more) y read = no_flag_read S apart l t more y read

-- behind such a parser, what this one refuses as `LeftOut` repeats no flag
apart_behind : {A B : Type 0} (E F G : Follow) (R : Reader A) (S : A → Reader B) → ((x : A) → Apart (S x)) → (g : Token) → G g → (tokens : List Placed) → StaysNew (Unit {0}) (Unit {0}) E F G R S (λ x. Reasons F (S x) G) tokens
apart_behind {A} {B} E F G R S apart g is_g tokens x is o found p failed left = by p.front p.token p.there p.completes (p.new left)
  where
    free : (w : List ℕ) → Free (Unit {0}) (S x.0) [] (Word w)
    free w = (
      λ other width type. (λ more. (apart x.0).types other width type 0 more, λ none. like_word tt w other (nouns.type width type)),
      λ pred. (λ more. (apart x.0).preds pred 0 more, λ none. like_word tt w (predicate_keyword pred) (nouns.predicate pred refl)),
    )

    alone : (t : Placed) → x.1 ≡ t ∷ p.behind → New (Unit {0}) (R >>= S) (o.front ++ []) t.1
    alone (l, Word w) there = inr (free_second (Unit {0}) (Unit {0}) E F R S tokens x o [] (l, Word w) p.behind there (free w))
    alone (l, t) there = inl (λ again. let word = again.1 in cc)

    by : (front : List Placed) (t : Placed) → x.1 ≡ front ++ t ∷ p.behind → CompletesBegun (S x.0) G front → New (Unit {0}) (S x.0) front t.1 → New (Unit {0}) (R >>= S) (o.front ++ front) t.1
    by [] t there c new = alone t there
    by ((k, u) ∷ front) t there c (inl new) = inl (new_behind o.front ((k, u) ∷ front) t.0 t.1 p.behind (inr (no_flag_read (S x.0) (apart x.0) k u (front ++ (c.1 ++ (0, g) ∷ [])) (c.0, (0, g) ∷ []) (c.2 ((0, g) ∷ []) is_g))) new)
    by ((k, u) ∷ front) t there c (inr f) = inr (free_second (Unit {0}) (Unit {0}) E F R S tokens x o ((k, u) ∷ front) t p.behind there f)

pub behind_open : {A B : Type 0} {E F G : Follow} {R : Reader A} {S : A → Reader B} → GoodOpen E R F → ((x : A) → Good F (S x) G) → ((x : A) → Apart (S x)) → (g : Token) → G g → Good E (R >>= S) G
behind_open {A} {B} {E} {F} {G} {R} {S} r s apart g is_g = record {
  sample = sample_both E F G R S r.sample (λ x. (s x).sample);
  outcome = λ tokens e.
      outcome_both (Unit {0}) (Unit {0}) (Unit {0}) E F G R S (Reasons E R F) (λ x. Reasons F (S x) G) (Reasons E (R >>= S) G) tokens (reasons_lift (Unit {0}) (Unit {0}) E F G R S (λ x. (s x).sample) tokens) (apart_behind E F G R S apart g is_g tokens)
      (λ x. (s x).sample) (R tokens) refl (r.outcome tokens e) (λ x is ended. (s x.0).outcome x.1 ended);
  apart = λ tokens y is.
      let one = bind_ok (R tokens) S y is in
      let a = r.splits tokens one.0 one.1 in
      leaves_both tokens one.0.1 y.1 (a.0, a.1, inr (no_flag_next (S one.0.0) (apart one.0.0) one.0.1 y one.2)) ((s one.0.0).apart one.0.1 y one.2);
}

-- a reason may be replaced by one that follows from it
pub outcome_map : {A : Type 0} (V : Type 0) (E : Follow) (R : Reader A) (F : Follow) (W : Type 0) (X Y : Why) → ((front : List Placed) (t : Placed) (found : Fault IrFaultKind) → X front t found → Y front t found) → (tokens : List Placed) (r : Read A) → OutcomeIf V E R F W X tokens r → OutcomeIf V E R F W Y tokens r
outcome_map V E R F W X Y f tokens (Ok x) o = o
outcome_map V E R F W X Y f tokens (Err e) o = record { front = o.front; token = o.token; behind = o.behind; there = o.there; refused = o.refused; completes = o.completes; why = f o.front o.token e o.why; new = o.new }
