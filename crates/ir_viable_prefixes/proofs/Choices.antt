-- Parsers that choose a production by lookahead.
use Rattle.ir_viable_prefixes.proofs.Common.{◌≡◌, ℕ, Bool, true, false, cond, List, [], ◌∷◌, ◌++◌, Ok, Err, refl, sym, ap, subst, ◌∙◌, ◌⊎◌, inl, inr, append_assoc, Token, Placed, Word, Number, Function, Group, IrFaultKind, Fault, begins_record, Read, Reader, ending_word, predicate_keyword}
use Rattle.ir_instructions.specs.declared.word.Ending.{Ending}
use Rattle.ir_viable_prefixes.proofs.Outcomes.{Follow, Next, next_map, StopsBefore, Halts, CompletesBegun, Sample, Fit, FitsEnd, RefusesAt, RefusesPlaced, RefusesEnd, Bad, a_truth, no_truth, Again, NoValue, no_number, no_word, no_truth_value, no_group, no_quoted, InCall, of_callee, of_value, of_truth, New, Why, Reasons, ReasonsIf, OutcomeIf, Outcome, Good, GoodIf, GoodOpen}
use Rattle.ir_viable_prefixes.proofs.FlagRuns.{either_apart}
use Rattle.ir_viable_prefixes.proofs.Reasons.{a_type, a_pred, an_end, a_group, Like, like_map, NoRecord, NoGroup, Maps, reason_map}

-- the test depends on the next token alone
abbrev pub AsksNext : (List Placed → Bool) → Type 0
AsksNext test = (l k : ℕ) (t : Token) (a b : List Placed) → test ((l, t) ∷ a) ≡ test ((k, t) ∷ b)

-- tokens for which the test gives b
abbrev pub Tested : (List Placed → Bool) → Bool → Follow
Tested test b t = test ((0, t) ∷ []) ≡ b

pub tested_next : (test : List Placed → Bool) → AsksNext test → (b : Bool) (tokens : List Placed) → Next (Tested test b) tokens → test tokens ≡ b
tested_next test asks b [] h = absurd h
tested_next test asks b ((l, t) ∷ tokens) h = asks l 0 t tokens [] ∙ h

same_test : (test : List Placed → Bool) → AsksNext test → (front : List Placed) (l k : ℕ) (t : Token) (a b : List Placed) → test (front ++ (l, t) ∷ a) ≡ test (front ++ (k, t) ∷ b)
same_test test asks [] l k t a b = asks l k t a b
same_test test asks ((i, u) ∷ front) l k t a b = asks i i u (front ++ (l, t) ∷ a) (front ++ (k, t) ∷ b)

-- behind a front that is not empty, the test gives the same
pub begun_test : (test : List Placed → Bool) → AsksNext test → (b : Bool) (front rest tokens : List Placed) → test (front ++ rest) ≡ b → (front ≡ [] → test tokens ≡ b) → test (front ++ tokens) ≡ b
begun_test test asks b [] rest tokens h none = none refl
begun_test test asks b ((i, u) ∷ front) rest tokens h none = asks i i u (front ++ tokens) (front ++ rest) ∙ h

-- if the test gives b for a token, it does for the others of its sort
abbrev pub Opens : (List Placed → Bool) → Bool → Type 0 → Type 0
Opens test b U = (t u : Token) → Tested test b t → Like U t u → Tested test b u

-- if it gives b for a mark that begins a record, it does for the words of terminators, or the parser takes a group; and
-- if it does for a terminator, it does for groups
abbrev pub OpensRecords : {A : Type 0} → (List Placed → Bool) → Bool → Follow → Reader A → Follow → Type 0
OpensRecords test b E S F = (t : Token) → begins_record t ≡ true → Tested test b t → NoRecord (Fit E S F []) (Tested test b) × (Tested test b an_end → NoGroup (Tested test b))

-- the same for a parser before which more tokens may stand next
pub opens_wider : {A : Type 0} (test : List Placed → Bool) (b : Bool) (D E : Follow) (S : Reader A) (F : Follow) → ((t : Token) → D t → E t) → OpensRecords test b D S F → OpensRecords test b E S F
opens_wider test b D E S F enters opens t begins h = (by (opens t begins h).0, (opens t begins h).1)
  where
    by : NoRecord (Fit D S F []) (Tested test b) → NoRecord (Fit E S F []) (Tested test b)
    by (inl fit) = inl (fit.0, λ none. enters a_group (fit.1 none))
    by (inr says) = inr says

-- for a mark that begins a record the test gives what it gives for the words of terminators and for groups
abbrev pub SaysOfRecords : (List Placed → Bool) → Type 0
SaysOfRecords test = (b : Bool) (t : Token) → begins_record t ≡ true → Tested test b t → ((ending : Ending) → Tested test b (Word (ending_word ending))) × NoGroup (Tested test b)

-- a token that fits the one parser fits the other
pub fits_transferred : {A : Type 0} (test : List Placed → Bool) → AsksNext test → (b : Bool) (R S : Reader A) → ((tokens : List Placed) → test tokens ≡ b → S tokens ≡ R tokens)
    → (D E F : Follow) → ((t : Token) → D t → Tested test b t) → ((t : Token) → D t → E t) → (tokens : List Placed) → test tokens ≡ b
    → (front : List Placed) (u : Placed) (behind : List Placed) → tokens ≡ front ++ u ∷ behind → (t : Token) → Fit D R F front t → Fit E S F front t
fits_transferred test asks b R S agree D E F within enters tokens next [] u behind there t (c, entered) =
    ((c.0, c.1, λ ts f. agree ((0, t) ∷ (c.1 ++ ts)) (asks 0 0 t (c.1 ++ ts) [] ∙ within t (entered refl)) ∙ c.2 ts f), λ none. enters t (entered refl))
fits_transferred test asks b R S agree D E F within enters tokens next ((l, v) ∷ front) u behind there t (c, entered) = (
  (
    c.0,
    c.1,
    λ ts f.
        agree ((l, v) ∷ (front ++ (0, t) ∷ (c.1 ++ ts))) (asks l l v (front ++ (0, t) ∷ (c.1 ++ ts)) (front ++ u ∷ behind) ∙ subst (λ (ts : List Placed). test ts ≡ b) there next) ∙ c.2 ts f,
  ),
  λ none. absurd cc,
)

pub bad_transferred : {A : Type 0} (test : List Placed → Bool) → AsksNext test → (b : Bool) (R S : Reader A) → ((tokens : List Placed) → test tokens ≡ b → S tokens ≡ R tokens)
    → (U U' : Type 0) → (U → U') → Opens test b U → (tokens : List Placed) → test tokens ≡ b
    → (front : List Placed) (l : ℕ) (t : Token) (behind : List Placed) → tokens ≡ front ++ (l, t) ∷ behind → (u : Token) → Bad U R front t u → Bad U' S front t u
bad_transferred test asks b R S agree U U' voiced opens tokens next [] l t behind there u (refused, like) = (
  λ more.
      let now : Tested test b t = asks 0 l t [] behind ∙ subst (λ (ts : List Placed). test ts ≡ b) there next in
      let r = refused more in
      (r.0, agree ((0, u) ∷ more) (asks 0 0 u more [] ∙ opens t u now (like refl)) ∙ r.1),
  λ none. like_map voiced (like refl),
)
bad_transferred test asks b R S agree U U' voiced opens tokens next ((i, v) ∷ front) l t behind there u (refused, like) = (
  λ more.
      let r = refused more in
      (r.0, agree ((i, v) ∷ (front ++ (0, u) ∷ more)) (asks i i v (front ++ (0, u) ∷ more) (front ++ (l, t) ∷ behind) ∙ subst (λ (ts : List Placed). test ts ≡ b) there next) ∙ r.1),
  λ none. absurd cc,
)

-- What holds of a parser holds of one that does the same wherever the test gives b.
pub transfer : {A : Type 0} (test : List Placed → Bool) → AsksNext test → (b : Bool) (R S : Reader A) → ((tokens : List Placed) → test tokens ≡ b → S tokens ≡ R tokens)
    → (U U' Z : Type 0) → (U → U') → Opens test b U → (D E F : Follow) → OpensRecords test b E S F → (V W : Why) → ((t : Token) → D t → Tested test b t) → ((t : Token) → D t → E t)
    → (tokens : List Placed) → ((front : List Placed) (t : Placed) (behind : List Placed) → tokens ≡ front ++ t ∷ behind → (found : Fault IrFaultKind) → V front t found → W front t found)
    → test tokens ≡ b → (r : Read A) → OutcomeIf U D R F Z V tokens r → OutcomeIf U' E S F Z W tokens r
transfer {A} test asks b R S agree U U' Z voiced opens D E F records V W within enters tokens lift next (Ok x) o = record {
  front = o.front;
  there = o.there;
  ended = o.ended;
  stopped = here x.1 o.there o.stopped;
  follows = λ t f more.
      agree (o.front ++ (0, t) ∷ more)
      (begun_test test asks b o.front x.1 ((0, t) ∷ more) (subst (λ (ts : List Placed). test ts ≡ b) o.there next) (λ none. asks 0 0 t more [] ∙ within t (o.nothing none t f)))
      ∙ o.follows t f more;
  completes = completes o.front x.1 o.there o.completes;
  halts = halts_here x.1 o.front o.there o.halts o.words;
  records = records_here x.1 o.front o.there o.records;
  groups = λ end. groups_here x.1 o.front o.there (o.groups end) (λ none. within an_end (o.nothing none an_end end));
  nothing = λ none t f. enters t (o.nothing none t f);
  words = λ none. voiced_next x.1 (o.words none);
}
  where
    completes : (front rest : List Placed) → tokens ≡ front ++ rest → CompletesBegun R F front → CompletesBegun S F front
    completes [] rest there c = tt
    completes ((i, u) ∷ front) rest there c = (
      c.0,
      c.1,
      λ ts f. agree ((i, u) ∷ (front ++ (c.1 ++ ts))) (asks i i u (front ++ (c.1 ++ ts)) (front ++ rest) ∙ subst (λ (ts : List Placed). test ts ≡ b) there next) ∙ c.2 ts f,
    )

    moved : (front : List Placed) (u : Token) (more : List Placed) → test (front ++ (0, u) ∷ more) ≡ b
        → (R (front ++ (0, u) ∷ more) ≡ Ok (x.0, (0, u) ∷ more)) ⊎ ((e : Fault IrFaultKind) × (R (front ++ (0, u) ∷ more) ≡ Err e))
        → (S (front ++ (0, u) ∷ more) ≡ Ok (x.0, (0, u) ∷ more)) ⊎ ((e : Fault IrFaultKind) × (S (front ++ (0, u) ∷ more) ≡ Err e))
    moved front u more h (inl one) = inl (agree (front ++ (0, u) ∷ more) h ∙ one)
    moved front u more h (inr (e, one)) = inr (e, agree (front ++ (0, u) ∷ more) h ∙ one)

    voiced_next : (rest : List Placed) → Next (λ t. (u : Token) → Like Z t u → Like U t u) rest → Next (λ t. (u : Token) → Like Z t u → Like U' t u) rest
    voiced_next [] h = absurd h
    voiced_next ((l, t) ∷ rest) h = λ u like. like_map voiced (h u like)

    halts_here : (rest front : List Placed) → tokens ≡ front ++ rest → Next (λ t. (u : Token) → Like Z t u → Halts R front x.0 u) rest → (front ≡ [] → Next (λ t. (u : Token) → Like Z t u → Like U t u) rest) → Next (λ t. (u : Token) → Like Z t u → Halts S front x.0 u) rest
    halts_here [] front there h w = absurd h
    halts_here ((l, t) ∷ rest) [] there h w = λ u like more.
        let now : Tested test b t = asks 0 l t [] rest ∙ subst (λ (ts : List Placed). test ts ≡ b) there next in
        moved [] u more (asks 0 0 u more [] ∙ opens t u now (w refl u like)) (h u like more)
    halts_here ((l, t) ∷ rest) ((i, v) ∷ front) there h w = λ u like more.
        moved ((i, v) ∷ front) u more (asks i i v (front ++ (0, u) ∷ more) (front ++ (l, t) ∷ rest) ∙ subst (λ (ts : List Placed). test ts ≡ b) there next) (h u like more)

    both_records : (l : ℕ) (t : Token) (rest : List Placed) → tokens ≡ (l, t) ∷ rest → NoRecord (Fit D R F []) (Halts R [] x.0) → NoRecord (Fit E S F []) (Tested test b) → NoRecord (Fit E S F []) (Halts S [] x.0)
    both_records l t rest there h (inl fit) = inl fit
    both_records l t rest there (inl fit) (inr says) = inl (fits_transferred test asks b R S agree D E F within enters tokens next [] (l, t) rest there a_group fit)
    both_records l t rest there (inr h) (inr says) =
        inr (λ ending more. moved [] (Word (ending_word ending)) more (asks 0 0 (Word (ending_word ending)) more [] ∙ says ending) (h ending more))

    then_records : (l : ℕ) (t : Token) (rest : List Placed) (i : ℕ) (v : Token) (front : List Placed) → tokens ≡ (i, v) ∷ (front ++ (l, t) ∷ rest) → NoRecord (Fit D R F ((i, v) ∷ front)) (Halts R ((i, v) ∷ front) x.0) → NoRecord (Fit E S F ((i, v) ∷ front)) (Halts S ((i, v) ∷ front) x.0)
    then_records l t rest i v front there (inl fit) = inl (fits_transferred test asks b R S agree D E F within enters tokens next ((i, v) ∷ front) (l, t) rest there a_group fit)
    then_records l t rest i v front there (inr h) =
        inr (λ ending more.
        moved ((i, v) ∷ front) (Word (ending_word ending)) more (asks i i v (front ++ (0, Word (ending_word ending)) ∷ more) (front ++ (l, t) ∷ rest) ∙ subst (λ (ts : List Placed). test ts ≡ b) there next) (h ending more))

    records_here : (rest front : List Placed) → tokens ≡ front ++ rest → Next (λ t. begins_record t ≡ true → NoRecord (Fit D R F front) (Halts R front x.0)) rest → Next (λ t. begins_record t ≡ true → NoRecord (Fit E S F front) (Halts S front x.0)) rest
    records_here [] front there h = absurd h
    records_here ((l, t) ∷ rest) [] there h = λ begins. both_records l t rest there (h begins) (records t begins (asks 0 l t [] rest ∙ subst (λ (ts : List Placed). test ts ≡ b) there next)).0
    records_here ((l, t) ∷ rest) ((i, v) ∷ front) there h = λ begins. then_records l t rest i v front there (h begins)

    groups_here : (rest front : List Placed) → tokens ≡ front ++ rest → Next (λ t. begins_record t ≡ true → NoGroup (Halts R front x.0)) rest → (front ≡ [] → Tested test b an_end) → Next (λ t. begins_record t ≡ true → NoGroup (Halts S front x.0)) rest
    groups_here [] front there h end = absurd h
    groups_here ((l, t) ∷ rest) [] there h end = λ begins text more.
        moved [] (Group text) more (asks 0 0 (Group text) more [] ∙ (records t begins (asks 0 l t [] rest ∙ subst (λ (ts : List Placed). test ts ≡ b) there next)).1 (end refl) text) (h begins text more)
    groups_here ((l, t) ∷ rest) ((i, v) ∷ front) there h end = λ begins text more.
        moved ((i, v) ∷ front) (Group text) more (asks i i v (front ++ (0, Group text) ∷ more) (front ++ (l, t) ∷ rest) ∙ subst (λ (ts : List Placed). test ts ≡ b) there next) (h begins text more)

    here : (rest : List Placed) → tokens ≡ o.front ++ rest → StopsBefore R o.front x.0 rest → StopsBefore S o.front x.0 rest
    here [] there h = absurd h
    here ((l, t) ∷ rest) there h = λ more.
        agree (o.front ++ (l, t) ∷ more) (same_test test asks o.front l l t more rest ∙ subst (λ (ts : List Placed). test ts ≡ b) there next) ∙ h more
transfer {A} test asks b R S agree U U' Z voiced opens D E F records V W within enters tokens lift next (Err e) o = record {
  front = o.front;
  token = o.token;
  behind = o.behind;
  there = o.there;
  refused = λ more.
      let r = o.refused more in (
        r.0,
        agree (o.front ++ o.token ∷ more)
            (same_test test asks o.front o.token.0 o.token.0 o.token.1 more o.behind ∙ subst (λ (ts : List Placed). test ts ≡ b) o.there next)
            ∙ r.1,
      );
  completes = completes o.front o.there o.completes;
  why = lift o.front o.token o.behind o.there e o.why;
  new = λ left. new_here (o.new left);
}
  where
    new_here : New U R o.front o.token.1 → New U' S o.front o.token.1
    new_here (inl new) = inl new
    new_here (inr free) =
        inr (
          λ w width is. bad_transferred test asks b R S agree U U' voiced opens tokens next o.front o.token.0 o.token.1 o.behind o.there (Word w) (free.0 w width is),
          λ pred. bad_transferred test asks b R S agree U U' voiced opens tokens next o.front o.token.0 o.token.1 o.behind o.there (Word (predicate_keyword pred)) (free.1 pred),
        )

    completes : (front : List Placed) → tokens ≡ front ++ o.token ∷ o.behind → CompletesBegun R F front → CompletesBegun S F front
    completes [] there c = tt
    completes ((i, u) ∷ front) there c = (
      c.0,
      c.1,
      λ ts f.
          agree ((i, u) ∷ (front ++ (c.1 ++ ts))) (asks i i u (front ++ (c.1 ++ ts)) (front ++ o.token ∷ o.behind) ∙ subst (λ (ts : List Placed). test ts ≡ b) there next)
          ∙ c.2 ts f,
    )

records_transferred : {A : Type 0} (test : List Placed → Bool) → AsksNext test → (b : Bool) (R S : Reader A) → ((tokens : List Placed) → test tokens ≡ b → S tokens ≡ R tokens)
    → (D E F : Follow) → OpensRecords test b E S F → ((t : Token) → D t → Tested test b t) → ((t : Token) → D t → E t) → (tokens : List Placed) → test tokens ≡ b
    → (front : List Placed) (l : ℕ) (t : Token) (behind : List Placed) → tokens ≡ front ++ (l, t) ∷ behind → begins_record t ≡ true → NoRecord (Fit D R F front) (RefusesAt R front) → NoRecord (Fit E S F front) (RefusesAt S front)
records_transferred test asks b R S agree D E F opens within enters tokens next front l t behind there begins (inl fit) = inl (fits_transferred test asks b R S agree D E F within enters tokens next front (l, t) behind there a_group fit)
records_transferred test asks b R S agree D E F opens within enters tokens next [] l t behind there begins (inr refused) = by (opens t begins (asks 0 l t [] behind ∙ subst (λ (ts : List Placed). test ts ≡ b) there next)).0
  where
    by : NoRecord (Fit E S F []) (Tested test b) → NoRecord (Fit E S F []) (RefusesAt S [])
    by (inl fit) = inl fit
    by (inr says) =
        inr (λ ending more.
        let r = refused ending more in
        (r.0, agree ((0, Word (ending_word ending)) ∷ more) (asks 0 0 (Word (ending_word ending)) more [] ∙ says ending) ∙ r.1))
records_transferred test asks b R S agree D E F opens within enters tokens next ((i, v) ∷ front) l t behind there begins (inr refused) =
    inr (λ ending more.
    let r = refused ending more in
    (r.0, agree ((i, v) ∷ (front ++ (0, Word (ending_word ending)) ∷ more)) (asks i i v (front ++ (0, Word (ending_word ending)) ∷ more) (front ++ (l, t) ∷ behind) ∙ subst (λ (ts : List Placed). test ts ≡ b) there next) ∙ r.1))

groups_transferred : {A : Type 0} (test : List Placed → Bool) → AsksNext test → (b : Bool) (R S : Reader A) → ((tokens : List Placed) → test tokens ≡ b → S tokens ≡ R tokens)
    → (D E F : Follow) → OpensRecords test b E S F → ((t : Token) → D t → Tested test b t) → (tokens : List Placed) → test tokens ≡ b
    → (front : List Placed) (l : ℕ) (t : Token) (behind : List Placed) → tokens ≡ front ++ (l, t) ∷ behind → begins_record t ≡ true → Fit D R F front an_end → NoGroup (RefusesAt R front) → NoGroup (RefusesAt S front)
groups_transferred test asks b R S agree D E F opens within tokens next [] l t behind there begins end refused text more =
    let says = (opens t begins (asks 0 l t [] behind ∙ subst (λ (ts : List Placed). test ts ≡ b) there next)).1 (within an_end (end.1 refl)) text in
    let r = refused text more in
    (r.0, agree ((0, Group text) ∷ more) (asks 0 0 (Group text) more [] ∙ says) ∙ r.1)
groups_transferred test asks b R S agree D E F opens within tokens next ((i, v) ∷ front) l t behind there begins end refused text more =
    let r = refused text more in
    (r.0, agree ((i, v) ∷ (front ++ (0, Group text) ∷ more)) (asks i i v (front ++ (0, Group text) ∷ more) (front ++ (l, t) ∷ behind) ∙ subst (λ (ts : List Placed). test ts ≡ b) there next) ∙ r.1)

pub maps_transferred : {A : Type 0} (test : List Placed → Bool) → AsksNext test → (b : Bool) (R S : Reader A) → ((tokens : List Placed) → test tokens ≡ b → S tokens ≡ R tokens)
    → (U U' : Type 0) → (U → U') → Opens test b U → (D E F : Follow) → OpensRecords test b E S F → ((t : Token) → D t → Tested test b t) → ((t : Token) → D t → E t) → (tokens : List Placed) → test tokens ≡ b
    → (front : List Placed) (l : ℕ) (t : Token) (behind : List Placed) → tokens ≡ front ++ (l, t) ∷ behind
    → Maps (Fit D R F front) (Fit E S F front) (Bad U R front) (Bad U' S front) (Again D R F front) (Again E S F front) (RefusesAt R front) (RefusesAt S front) t
maps_transferred test asks b R S agree U U' voiced opens D E F records within enters tokens next front l t behind there = record {
  fits = λ v fit. fits_transferred test asks b R S agree D E F within enters tokens next front (l, t) behind there v fit;
  bad = λ u bad. bad_transferred test asks b R S agree U U' voiced opens tokens next front l t behind there u bad;
  repeats = λ w again. (again.0, go_on again.1);
  records = λ begins none. records_transferred test asks b R S agree D E F records within enters tokens next front l t behind there begins none;
  groups = λ begins end refused. groups_transferred test asks b R S agree D E F records within tokens next front l t behind there begins end refused;
}
  where
    go_on : Fit D R F front a_type ⊎ Fit D R F front a_pred → Fit E S F front a_type ⊎ Fit E S F front a_pred
    go_on (inl fit) = inl (fits_transferred test asks b R S agree D E F within enters tokens next front (l, t) behind there a_type fit)
    go_on (inr fit) = inr (fits_transferred test asks b R S agree D E F within enters tokens next front (l, t) behind there a_pred fit)

-- a value that fits the one parser fits the other
fits_end_transferred : {A : Type 0} (test : List Placed → Bool) → AsksNext test → (b : Bool) (R S : Reader A) → ((tokens : List Placed) → test tokens ≡ b → S tokens ≡ R tokens)
    → (D E F : Follow) → ((t : Token) → D t → Tested test b t) → ((t : Token) → D t → E t) → (tokens : List Placed) → test tokens ≡ b
    → (front : List Placed) (u : Placed) (behind : List Placed) → tokens ≡ front ++ u ∷ behind → (v : Token) → FitsEnd D R F front v → FitsEnd E S F front v
fits_end_transferred test asks b R S agree D E F within enters tokens next [] u behind there v (c, entered) = (
  (c.0, c.1, λ ts f. let end = c.2 ts f in (agree ((0, v) ∷ (c.1 ++ ts)) (asks 0 0 v (c.1 ++ ts) [] ∙ within v (entered refl)) ∙ end.0, end.1)),
  λ none. enters v (entered refl),
)
fits_end_transferred test asks b R S agree D E F within enters tokens next ((l, w) ∷ front) u behind there v (c, entered) = (
  (
    c.0,
    c.1,
    λ ts f.
        let end = c.2 ts f in (
          agree ((l, w) ∷ (front ++ (0, v) ∷ (c.1 ++ ts))) (asks l l w (front ++ (0, v) ∷ (c.1 ++ ts)) (front ++ u ∷ behind) ∙ subst (λ (ts : List Placed). test ts ≡ b) there next) ∙ end.0,
          end.1,
        ),
  ),
  λ none. absurd cc,
)

refuses_end_transferred : {A : Type 0} (test : List Placed → Bool) → AsksNext test → (b : Bool) (R S : Reader A) → ((tokens : List Placed) → test tokens ≡ b → S tokens ≡ R tokens)
    → (U U' : Type 0) → (U → U') → Opens test b U → (tokens : List Placed) → test tokens ≡ b
    → (front : List Placed) (l : ℕ) (t : Token) (behind : List Placed) → tokens ≡ front ++ (l, t) ∷ behind → (v : Token) → RefusesEnd U R front t v → RefusesEnd U' S front t v
refuses_end_transferred test asks b R S agree U U' voiced opens tokens next [] l t behind there v (refused, like) = (
  λ end more ends.
      let now : Tested test b t = asks 0 l t [] behind ∙ subst (λ (ts : List Placed). test ts ≡ b) there next in
      let r = refused end more ends in
      (r.0, agree ((0, v) ∷ end ∷ more) (asks 0 0 v (end ∷ more) [] ∙ opens t v now (like refl)) ∙ r.1),
  λ none. like_map voiced (like refl),
)
refuses_end_transferred test asks b R S agree U U' voiced opens tokens next ((i, w) ∷ front) l t behind there v (refused, like) = (
  λ end more ends.
      let r = refused end more ends in
      (r.0, agree ((i, w) ∷ (front ++ (0, v) ∷ end ∷ more)) (asks i i w (front ++ (0, v) ∷ end ∷ more) (front ++ (l, t) ∷ behind) ∙ subst (λ (ts : List Placed). test ts ≡ b) there next) ∙ r.1),
  λ none. absurd cc,
)

-- a token that is refused behind others
refuses_moved : {A : Type 0} (test : List Placed → Bool) → AsksNext test → (b : Bool) (R S : Reader A) → ((tokens : List Placed) → test tokens ≡ b → S tokens ≡ R tokens)
    → (tokens : List Placed) → test tokens ≡ b → (front before : List Placed) (last : Placed) (rest : List Placed) → tokens ≡ front ++ rest → front ≡ before ++ last ∷ [] → (u : Placed) → RefusesPlaced R front u → RefusesPlaced S front u
refuses_moved test asks b R S agree tokens next [] before last rest there same u refused = absurd (none before same)
  where
    none : (before : List Placed) → [] ≡ before ++ last ∷ [] → ⊥
    none [] e = cc
    none (t ∷ before) e = cc
refuses_moved test asks b R S agree tokens next ((i, v) ∷ front) before last rest there same u refused = λ more.
    let r = refused more in
    (r.0, agree ((i, v) ∷ (front ++ u ∷ more)) (asks i i v (front ++ u ∷ more) (front ++ rest) ∙ subst (λ (ts : List Placed). test ts ≡ b) there next) ∙ r.1)

-- faults in calls
module _ {A : Type 0} (test : List Placed → Bool) (asks : AsksNext test) (b : Bool) (R S : Reader A) (agree : (tokens : List Placed) → test tokens ≡ b → S tokens ≡ R tokens)
    (U U' : Type 0) (voiced : U → U') (opens : Opens test b U) (D E F : Follow) (within : (t : Token) → D t → Tested test b t) (enters : (t : Token) → D t → E t) (tokens : List Placed) (next : test tokens ≡ b) where
  no_value_moved : (front : List Placed) (l : ℕ) {t : Token} (behind : List Placed) → tokens ≡ front ++ (l, t) ∷ behind → {kind : IrFaultKind} → NoValue U D R F front t kind → NoValue U' E S F front t kind
  no_value_moved front l behind there (no_number digits width out fit bad) =
      no_number digits width out (λ other number is. fits_end_transferred test asks b R S agree D E F within enters tokens next front (l, Number digits) behind there (Number other) (fit other number is))
      (λ other is. refuses_end_transferred test asks b R S agree U U' voiced opens tokens next front l (Number digits) behind there (Number other) (bad other is))
  no_value_moved front l behind there (no_word w fit) = no_word w (fits_end_transferred test asks b R S agree D E F within enters tokens next front (l, Word w) behind there no_truth fit)
  no_value_moved front l behind there (no_truth_value w bad) = no_truth_value w (refuses_end_transferred test asks b R S agree U U' voiced opens tokens next front l (Word w) behind there no_truth bad)
  no_value_moved front l behind there (no_group text) = no_group text
  no_value_moved front l behind there (no_quoted text) = no_quoted text

  in_call_moved : (front : List Placed) {t : Placed} (behind : List Placed) → tokens ≡ front ++ t ∷ behind → {found : Fault IrFaultKind} → InCall U D R F front t found → InCall U' E S F front t found
  in_call_moved front behind there (of_callee line at written one stands fit bad) =
      of_callee line at written one stands (fits_transferred test asks b R S agree D E F within enters tokens next front (at, Function written) behind there (Function one) fit)
      (λ other is. bad_transferred test asks b R S agree U U' voiced opens tokens next front at (Function written) behind there (Function other) (bad other is))
  in_call_moved front behind there (of_value before line last end kind same ends none item fit why) =
      let whole : tokens ≡ before ++ (line, last) ∷ (end ∷ behind) = there ∙ ap (λ (ts : List Placed). ts ++ end ∷ behind) same ∙ append_assoc before ((line, last) ∷ []) (end ∷ behind) in
      of_value before line last end kind same ends (λ other is. refuses_moved test asks b R S agree tokens next front before (line, last) (end ∷ behind) there same other (none other is))
      (fits_transferred test asks b R S agree D E F within enters tokens next before (line, last) (end ∷ behind) whole a_group item)
      (fits_end_transferred test asks b R S agree D E F within enters tokens next before (line, last) (end ∷ behind) whole a_truth fit) (no_value_moved before line (end ∷ behind) whole why)
  in_call_moved front behind there (of_truth line w item fit bad) =
      of_truth line w (fits_transferred test asks b R S agree D E F within enters tokens next front (line, Word w) behind there a_group item) (fits_end_transferred test asks b R S agree D E F within enters tokens next front (line, Word w) behind there a_truth fit)
      (refuses_end_transferred test asks b R S agree U U' voiced opens tokens next front line (Word w) behind there no_truth bad)

  pub reasons_moved : OpensRecords test b E S F → (front : List Placed) (t : Placed) (behind : List Placed) → tokens ≡ front ++ t ∷ behind → (found : Fault IrFaultKind) → ReasonsIf U D R F front t found → ReasonsIf U' E S F front t found
  reasons_moved records front t behind there found (inl (same, why)) =
      inl (same, reason_map _ _ _ _ _ _ _ _ t.1 (maps_transferred test asks b R S agree U U' voiced opens D E F records within enters tokens next front t.0 t.1 behind there) found.kind why)
  reasons_moved records front t behind there found (inr call) = inr (in_call_moved front behind there call)

pub reasons_transferred : {A : Type 0} (test : List Placed → Bool) → AsksNext test → (b : Bool) (R S : Reader A) → ((tokens : List Placed) → test tokens ≡ b → S tokens ≡ R tokens)
    → (U U' Z : Type 0) → (U → U') → Opens test b U → (D E F : Follow) → OpensRecords test b E S F → ((t : Token) → D t → Tested test b t) → ((t : Token) → D t → E t) → (tokens : List Placed) → test tokens ≡ b → (r : Read A)
    → OutcomeIf U D R F Z (ReasonsIf U D R F) tokens r → OutcomeIf U' E S F Z (ReasonsIf U' E S F) tokens r
reasons_transferred test asks b R S agree U U' Z voiced opens D E F records within enters tokens next r o =
    transfer test asks b R S agree U U' Z voiced opens D E F records (ReasonsIf U D R F) (ReasonsIf U' E S F) within enters tokens
    (reasons_moved test asks b R S agree U U' voiced opens D E F within enters tokens next records)
    next r o

-- ---- a choice of two parsers

abbrev pub And : Follow → Follow → Follow
And E F t = E t × F t

abbrev pub Either : {A : Type 0} → (List Placed → Bool) → Reader A → Reader A → Reader A
Either test R S tokens = cond (test tokens) (R tokens) (S tokens)

pub either_outcome : {A : Type 0} (U : Type 0) (E F : Follow) (R S : Reader A) (test : List Placed → Bool) → AsksNext test → Opens test true U → Opens test false (Unit {0}) → SaysOfRecords test → (tokens : List Placed)
    → (test tokens ≡ true → OutcomeIf U (And E (Tested test true)) R F (Unit {0}) (ReasonsIf U (And E (Tested test true)) R F) tokens (R tokens))
    → (test tokens ≡ false → Outcome (And E (Tested test false)) S F (Reasons (And E (Tested test false)) S F) tokens (S tokens))
    → Outcome E (Either test R S) F (Reasons E (Either test R S) F) tokens (Either test R S tokens)
either_outcome U E F R S test asks yes_opens no_opens records tokens r s = by (test tokens) refl
  where
    by : (b : Bool) → test tokens ≡ b → Outcome E (Either test R S) F (Reasons E (Either test R S) F) tokens (cond b (R tokens) (S tokens))
    by true next = reasons_transferred test asks true R (Either test R S) (λ ts h. rw h refl) U (Unit {0}) (Unit {0}) (λ v. tt) yes_opens (And E (Tested test true)) E F (λ t begins says. let r = records true t begins says in (inr r.0, λ end. r.1)) (λ t d. d.1) (λ t d. d.0) tokens next (R tokens) (r next)
    by false next = reasons_transferred test asks false S (Either test R S) (λ ts h. rw h refl) (Unit {0}) (Unit {0}) (Unit {0}) (λ v. tt) no_opens (And E (Tested test false)) E F (λ t begins says. let r = records false t begins says in (inr r.0, λ end. r.1)) (λ t d. d.1) (λ t d. d.0) tokens next (S tokens) (s next)

-- a sample of the first parser is one of the choice
pub either_sample : {A : Type 0} (E F : Follow) (R S : Reader A) (test : List Placed → Bool) → AsksNext test → Sample (And E (Tested test true)) R F → Sample E (Either test R S) F
either_sample E F R S test asks r = (
  r.0,
  r.1,
  λ ts f.
      let h = r.2 ts f in
      (rw (tested_next test asks true (r.1 ++ ts) (next_map (And E (Tested test true)) (Tested test true) (r.1 ++ ts) (λ t p. p.1) h.1)) h.0, next_map (And E (Tested test true)) E (r.1 ++ ts) (λ t p. p.0) h.1),
)

pub either-good : {A : Type 0} {U : Type 0} {E F : Follow} {R S : Reader A} (test : List Placed → Bool) → AsksNext test → Opens test true U → Opens test false (Unit {0}) → SaysOfRecords test → GoodIf U (And E (Tested test true)) R F (Unit {0}) → Good (And E (Tested test false)) S F → Good E (Either test R S) F
either-good {A} {U} {E} {F} {R} {S} test asks yes_opens no_opens records r s = record {
  sample = either_sample E F R S test asks r.sample;
  outcome = λ tokens e. either_outcome U E F R S test asks yes_opens no_opens records tokens (λ next. r.outcome tokens e) (λ next. s.outcome tokens e);
  apart = either_apart test R S r.apart s.apart;
}

-- ---- the same reader

pub same-good : {A : Type 0} {V W : Type 0} {E F : Follow} {R S : Reader A} → ((tokens : List Placed) → S tokens ≡ R tokens) → GoodIf V E R F W → GoodIf V E S F W
same-good {A} {V} {W} {E} {F} {R} {S} same r = record {
  sample = (r.sample.0, r.sample.1, λ ts f. let h = r.sample.2 ts f in (same (r.sample.1 ++ ts) ∙ h.0, h.1));
  outcome = λ tokens e.
      subst (OutcomeIf V E S F W (ReasonsIf V E S F) tokens) (sym (same tokens))
      (reasons_transferred (λ ts. true) (λ l k t a b. refl) true R S (λ ts h. same ts) V V W (λ v. v) (λ t u h like. refl) E E F (λ t begins h. (inr (λ ending. refl), λ end text. refl)) (λ t d. refl) (λ t d. d) tokens refl (R tokens) (r.outcome tokens e));
  apart = λ tokens x is. r.apart tokens x (sym (same tokens) ∙ is);
}

pub same_open : {A : Type 0} {E F : Follow} {R S : Reader A} → ((tokens : List Placed) → S tokens ≡ R tokens) → GoodOpen E R F → GoodOpen E S F
same_open {A} {E} {F} {R} {S} same r = record {
  sample = (r.sample.0, r.sample.1, λ ts f. let h = r.sample.2 ts f in (same (r.sample.1 ++ ts) ∙ h.0, h.1));
  outcome = λ tokens e.
      subst (Outcome E S F (Reasons E S F) tokens) (sym (same tokens))
      (reasons_transferred (λ ts. true) (λ l k t a b. refl) true R S (λ ts h. same ts) (Unit {0}) (Unit {0}) (Unit {0}) (λ v. v) (λ t u h like. refl) E E F (λ t begins h. (inr (λ ending. refl), λ end text. refl)) (λ t d. refl) (λ t d. d) tokens refl (R tokens) (r.outcome tokens e));
  splits = λ tokens x is. r.splits tokens x (sym (same tokens) ∙ is);
}
