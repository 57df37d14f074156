-- The first token with which a limit is passed, and the tokens with a sentinel behind it.
use Rattle.rule_viable_prefixes.proofs.Common.{◌≡◌, ℕ, ◌+◌, ◌<◌, ◌≤◌, Bool, true, false, List, [], ◌∷◌, ◌++◌, length, refl, sym, ap, subst, ◌∙◌, ◌⊎◌, inl, inr, arith, if◌then◌else◌, nat_le, leb-true, leb-false, Limits, AreWithin, Token, Line, Head, Name, Register, Arrow, Excess, EndsLine, IsOfText, AreOfText, line_behind, name_bytes, statements_behind, open_behind, used}
use Rattle.rule_viable_prefixes.proofs.Lines.{NamesEndLines}
use Rattle.rule_viable_prefixes.proofs.Marks.{Marking, State, inline, step, Passed, bytes, levels, half, Kept, Marked, none, cut, over, over_name, later}

-- ---- the state behind tokens

abbrev pub run : State → List Token → State
run s [] = s
run s (token ∷ tokens) = run (step s token) tokens

pub run_both : (s : State) (front back : List Token) → run s (front ++ back) ≡ run (run s front) back
run_both s [] back = refl
run_both s (token ∷ front) back = run_both (step s token) front back

-- the state at the beginning of a text
abbrev pub start : State
start = inline 0 0 [] false

open_is : (s : State) (tokens : List Token) → open_behind s.operand s.pending tokens ≡ (run s tokens).pending
open_is s [] = refl
open_is s (Line number ∷ tokens) = open_is (step s (Line number)) tokens
open_is s (Head text ∷ tokens) = open_is (step s (Head text)) tokens
open_is s (Arrow ∷ tokens) = open_is (step s Arrow) tokens
open_is s (Register name ∷ tokens) = open_is (step s (Register name)) tokens
open_is s (token ∷ tokens) = open_is (step s token) tokens

-- the count of statements, where a line's number came last or not
abbrev statements_from : Bool → ℕ → List Token → ℕ
statements_from begins n tokens = if begins then statements_behind n (Line 0 ∷ tokens) else statements_behind n tokens

-- of two lines' numbers one behind the other the first changes nothing
line_again : (n number : ℕ) (tokens : List Token) → statements_behind n (Line 0 ∷ Line number ∷ tokens) ≡ statements_behind n (Line 0 ∷ tokens)
line_again n number [] = refl
line_again n number (Register name ∷ tokens) = refl
line_again n number (t ∷ tokens) = refl

any_line : (n number : ℕ) (tokens : List Token) → statements_behind n (Line number ∷ tokens) ≡ statements_behind n (Line 0 ∷ tokens)
any_line n number [] = refl
any_line n number (Register name ∷ tokens) = refl
any_line n number (t ∷ tokens) = refl

statements_step : (begins : Bool) (s : State) → s.begins ≡ begins → (token : Token) (tokens : List Token) → statements_from (step s token).begins (step s token).statements tokens ≡ (run (step s token) tokens).statements
    → statements_from begins s.statements (token ∷ tokens) ≡ (run (step s token) tokens).statements
statements_step true s e (Line number) tokens more = line_again s.statements number tokens ∙ more
statements_step false s e (Line number) tokens more = any_line s.statements number tokens ∙ more
statements_step true s e (Register name) tokens more = ap (λ (b : Bool). statements_behind (if b then s.statements + 1 else s.statements) tokens) (sym e) ∙ more
statements_step false s e (Register name) tokens more = ap (λ (b : Bool). statements_behind (if b then s.statements + 1 else s.statements) tokens) (sym e) ∙ more
statements_step true s e t tokens more = more
statements_step false s e t tokens more = more

statements_none : (begins : Bool) (n : ℕ) → statements_from begins n [] ≡ n
statements_none true n = refl
statements_none false n = refl

statements_is : (s : State) (tokens : List Token) → statements_from s.begins s.statements tokens ≡ (run s tokens).statements
statements_is s [] = statements_none s.begins s.statements
statements_is s (token ∷ tokens) = statements_step s.begins s refl token tokens (statements_is (step s token) tokens)

pub line_is : (s : State) (tokens : List Token) → line_behind s.line tokens ≡ (run s tokens).line
unfolding line_behind
line_is s [] = refl
line_is s (Line number ∷ tokens) = line_is (step s (Line number)) tokens
line_is s (token ∷ tokens) = line_is (step s token) tokens

-- the states say how much of the limits is used
pub open_used : (front : List Token) (token : Token) → (used front token).nested ≡ length (step (run start front) token).pending
open_used front token = ap length (open_is start (front ++ token ∷ []) ∙ ap (λ (s : State). s.pending) (run_both start front (token ∷ [])))

pub statements_used : (front : List Token) (token : Token) → (used front token).statements ≡ (step (run start front) token).statements
statements_used front token = statements_is start (front ++ token ∷ []) ∙ ap (λ (s : State). s.statements) (run_both start front (token ∷ []))

pub within_kept : (limits : Limits) (front : List Token) (token : Token) → AreWithin limits (used front token) → Kept limits (run start front) token
within_kept limits front token is =
    let b = is.name_bytes in
    let l = is.nested in
    let h = is.statements in
    record { bytes = b; levels = omega (arith, l, open_used front token); half = omega (arith, h, statements_used front token) }

pub kept_within : (limits : Limits) (front : List Token) (token : Token) → Kept limits (run start front) token → AreWithin limits (used front token)
kept_within limits front token is =
    let b = is.bytes in
    let l = is.levels in
    let h = is.half in
    record { name_bytes = b; nested = omega (arith, l, open_used front token); statements = omega (arith, h, statements_used front token) }

-- ---- tokens with the limit of nodes

-- tokens of a text, maybe with `Excess` behind the last one
abbrev pub AreLimited : List Token → Type 0
AreLimited [] = Unit {0}
AreLimited (token ∷ []) = IsOfText token
AreLimited (token ∷ next ∷ tokens) = IsOfText token × (((next ≡ Excess) × (tokens ≡ [])) ⊎ AreLimited (next ∷ tokens))

-- with none of the tokens a limit of names, nesting or statements is passed
abbrev pub KeptAlong : Limits → State → List Token → Type 0
KeptAlong limits s [] = Unit {0}
KeptAlong limits s (token ∷ tokens) = Kept limits s token × KeptAlong limits (step s token) tokens

-- the first token with which one of these is passed, or the one before `Excess`
pub record Placed (limits : Limits) (s : State) (tokens : List Token) : Type 0 where
  pub front : List Token
  pub token : Token
  pub rest : List Token
  pub stands : tokens ≡ front ++ token ∷ rest
  pub of_text : AreOfText front × IsOfText token
  pub kept : KeptAlong limits s front
  pub passes : Passed limits (run s front) token ⊎ (Kept limits (run s front) token × (rest ≡ Excess ∷ []))

decide : (limits : Limits) (s : State) (token : Token) → Kept limits s token ⊎ Passed limits s token
decide limits s token = by (nat_le (name_bytes token) limits.name_bytes) (nat_le (length (step s token).pending) limits.nested) (nat_le (step s token).statements limits.statements) refl refl refl
  where
    by : (p q r : Bool) → nat_le (name_bytes token) limits.name_bytes ≡ p → nat_le (length (step s token).pending) limits.nested ≡ q → nat_le (step s token).statements limits.statements ≡ r → Kept limits s token ⊎ Passed limits s token
    by true true true e f g = inl (record { bytes = leb-true (name_bytes token) limits.name_bytes e; levels = leb-true (length (step s token).pending) limits.nested f; half = leb-true (step s token).statements limits.statements g })
    by false q r e f g = inr (bytes (leb-false (name_bytes token) limits.name_bytes e))
    by true false r e f g = inr (levels (leb-false (length (step s token).pending) limits.nested f))
    by true true false e f g = inr (half (leb-false (step s token).statements limits.statements g))

placed_behind : (limits : Limits) (s : State) (token : Token) (tokens : List Token) → IsOfText token → Kept limits s token → Placed limits (step s token) tokens → Placed limits s (token ∷ tokens)
placed_behind limits s token tokens of kept p = record {
  front = token ∷ p.front;
  token = p.token;
  rest = p.rest;
  stands = ap (λ (ts : List Token). token ∷ ts) p.stands;
  of_text = ((of, p.of_text.0), p.of_text.1);
  kept = (kept, p.kept);
  passes = p.passes;
}

placed_here : (limits : Limits) (s : State) (token : Token) (tokens : List Token) → IsOfText token → Passed limits s token ⊎ (Kept limits s token × (tokens ≡ Excess ∷ [])) → Placed limits s (token ∷ tokens)
placed_here limits s token tokens of how = record { front = []; token = token; rest = tokens; stands = refl; of_text = (tt, of); kept = tt; passes = how }

pub place : (limits : Limits) (s : State) (tokens : List Token) → AreLimited tokens → (KeptAlong limits s tokens × AreOfText tokens) ⊎ Placed limits s tokens
place limits s [] are = inl (tt, tt)
place limits s (token ∷ []) are = by (decide limits s token)
  where
    by : Kept limits s token ⊎ Passed limits s token → (KeptAlong limits s (token ∷ []) × AreOfText (token ∷ [])) ⊎ Placed limits s (token ∷ [])
    by (inl kept) = inl ((kept, tt), (are, tt))
    by (inr passed) = inr (placed_here limits s token [] are (inl passed))
place limits s (token ∷ next ∷ tokens) (of, more) = by (decide limits s token) more (λ are. place limits (step s token) (next ∷ tokens) are)
  where
    further : Kept limits s token → (KeptAlong limits (step s token) (next ∷ tokens) × AreOfText (next ∷ tokens)) ⊎ Placed limits (step s token) (next ∷ tokens) → (KeptAlong limits s (token ∷ next ∷ tokens) × AreOfText (token ∷ next ∷ tokens)) ⊎ Placed limits s (token ∷ next ∷ tokens)
    further kept (inl (along, all)) = inl ((kept, along), (of, all))
    further kept (inr p) = inr (placed_behind limits s token (next ∷ tokens) of kept p)

    by : Kept limits s token ⊎ Passed limits s token → ((next ≡ Excess) × (tokens ≡ [])) ⊎ AreLimited (next ∷ tokens)
        → (AreLimited (next ∷ tokens) → (KeptAlong limits (step s token) (next ∷ tokens) × AreOfText (next ∷ tokens)) ⊎ Placed limits (step s token) (next ∷ tokens))
        → (KeptAlong limits s (token ∷ next ∷ tokens) × AreOfText (token ∷ next ∷ tokens)) ⊎ Placed limits s (token ∷ next ∷ tokens)
    by (inr passed) m again = inr (placed_here limits s token (next ∷ tokens) of (inl passed))
    by (inl kept) (inl (is, none_)) again = inr (placed_here limits s token (next ∷ tokens) of (inr (kept, ap (λ (t : Token). t ∷ tokens) is ∙ ap (λ (ts : List Token). Excess ∷ ts) none_)))
    by (inl kept) (inr are) again = further kept (again are)

-- ---- tokens with the sentinel

-- how many bytes all names have
abbrev pub bytes_in : List Token → ℕ
bytes_in [] = 0
bytes_in (token ∷ tokens) = name_bytes token + bytes_in tokens

-- behind a rule's name a line's number comes before the sentinel
abbrev pub gap : ℕ → Token → List Token
gap number (Name text) = Line number ∷ []
gap number token = []

-- what comes behind the sentinel: the rest, or nothing where the sentinel is in the place of `Excess`
abbrev pub behind_mark : {A B : Type 0} → A ⊎ B → List Token → List Token
behind_mark (inl passed) rest = rest
behind_mark (inr full) rest = []

abbrev pub marks : (c : Marking) (s : State) (tokens : List Token) → Placed c.limits s tokens → List Token
marks c s tokens p = p.front ++ p.token ∷ (gap (c.anew (run s p.front).line) p.token ++ c.mark ∷ behind_mark p.passes p.rest)

-- where no limit is passed, there is no sentinel
pub unmarked : (c : Marking) (s : State) (tokens : List Token) → KeptAlong c.limits s tokens → AreOfText tokens → NamesEndLines tokens → Marked c s tokens tokens
unmarked c s [] kept of names = none
unmarked c s (Name text ∷ tokens) kept of names = later (Name text) tokens tokens (tt, names.0) kept.0 (unmarked c (step s (Name text)) tokens kept.1 of.1 names.1)
unmarked c s (token ∷ tokens) kept of names = later token tokens tokens (of.0, tt) kept.0 (unmarked c (step s token) tokens kept.1 of.1 names)

-- the sentinel comes behind tokens with which none is passed
pub marked_behind : (c : Marking) (s : State) (front a b : List Token) → KeptAlong c.limits s front → AreOfText front → NamesEndLines (front ++ a) → Marked c (run s front) a b → Marked c s (front ++ a) (front ++ b)
marked_behind c s [] a b kept of names more = more
marked_behind c s (Name text ∷ front) a b kept of names more = later (Name text) (front ++ a) (front ++ b) (tt, names.0) kept.0 (marked_behind c (step s (Name text)) front a b kept.1 of.1 names.1 more)
marked_behind c s (token ∷ front) a b kept of names more = later token (front ++ a) (front ++ b) (of.0, tt) kept.0 (marked_behind c (step s token) front a b kept.1 of.1 names more)

-- a rule's name passes the limit of names or none
name_long : (limits : Limits) (s : State) (text : List ℕ) → length s.pending ≤ limits.nested → s.statements ≤ limits.statements → Passed limits s (Name text) → limits.name_bytes < length text
name_long limits s text deep room (bytes more) = more
name_long limits s text deep room (levels more) = absurd (omega (arith, more, deep))
name_long limits s text deep room (half more) = absurd (omega (arith, more, room))

names_rest : (front rest : List Token) → NamesEndLines (front ++ rest) → NamesEndLines rest
names_rest [] rest names = names
names_rest (Name text ∷ front) rest names = names_rest front rest names.1
names_rest (token ∷ front) rest names = names_rest front rest names

-- behind tokens with which none is passed the state is within the limits
pub kept_run : (limits : Limits) (s : State) (front : List Token) → length s.pending ≤ limits.nested → s.statements ≤ limits.statements → KeptAlong limits s front → (length (run s front).pending ≤ limits.nested) × ((run s front).statements ≤ limits.statements)
kept_run limits s [] deep room kept = (deep, room)
kept_run limits s (token ∷ front) deep room kept = kept_run limits (step s token) front kept.0.levels kept.0.half kept.1

mark_here : (c : Marking) (s : State) (token : Token) (rest : List Token) → IsOfText token → NamesEndLines (token ∷ rest) → length s.pending ≤ c.limits.nested → s.statements ≤ c.limits.statements → name_bytes token ≤ c.wider.name_bytes
    → (how : Passed c.limits s token ⊎ (Kept c.limits s token × (rest ≡ Excess ∷ []))) → Marked c s (token ∷ rest) (token ∷ (gap (c.anew s.line) token ++ c.mark ∷ behind_mark how rest))
mark_here c s (Name text) rest of names deep room le (inl passed) = over_name text rest names.0 (name_long c.limits s text deep room passed) le
mark_here c s (Name text) rest of names deep room le (inr (kept, is)) = absurd (subst EndsLine is names.0)
mark_here c s token rest of names deep room le (inl passed) = over token rest of tt passed le
mark_here c s token rest of names deep room le (inr (kept, is)) = subst (λ (ts : List Token). Marked c s (token ∷ ts) (token ∷ c.mark ∷ [])) (sym is) (later token (Excess ∷ []) (c.mark ∷ []) (of, tt) kept cut)

bytes_least : (front : List Token) (token : Token) (rest : List Token) → name_bytes token ≤ bytes_in (front ++ token ∷ rest)
bytes_least [] token rest = omega arith
bytes_least (t ∷ front) token rest = let le = bytes_least front token rest in omega (arith, le)

pub marked_at : (c : Marking) (s : State) (tokens : List Token) → NamesEndLines tokens → length s.pending ≤ c.limits.nested → s.statements ≤ c.limits.statements → bytes_in tokens ≤ c.wider.name_bytes → (p : Placed c.limits s tokens) → Marked c s tokens (marks c s tokens p)
marked_at c s tokens names deep room le p =
    let whole : NamesEndLines (p.front ++ p.token ∷ p.rest) = subst NamesEndLines p.stands names in
    let most : name_bytes p.token ≤ bytes_in (p.front ++ p.token ∷ p.rest) = bytes_least p.front p.token p.rest in
    let within = kept_run c.limits s p.front deep room p.kept in
    subst (λ (ts : List Token). Marked c s ts (marks c s tokens p)) (sym p.stands)
    (marked_behind c s p.front (p.token ∷ p.rest) _ p.kept p.of_text.0 whole
    (mark_here c (run s p.front) p.token p.rest p.of_text.1 (names_rest p.front (p.token ∷ p.rest) whole) within.0 within.1 (omega (arith, most, le, ap bytes_in p.stands)) p.passes))
