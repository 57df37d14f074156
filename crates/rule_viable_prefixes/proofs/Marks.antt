-- To find where a limit is passed, a sentinel token is put behind the first token that passes one, and the text is read
-- within wider limits. What is read is the same as without the sentinel within the limits, but that the sentinel's
-- fault comes in place of `TooMany`.
use Rattle.rule_viable_prefixes.proofs.Common.{◌≡◌, ◌≢◌, ℕ, ◌+◌, ◌<◌, ◌≤◌, Bool, true, false, cond, List, [], ◌∷◌, length, Result, Ok, Err, refl, sym, subst, arith, if◌then◌else◌, nat_le, codes, bytes_eq, leb-true, le-leb, RuleFaultKind, BadByte, Syntax, LeftOut, TooMany, Limits, fault, unexpected, misplaced_word, name_within, RuleFault, ◌>>=◌, Token, Line, Head, Name, Register, Arrow, Bad, Excess, EndsLine, IsOfText, name_bytes, Role, role_of, ends_operand, without_signs, open_with}
use Rattle.rule_viable_prefixes.specs.Passed.{Sign}

-- ---- the sentinel

-- the sentinel and the kind of its fault: `Bad`, or `Excess`
pub data IsMark : Token → RuleFaultKind → Type 0 where
  bad : IsMark Bad BadByte
  excess : IsMark Excess TooMany

-- a sentinel, and limits with wider ones
pub record Marking : Type 0 where
  pub limits : Limits
  pub wider : Limits
  pub mark : Token
  pub kind : RuleFaultKind
  pub is_mark : IsMark mark kind
  pub name_bytes : limits.name_bytes ≤ wider.name_bytes
  pub nested : limits.nested < wider.nested
  pub statements : limits.statements < wider.statements
  -- behind a rule's name the sentinel begins a line of its own: that line's number
  pub anew : ℕ → ℕ

-- ---- what the tokens before a place tell of the limits

pub record State : Type 0 where
  pub pending : List Role
  pub operand : Bool
  pub begins : Bool
  pub statements : ℕ
  pub line : ℕ

-- the state inside a line
abbrev pub inline : ℕ → ℕ → List Role → Bool → State
inline statements line pending operand = record { pending = pending; operand = operand; begins = false; statements = statements; line = line }

-- the state behind a head or `=>`
abbrev pub headed : State → State
headed s = inline 0 s.line s.pending false

-- the state behind one token more
abbrev pub step : State → Token → State
step s (Line number) = record { pending = []; operand = false; begins = true; statements = s.statements; line = number }
step s (Head text) = headed s
step s Arrow = headed s
step s (Register name) = inline (if s.begins then s.statements + 1 else s.statements) s.line (without_signs s.pending) true
step s token = inline s.statements s.line (open_with (role_of s.operand token) s.pending) (ends_operand (role_of s.operand token))

-- with the token a limit is passed
pub data Passed (limits : Limits) (s : State) (token : Token) : Type 0 where
  bytes : limits.name_bytes < name_bytes token → Passed limits s token
  levels : limits.nested < length (step s token).pending → Passed limits s token
  half : limits.statements < (step s token).statements → Passed limits s token

-- with the token no limit is passed
pub record Kept (limits : Limits) (s : State) (token : Token) : Type 0 where
  pub bytes : name_bytes token ≤ limits.name_bytes
  pub levels : length (step s token).pending ≤ limits.nested
  pub half : (step s token).statements ≤ limits.statements

-- ---- tokens with the sentinel

-- the token is no rule's name
abbrev pub NoName : Token → Type 0
NoName (Name text) = ⊥
NoName token = Unit {0}

-- a rule's name is followed by the end of its line
abbrev pub NameEnds : Token → List Token → Type 0
NameEnds (Name text) tokens = EndsLine tokens
NameEnds token tokens = Unit {0}

no_name_ends : (token : Token) (tokens : List Token) → NoName token → NameEnds token tokens
no_name_ends (Name text) tokens never = absurd never
no_name_ends token tokens never = tt

-- the tokens that are left in such a state, and the same with the sentinel; behind a rule's name it begins a line
pub data Marked (c : Marking) : State → List Token → List Token → Type 0 where
  none : {s : State} → Marked c s [] []
  cut : {s : State} → Marked c s (Excess ∷ []) (c.mark ∷ [])
  over : {s : State} (token : Token) (rest : List Token) → IsOfText token → NoName token → Passed c.limits s token → name_bytes token ≤ c.wider.name_bytes → Marked c s (token ∷ rest) (token ∷ c.mark ∷ rest)
  over_name : {s : State} (text : List ℕ) (rest : List Token) → EndsLine rest → c.limits.name_bytes < length text → length text ≤ c.wider.name_bytes → Marked c s (Name text ∷ rest) (Name text ∷ Line (c.anew s.line) ∷ c.mark ∷ rest)
  later : {s : State} (token : Token) (a b : List Token) → IsOfText token × NameEnds token a → Kept c.limits s token → Marked c (step s token) a b → Marked c s (token ∷ a) (token ∷ b)

-- the same of what is behind the first token
pub data Next (c : Marking) (s : State) (token : Token) : List Token → List Token → Type 0 where
  passes : (rest : List Token) → NoName token → Passed c.limits s token → name_bytes token ≤ c.wider.name_bytes → Next c s token rest (c.mark ∷ rest)
  passes_name : (text : List ℕ) (rest : List Token) → token ≡ Name text → EndsLine rest → c.limits.name_bytes < length text → length text ≤ c.wider.name_bytes → Next c s token rest (Line (c.anew s.line) ∷ c.mark ∷ rest)
  goes_on : (a b : List Token) → Kept c.limits s token → Marked c (step s token) a b → Next c s token a b

pub data First (c : Marking) (s : State) : List Token → List Token → Type 0 where
  ends : First c s [] []
  stops : First c s (Excess ∷ []) (c.mark ∷ [])
  token : (token : Token) (a b : List Token) → IsOfText token × NameEnds token a → Next c s token a b → First c s (token ∷ a) (token ∷ b)

pub first : (c : Marking) (s : State) (a b : List Token) → Marked c s a b → First c s a b
first c s a b none = ends
first c s a b cut = stops
first c s a b (over t rest text no_name is le) = token t rest (c.mark ∷ rest) (text, no_name_ends t rest no_name) (passes rest no_name is le)
first c s a b (over_name text rest ended long le) = token (Name text) rest (Line (c.anew s.line) ∷ c.mark ∷ rest) (tt, ended) (passes_name text rest refl ended long le)
first c s a b (later t x y text kept more) = token t x y text (goes_on x y kept more)

-- ---- what is read

-- What is read within the limits, and within the wider ones with the sentinel: the same value, or the same fault, or
-- `TooMany` and the sentinel's fault, or `TooMany` and a value behind which the sentinel may be next.
pub data Same (c : Marking) (line : ℕ) {X : Type 0} (R : X → X → Type 0) (S : X → Type 0) : Result X RuleFault → Result X RuleFault → Type 0 where
  read : (x y : X) → R x y → Same c line R S (Ok x) (Ok y)
  failed : (e : RuleFault) → e.kind ≢ TooMany → Same c line R S (Err e) (Err e)
  told : Same c line R S (Err (fault line TooMany)) (Err (fault line c.kind))
  stands : (y : X) → S y → Same c line R S (Err (fault line TooMany)) (Ok y)

-- what is read where the sentinel is next: its fault, or a value that leaves it
pub data Meets (c : Marking) (line : ℕ) {X : Type 0} (S : X → Type 0) : Result X RuleFault → Type 0 where
  refused : Meets c line S (Err (fault line c.kind))
  left : (y : X) → S y → Meets c line S (Ok y)

pub met : {c : Marking} {line : ℕ} {X : Type 0} {R : X → X → Type 0} {S : X → Type 0} {q : Result X RuleFault} → Meets c line S q → Same c line R S (Err (fault line TooMany)) q
met refused = told
met (left y is) = stands y is

pub same_bind : {c : Marking} {line : ℕ} {X Y : Type 0} {R : X → X → Type 0} {S : X → Type 0} {P : Y → Y → Type 0} {Q : Y → Type 0} {r q : Result X RuleFault} {f g : X → Result Y RuleFault}
    → Same c line R S r q → ((x y : X) → R x y → Same c line P Q (f x) (g y)) → ((y : X) → S y → Meets c line Q (g y)) → Same c line P Q (r >>= f) (q >>= g)
same_bind (read x y is) h k = h x y is
same_bind (failed e other) h k = failed e other
same_bind told h k = told
same_bind (stands y is) h k = met (k y is)

pub meets_bind : {c : Marking} {line : ℕ} {X Y : Type 0} {S : X → Type 0} {Q : Y → Type 0} {q : Result X RuleFault} {g : X → Result Y RuleFault}
    → Meets c line S q → ((y : X) → S y → Meets c line Q (g y)) → Meets c line Q (q >>= g)
meets_bind refused k = refused
meets_bind (left y is) k = k y is

-- ---- faults

unexpected_mark : (mark : Token) (kind : RuleFaultKind) → IsMark mark kind → (line : ℕ) (rest : List Token) → unexpected line (mark ∷ rest) ≡ fault line kind
unexpected_mark m kind bad line rest = refl
unexpected_mark m kind excess line rest = refl

-- the sentinel is told by its kind wherever it isn't expected
pub mark_told : (c : Marking) (line : ℕ) (rest : List Token) → unexpected line (c.mark ∷ rest) ≡ fault line c.kind
mark_told c line rest = unexpected_mark c.mark c.kind c.is_mark line rest

pub cut_told : {c : Marking} {line : ℕ} {X : Type 0} {R : X → X → Type 0} {S : X → Type 0} (rest : List Token) → Same c line {X = X} R S (Err (fault line TooMany)) (Err (unexpected line (c.mark ∷ rest)))
cut_told {c} {line} {X} {R} {S} rest = subst (λ (e : RuleFault). Same c line {X = X} R S (Err (fault line TooMany)) (Err e)) (sym (mark_told c line rest)) told

pub mark_refused : {c : Marking} {line : ℕ} {X : Type 0} {S : X → Type 0} (rest : List Token) → Meets c line {X = X} S (Err (unexpected line (c.mark ∷ rest)))
mark_refused {c} {line} {X} {S} rest = subst (λ (e : RuleFault). Meets c line {X = X} S (Err e)) (sym (mark_told c line rest)) refused

-- the first tokens are equal and not expected
pub unexpected_both : {c : Marking} {line : ℕ} {X : Type 0} {R : X → X → Type 0} {S : X → Type 0} (token : Token) (a b : List Token) → IsOfText token × NameEnds token a → Same c line {X = X} R S (Err (unexpected line (token ∷ a))) (Err (unexpected line (token ∷ b)))
unexpected_both {line = line} Bad a b text = failed (fault line BadByte) (λ e. absurd cc)
unexpected_both Excess a b text = absurd text.0
unexpected_both {line = line} t a b text = failed (fault line Syntax) (λ e. absurd cc)

pub misplaced_both : {c : Marking} {line : ℕ} {X : Type 0} {R : X → X → Type 0} {S : X → Type 0} (word : List ℕ) → Same c line {X = X} R S (Err (misplaced_word line word)) (Err (misplaced_word line word))
misplaced_both {line = line} word = failed (misplaced_word line word) (other (bytes_eq word (codes "hasOneUse")))
  where
    other : (b : Bool) → cond b Syntax (LeftOut word) ≢ TooMany
    other true = λ e. absurd cc
    other false = λ e. absurd cc

pub syntax_both : {c : Marking} {line : ℕ} {X : Type 0} {R : X → X → Type 0} {S : X → Type 0} → Same c line {X = X} R S (Err (fault line Syntax)) (Err (fault line Syntax))
syntax_both {line = line} = failed (fault line Syntax) (λ e. absurd cc)

-- ---- names

pub short_name : (limits : Limits) (line : ℕ) (name : List ℕ) → length name ≤ limits.name_bytes → name_within limits line name ≡ Ok name
unfolding name_within
short_name limits line name le = rw (le-leb (length name) limits.name_bytes le) refl

pub long_name : (limits : Limits) (line : ℕ) (name : List ℕ) → limits.name_bytes < length name → name_within limits line name ≡ Err (fault line TooMany)
unfolding name_within
long_name limits line name long = by (nat_le (length name) limits.name_bytes) refl
  where
    by : (b : Bool) → nat_le (length name) limits.name_bytes ≡ b → cond b (Ok name) (Err (fault line TooMany)) ≡ Err (fault line TooMany)
    by true h = let le = leb-true (length name) limits.name_bytes h in absurd (omega (arith, le, long))
    by false h = refl

-- ---- the stack of what is open

pub fewer_signs : (pending : List Role) → length (without_signs pending) ≤ length pending
fewer_signs (Sign ∷ pending) = let less = fewer_signs pending in omega (arith, less)
fewer_signs [] = omega arith
fewer_signs (role ∷ pending) = omega arith
