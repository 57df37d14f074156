-- The trail of a search: the literals that are held, that is, assigned true, in the order in which they were assigned,
-- each with its cause (Davis, Putnam, Logemann, Loveland).
use Rattle.std.specs.Prelude.{◌≡◌, ℕ, ◌<◌, ◌≤◌, ◌++◌, Bool, true, false, not, List, [], ◌∷◌, Some, None, Option, if◌then◌else◌, map, filter, take, length, slice_get, slice_index_or, unwrap_or}
use Rattle.std.specs.List.{filter_map, sum_by}
use Rattle.clauses.specs.Literal.{Lit, code_of, negation_of, literal_of}
use Rattle.clauses.specs.Propagation.{NamesUnit, is_held}
use Rattle.depth_first.specs.declared.trail.Entry.{Entry}
use Rattle.depth_first.specs.declared.trail.Cause.{Cause}
use Rattle.depth_first.specs.declared.trail.Cause.TheVariants.{InputDecision, NonInputDecision, Reason}

-- the literals of the entries, all of them held
abbrev pub literals : List Entry → List Lit
literals entries = map (λ (e : Entry). e.literal) entries

abbrev pub is_decision : Cause → Bool
is_decision InputDecision = true
is_decision NonInputDecision = true
is_decision (Reason number) = false

abbrev pub reason_of : Cause → Option ℕ
reason_of InputDecision = None
reason_of NonInputDecision = None
reason_of (Reason number) = Some number

-- the literals that were decided, in order
abbrev pub decisions : List Entry → List Lit
decisions entries = literals (filter (λ (e : Entry). is_decision e.cause) entries)

-- the numbers of the clauses that are reasons of entries, in order
abbrev pub reasons : List Entry → List ℕ
reasons entries = filter_map (λ (e : Entry). reason_of e.cause) entries

-- The variable is open, without a value: neither of its literals is held. Below, it is set: one of them is held.
abbrev pub IsOpen : List Lit → ℕ → Type 0
IsOpen held n = (value : Bool) → is_held held (literal_of n value) ≡ false

abbrev pub IsSet : List Lit → ℕ → Type 0
IsSet held n = (value : Bool) × (is_held held (literal_of n value) ≡ true)

-- whether a variable's value, if there is one, makes the literal true
abbrev pub value_makes : Option Bool → Lit → Bool
value_makes None l = false
value_makes (Some value) l = if l.negated then not value else value

-- whether the table of the variables' values makes the literal true
abbrev pub table_makes : List (Option Bool) → Lit → Bool
table_makes values l = value_makes (slice_index_or values l.variable None) l

-- the table of the variables' values makes exactly the literals true that the trail holds
abbrev pub IsTableOf : List (Option Bool) → List Entry → Type 0
IsTableOf values entries = (l : Lit) → is_held (literals entries) l ≡ table_makes values l

-- The table of the literals, by their codes, says of each whether the trail holds it.
abbrev pub IsHeldTable : List Bool → List Entry → Type 0
IsHeldTable held entries = (l : Lit) → is_held (literals entries) l ≡ slice_index_or held (code_of l) false

-- each entry's variable has a place in the table, and had no value before the entry
abbrev pub EachFresh : List (Option Bool) → List Entry → Type 0
EachFresh values entries =
    (place : ℕ) (e : Entry) → slice_get entries place ≡ Some e →
    (1 ≤ e.literal.variable) × (e.literal.variable < length values) × IsOpen (literals (take place entries)) e.literal.variable

-- how many of the table's places have no value
abbrev pub one_if_open : Option Bool → ℕ
one_if_open None = 1
one_if_open (Some value) = 0

abbrev pub open_count : List (Option Bool) → ℕ
open_count values = sum_by one_if_open values

-- the entry has a reason: a clause in which its literal was unit, by what was held before
abbrev pub IsForced : List (List Lit) → List Lit → Entry → Type 0
IsForced clauses held e = (number : ℕ) × (e.cause ≡ Reason number) × NamesUnit clauses held number e.literal

-- each entry with a reason was unit in the clause of its reason, by what was held before
pub record EachForced (clauses : List (List Lit)) (entries : List Entry) : Type 0 where
  pub each : (place : ℕ) (e : Entry) (number : ℕ) → slice_get entries place ≡ Some e → e.cause ≡ Reason number → NamesUnit clauses (literals (take place entries)) number e.literal

-- the trail grew by entries that clauses forced, each by what was held before it
pub record Grows (clauses : List (List Lit)) (old new : List Entry) : Type 0 where
  pub more : List Entry
  pub is : new ≡ old ++ more
  pub forced : (place : ℕ) (e : Entry) → slice_get more place ≡ Some e → IsForced clauses (literals (old ++ take place more)) e

-- the place of the last decision: an entry that was decided, behind which none was
abbrev pub IsLastDecision : List Entry → ℕ → Type 0
IsLastDecision entries place =
    (e : Entry) × (slice_get entries place ≡ Some e) × (is_decision e.cause ≡ true)
    × (decisions entries ≡ decisions (take place entries) ++ e.literal ∷ [])

-- The trail after the decision at this place is flipped: the entries before it, and then the decision's negation, with
-- the clause of this number as its reason (chronological backtracking).
abbrev pub IsFlipped : List Entry → ℕ → ℕ → List Entry → Type 0
IsFlipped old place number new =
    (e : Entry) → slice_get old place ≡ Some e →
    new ≡ take place old ++ (record { literal = negation_of e.literal; cause = Reason number }) ∷ []

-- the value of a variable, where one without a value counts as false
abbrev pub value_or_false : Option Bool → Bool
value_or_false value = unwrap_or value false
