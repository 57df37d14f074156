-- Which fault is the first, kind by kind.
use Rattle.ir_resolve.proofs.Common.{◌≡◌, ◌⊎◌, ℕ, ◌<◌, Bool, true, false, List, [], ◌∷◌, map, Option, None, refl, sym, ap, subst, ◌∙◌, arith, then_some, false≢true, zip, RawFunction, Fault, IrFaultKind, Numbering, Duplicate, Unknown, TypeClash, Refusal, Refused, NoMemory, IfRefused, Key, Definition, IsFirst, IsFirstLine, SomeAt, lesser, written_names, called_in, identifiers_of, cases_of, Repeats, HasName, IsWrittenOn, HasNumber, IsCaseOn, HasNameOf, MisnumbersHere, NumberingAt, DuplicateAt, UnknownAt, TypeClashAt, seen, seen_written, seen_definition, AreKeysOf, Known, Defined, definitions_of, IsFaultOfUses, unknown, clash, rank, HasFaultAt, HasNoFault, IsFirstNameFault, MarksFunction}
use Rattle.ir_resolve.proofs.Firsts.{first_either, first_if}
use Rattle.ir_resolve.proofs.Tables.{none_of}
use Rattle.ir_resolve.proofs.Standing.{written_definitions}

-- ---- what is written for definitions, and what they are

map-map : {X Y Z : Type 0} (f : X → Y) (g : Y → Z) (xs : List X) → map g (map f xs) ≡ map (λ x. g (f x)) xs
map-map f g [] = refl
map-map f g (x ∷ xs) = ap (λ zs. g (f x) ∷ zs) (map-map f g xs)

module _ (raw : RawFunction) (definitions : List Definition) (are : map seen_definition definitions ≡ definitions_of raw) where
  pub written_are : map seen_written definitions ≡ written_names raw
  written_are = sym (map-map seen_definition (λ (d : Defined). d.0) definitions) ∙ ap (map (λ (d : Defined). d.0)) are ∙ written_definitions raw

  pub entities_are : map (λ (d : Definition). d.entity) definitions ≡ map (λ (d : Defined). d.1) (definitions_of raw)
  entities_are = sym (map-map seen_definition (λ (d : Defined). d.1) definitions) ∙ ap (map (λ (d : Defined). d.1)) are

  -- the table of their keys is that of all identifiers
  pub table_is : (here there : List Definition) (keys used : List Key) (known : List Known) → here ≡ definitions → there ≡ definitions → used ≡ keys → AreKeysOf here keys
      → known ≡ zip (map seen used) (map (λ (d : Definition). d.entity) there) → known ≡ zip (identifiers_of raw) (map (λ (d : Defined). d.1) (definitions_of raw))
  table_is here there keys used known here_is there_is used_is are_keys known_is =
      let ids : map seen used ≡ identifiers_of raw = ap (map seen) used_is ∙ are_keys ∙ ap (λ ds. called_in (map seen_written ds)) here_is ∙ ap called_in written_are in
      let es : map (λ (d : Definition). d.entity) there ≡ map (λ (d : Defined). d.1) (definitions_of raw) = ap (map (λ (d : Definition). d.entity)) there_is ∙ entities_are in
      known_is ∙ ap (λ xs. zip xs (map (λ (d : Definition). d.entity) there)) ids ∙ ap (zip (identifiers_of raw)) es

  -- the first wrong number among the definitions is the first in the function
  pub misnumbered_first : (here : List Definition) (found : Option ℕ) → here ≡ definitions → IsFirst (λ line. (p : ℕ) × MisnumbersHere (map seen_written here) p line) found → IsFirst (NumberingAt raw) found
  misnumbered_first here found is first =
      subst (λ written. IsFirst (λ line. (p : ℕ) × MisnumbersHere written p line) found) (ap (map seen_written) is ∙ written_are) first

  pub repeated_first : (here : List Definition) (found : Option ℕ) → here ≡ definitions → IsFirst (Repeats HasName IsWrittenOn (map seen_written here)) found → IsFirst (Repeats HasName IsWrittenOn (written_names raw)) found
  repeated_first here found is first = subst (λ written. IsFirst (Repeats HasName IsWrittenOn written) found) (ap (map seen_written) is ∙ written_are) first

-- ---- the first line of a duplicate

-- if there is no duplicate at all, none is a name
pub name_none : (function name case rest found : Option ℕ) → rest ≡ lesser name case → found ≡ lesser function rest → found ≡ None → name ≡ None
name_none function name case rest found rest_is found_is none =
    let outer = none_of function rest (sym found_is ∙ none) in
    (none_of name case (sym rest_is ∙ outer.1)).0

pub duplicate_first : (earlier : List RawFunction) (raw : RawFunction) (is_repeated : Bool) (function name case rest found : Option ℕ) → MarksFunction is_repeated earlier raw → function ≡ then_some is_repeated raw.line
    → IsFirst (Repeats HasName IsWrittenOn (written_names raw)) name → IsFirst (SomeAt raw.blocks (λ block. Repeats HasNumber IsCaseOn (cases_of block.end))) case → rest ≡ lesser name case → found ≡ lesser function rest
    → IsFirst (DuplicateAt earlier raw) found
duplicate_first earlier raw is_repeated function name case rest found marks is first_name first_case rest_is found_is =
    let Names : ℕ → Type 0 = Repeats HasName IsWrittenOn (written_names raw) in
    let Cases : ℕ → Type 0 = SomeAt raw.blocks (λ block. Repeats HasNumber IsCaseOn (cases_of block.end)) in
    rw (found_is, rest_is)
    (first_either (λ line. HasNameOf earlier raw.name × (raw.line ≡ line)) (λ line. Names line ⊎ Cases line) function (lesser name case)
    (first_if is_repeated (HasNameOf earlier raw.name) raw.line function marks is) (first_either Names Cases name case first_name first_case))

-- ---- refusals

pub refused_at : (raw : RawFunction) (is_repeated : Bool) (kind : IrFaultKind) (line : ℕ) (e : Refusal (Fault IrFaultKind)) → e ≡ Refused (record { line = line; kind = kind })
    → ((earlier : List RawFunction) → MarksFunction is_repeated earlier raw → (other : IrFaultKind) (l : ℕ) → rank other < rank kind → ¬ HasFaultAt earlier raw other l)
    → ((earlier : List RawFunction) → MarksFunction is_repeated earlier raw → IsFirstLine (HasFaultAt earlier raw kind) line)
    → IfRefused e (λ fault. (earlier : List RawFunction) → MarksFunction is_repeated earlier raw → IsFirstNameFault earlier raw fault)
refused_at raw is_repeated kind line e is clear first =
    subst (λ e. IfRefused e (λ fault. (earlier : List RawFunction) → MarksFunction is_repeated earlier raw → IsFirstNameFault earlier raw fault)) (sym is)
    (λ earlier marks. record { line = first earlier marks; first = clear earlier marks })

-- no kind comes before the first
pub clear_none : (earlier : List RawFunction) (raw : RawFunction) (kind : IrFaultKind) (l : ℕ) → rank kind < 0 → ¬ HasFaultAt earlier raw kind l
clear_none earlier raw kind l lt = absurd (omega arith)

module _ (earlier : List RawFunction) (raw : RawFunction) (no_numbering : (line : ℕ) → ¬ NumberingAt raw line) where
  pub clear_1 : (kind : IrFaultKind) (l : ℕ) → rank kind < 1 → ¬ HasFaultAt earlier raw kind l
  clear_1 Numbering l lt = no_numbering l
  clear_1 other l lt = absurd (omega arith)

  module _ (no_duplicate : (line : ℕ) → ¬ DuplicateAt earlier raw line) where
    pub clear_2 : (kind : IrFaultKind) (l : ℕ) → rank kind < 2 → ¬ HasFaultAt earlier raw kind l
    clear_2 Numbering l lt = no_numbering l
    clear_2 Duplicate l lt = no_duplicate l
    clear_2 other l lt = absurd (omega arith)

    module _ (no_unknown : (line : ℕ) → ¬ UnknownAt raw line) where
      pub clear_3 : (kind : IrFaultKind) (l : ℕ) → rank kind < 3 → ¬ HasFaultAt earlier raw kind l
      clear_3 Numbering l lt = no_numbering l
      clear_3 Duplicate l lt = no_duplicate l
      clear_3 Unknown l lt = no_unknown l
      clear_3 other l lt = absurd (omega arith)

      pub clear_all : ((line : ℕ) → ¬ TypeClashAt raw line) → HasNoFault earlier raw
      clear_all no_clash Numbering l = no_numbering l
      clear_all no_clash Duplicate l = no_duplicate l
      clear_all no_clash Unknown l = no_unknown l
      clear_all no_clash TypeClash l = no_clash l
      clear_all no_clash other l = λ none. none

-- for each mark there are earlier functions that have it
pub marked : (is_repeated : Bool) (raw : RawFunction) → (earlier : List RawFunction) × MarksFunction is_repeated earlier raw
marked true raw = (raw ∷ [], (λ t. (0, raw, refl, refl), λ has. refl))
marked false raw = ([], (λ t. absurd (false≢true t), λ (k, other, at, name). cc))

-- a fault of uses is the first fault, if numbers are those of the series and nothing is given twice
pub uses_refused : (raw : RawFunction) (is_repeated : Bool) (e : Refusal (Fault IrFaultKind)) → ((line : ℕ) → ¬ NumberingAt raw line)
    → ((earlier : List RawFunction) → MarksFunction is_repeated earlier raw → (line : ℕ) → ¬ DuplicateAt earlier raw line)
    → IfRefused e (IsFaultOfUses raw) → IfRefused e (λ fault. (earlier : List RawFunction) → MarksFunction is_repeated earlier raw → IsFirstNameFault earlier raw fault)
uses_refused raw is_repeated NoMemory numbered once fault_of_uses = tt
uses_refused raw is_repeated (Refused fault) numbered once (unknown kind first) = λ earlier marks. record {
  line = subst (λ k. IsFirstLine (HasFaultAt earlier raw k) fault.line) (sym kind) first;
  first = λ other l lt. clear_2 earlier raw numbered (once earlier marks) other l (subst (λ k. rank other < rank k) kind lt);
}
uses_refused raw is_repeated (Refused fault) numbered once (clash kind no_unknown first) = λ earlier marks. record {
  line = subst (λ k. IsFirstLine (HasFaultAt earlier raw k) fault.line) (sym kind) first;
  first = λ other l lt. clear_3 earlier raw numbered (once earlier marks) no_unknown other l (subst (λ k. rank other < rank k) kind lt);
}
