-- Which operand reads the k-th input or constant first, and the width of each position that reads it.
use Rattle.blast_setting.proofs.Common.{◌≡◌, ℕ, zero, suc, ◌<◌, Bool, true, false, cond, List, [], ◌∷◌, ◌++◌, ◌+◌, ◌≤◌, length, drop, drop-cons, add-one, Option, Some, None, refl, sym, ap, subst, ◌∙◌, eqb-true, eq-eqb, arith, get_or, slice_get, slice_index, Contains, find, option_map_or, option_map, option_or, drop_all, find-append, length-map-range_with_len, get_or-map-range_with_len, same_Some, slice_get_within, slice_get-get_or, get_or_from_slice_get, Rule, Statement, Operand, Argument, Name, operands_of, operands_among, operands_in, IsOperandAmong, Names, reads, reads_constant, name, IsTyping, IsRule, StandsAt, Contains-from_get, flat_map-from, operand_class_stands, source_operand, class_width, Kind, Input, Constant, argument_of, names, named_width, named_widths, IsNamed, AreNamed}
use Rattle.rule_core.specs.declared.rule.Argument.TheVariants as arguments
use Rattle.rule_core.specs.declared.rule.Register.TheVariants as registers
use Rattle.rule_core.specs.declared.rule.Name.TheVariants as names_of

-- what a search finds passes the test and stands in the list
pub found : {X : Type 0} (p : X → Bool) (xs : List X) (x : X) → find p xs ≡ Some x → Contains xs x × (p x ≡ true)
found p [] x is = cc
found p (y ∷ xs) x is =
    elim (p y) as (λ b. p y ≡ b → cond b (Some y) (find p xs) ≡ Some x → Contains (y ∷ xs) x × (p x ≡ true)) [
      | true ↦ λ pass here. let same : y ≡ x = same_Some y x here in ((0, omega arith, same), rw same at pass)
      | false ↦ λ fail later. let r = found p xs x later in ((suc r.0.0, omega (arith, r.0.1), r.0.2), r.1)
    ] refl is

-- a search finds something where an element passes the test
pub finds : {X : Type 0} (p : X → Bool) (xs : List X) (q : ℕ) (o : X) → slice_get xs q ≡ Some o → p o ≡ true → (x : X) × (find p xs ≡ Some x)
finds p [] q o at pass = absurd (omega (arith, slice_get_within [] q o at))
finds p (y ∷ xs) zero o at pass = let e : p y ≡ true = ap p (same_Some y o at) ∙ pass in (y, rw e refl)
finds {X} p (y ∷ xs) (suc q) o at pass = elim (p y) as (λ b. (x : X) × (cond b (Some y) (find p xs) ≡ Some x)) [ true ↦ (y, refl) | false ↦ finds p xs q o at pass ]

-- an operand that reads the k-th of a kind is its argument
names_at : (kind : Kind) (k : ℕ) (x : Argument) → names kind k x ≡ true → x ≡ argument_of kind k
names_at Input k (arguments.Register (registers.Input i)) pass = ap (λ j. arguments.Register (registers.Input j)) (eqb-true i k pass)
names_at Input k (arguments.Register (registers.Source i)) pass = cc
names_at Input k (arguments.Register (registers.Target i)) pass = cc
names_at Input k (arguments.Literal z) pass = cc
names_at Input k (arguments.Truth b) pass = cc
names_at Input k (arguments.Constant i) pass = cc
names_at Input k (arguments.Undef i) pass = cc
names_at Input k (arguments.Term i) pass = cc
names_at Constant k (arguments.Register (registers.Input i)) pass = cc
names_at Constant k (arguments.Register (registers.Source i)) pass = cc
names_at Constant k (arguments.Register (registers.Target i)) pass = cc
names_at Constant k (arguments.Literal z) pass = cc
names_at Constant k (arguments.Truth b) pass = cc
names_at Constant k (arguments.Constant i) pass = ap (arguments.Constant) (eqb-true i k pass)
names_at Constant k (arguments.Undef i) pass = cc
names_at Constant k (arguments.Term i) pass = cc

named_passes : (kind : Kind) (k : ℕ) (x : Argument) → x ≡ argument_of kind k → names kind k x ≡ true
named_passes Input k x is = ap (names Input k) is ∙ eq-eqb k k refl
named_passes Constant k x is = ap (names Constant k) is ∙ eq-eqb k k refl

abbrev pub test : Kind → ℕ → Operand → Bool
test kind k o = names kind k o.value

-- the first operand that reads it, by which its width is told
pub first_named : (statements : List Statement) (kind : Kind) (k : ℕ) (o : Operand) → IsOperandAmong statements o → o.value ≡ argument_of kind k
    → (f : Operand) × (find (test kind k) (operands_among statements) ≡ Some f) × IsOperandAmong statements f × (f.value ≡ argument_of kind k)
first_named statements kind k o (q, lt, e) is =
    let there : slice_get (operands_among statements) q ≡ Some o = slice_get-get_or (operands_among statements) q o lt ∙ ap (λ x. Some x) e in
    let f = finds (test kind k) (operands_among statements) q o there (named_passes kind k o.value is) in
    let r = found (test kind k) (operands_among statements) f.0 f.1 in
    (f.0, f.1, r.0, names_at kind k f.0.value r.1)

-- the name of the k-th of a kind; below, how many of the kind the rule has
abbrev pub name_of : Kind → ℕ → Name
name_of Input k = names_of.Register (registers.Input k)
name_of Constant k = names_of.Constant k

abbrev pub count_of : Rule → Kind → ℕ
count_of rule Input = length rule.inputs
count_of rule Constant = length rule.constants

pub naming : (rule : Rule) (kind : Kind) (k : ℕ) (o : Operand) → IsOperandAmong rule.source o → o.value ≡ argument_of kind k → Names rule (name_of kind k) o.class
naming rule Input k o among is = reads (source_operand rule o among) is
naming rule Constant k o among is = reads_constant (source_operand rule o among) is

-- the class of each operand of the rule has a width
pub operand_width : (rule : Rule) (typing : List ℕ) (o : Operand) → IsTyping rule typing → Contains (operands_in rule) o → (N : ℕ) × (slice_get typing o.class ≡ Some N)
operand_width rule typing o typed among =
    let of = flat_map-from (λ (s : Statement). operands_of s.op) (rule.source ++ rule.target) o among in
    class_width rule typing o.class typed (operand_class_stands rule of.1 o (Contains-from_get (rule.source ++ rule.target) of.0 of.1 of.2) of.3)

-- the width that the first operand tells is that of each position that reads the name
pub named_width-is : (rule : Rule) (typing : List ℕ) (kind : Kind) (k c N : ℕ) → IsTyping rule typing → IsNamed typing rule.source kind k
    → Names rule (name_of kind k) c → slice_get typing c ≡ Some N → named_width typing rule.source kind k ≡ N
named_width-is rule typing kind k c N typed named names_it at =
    let f = first_named rule.source kind k named.operand.0 named.operand.1 named.operand.2 in
    let width : slice_get typing f.0.class ≡ Some N = typed.same f.0.class c (name (naming rule kind k f.0 f.2 f.3) names_it) ∙ at in
    ap (λ x. option_map_or (λ (y : Operand). slice_index typing y.class) x 0) f.1 ∙ get_or_from_slice_get typing f.0.class N 0 width

-- an argument that stands at a place of the source is one of an operand of it
at_place : (rule : Rule) (q : ℕ) (x : Argument) → StandsAt rule q x → (o : Operand) × IsOperandAmong rule.source o × (o.value ≡ x)
at_place rule q x (o, at, is) = (o, Contains-from_get (operands_among rule.source) q o at, is)

named_operand : (rule : Rule) (kind : Kind) (k : ℕ) → IsRule rule → k < count_of rule kind → (o : Operand) × IsOperandAmong rule.source o × (o.value ≡ argument_of kind k)
named_operand rule Input k checked within = let q = checked.inputs_read k within in at_place rule q.0 (argument_of Input k) q.1
named_operand rule Constant k checked within = let q = checked.constants_read k within in at_place rule q.0 (argument_of Constant k) q.1

pub are_named : (rule : Rule) (typing : List ℕ) (kind : Kind) → IsRule rule → IsTyping rule typing → AreNamed typing rule.source kind (count_of rule kind)
are_named rule typing kind checked typed k within = record {
  operand = named_operand rule kind k checked within;
  classes = λ o among. let w = operand_width rule typing o typed (source_operand rule o among) in slice_get_within typing o.class w.0 w.1;
}

pub length-named_widths : (typing : List ℕ) (statements : List Statement) (kind : Kind) (count : ℕ) → length (named_widths typing statements kind count) ≡ count
length-named_widths typing statements kind count = length-map-range_with_len (named_width typing statements kind) 0 count

-- the width at place k is that of the k-th of the kind
pub named_widths-at : (typing : List ℕ) (statements : List Statement) (kind : Kind) (count k : ℕ) → k < count → slice_get (named_widths typing statements kind count) k ≡ Some (named_width typing statements kind k)
named_widths-at typing statements kind count k within =
    slice_get-get_or (named_widths typing statements kind count) k 0 (omega (arith, length-named_widths typing statements kind count))
    ∙ ap (λ N. Some N) (get_or-map-range_with_len (named_width typing statements kind) 0 count k k 0 within (omega arith))

-- the first operand of statement i that reads it tells its width, where no statement before has one
option_class : (o : Option Operand) (class : ℕ) → Some class ≡ option_map (λ (x : Operand). x.class) o → (x : Operand) × (o ≡ Some x) × (x.class ≡ class)
option_class None class is = cc
option_class (Some x) class is = (x, refl, sym (same_Some class x.class is))

pub none_names : (o : Option Operand) → None ≡ option_map (λ (x : Operand). x.class) o → o ≡ None
none_names None is = refl
none_names (Some x) is = cc

pub find-next : (kind : Kind) (k i : ℕ) (statements : List Statement) (s : Statement) → i < length statements → s ≡ get_or statements i s
    → find (test kind k) (operands_among (drop i statements)) ≡ option_or (find (test kind k) (operands_of s.op)) (find (test kind k) (operands_among (drop (i + 1) statements)))
find-next kind k i statements s within is =
    let rest : drop i statements ≡ s ∷ drop (i + 1) statements = rw add-one (drop-cons statements i s within ∙ ap (λ x. x ∷ drop (suc i) statements) (sym is)) in
    rw rest (find-append (test kind k) (operands_of s.op) (operands_among (drop (i + 1) statements)))

pub naming_class : (typing : List ℕ) (statements : List Statement) (kind : Kind) (k i : ℕ) (s : Statement) (class : ℕ) → IsNamed typing statements kind k → i < length statements → s ≡ get_or statements i s
    → find (test kind k) (operands_among statements) ≡ find (test kind k) (operands_among (drop i statements))
    → Some class ≡ option_map (λ (o : Operand). o.class) (find (test kind k) (operands_of s.op))
    → (class < length typing) × (slice_index typing class ≡ named_width typing statements kind k)
naming_class typing statements kind k i s class named within is before here =
    let o = option_class (find (test kind k) (operands_of s.op)) class here in
    let found_it : find (test kind k) (operands_among statements) ≡ Some o.0 =
    before ∙ find-next kind k i statements s within is ∙ ap (λ x. option_or x (find (test kind k) (operands_among (drop (i + 1) statements)))) o.1 in
    let among = (found (test kind k) (operands_among statements) o.0 found_it).0 in (
      subst (λ c. c < length typing) o.2 (named.classes o.0 among),
      ap (slice_index typing) (sym o.2) ∙ sym (ap (λ x. option_map_or (λ (y : Operand). slice_index typing y.class) x 0) found_it),
    )

-- a search for it doesn't come to the end of the statements: some statement reads it
pub no_end : (typing : List ℕ) (statements : List Statement) (kind : Kind) (k i : ℕ) → IsNamed typing statements kind k → length statements ≤ i
    → find (test kind k) (operands_among statements) ≡ find (test kind k) (operands_among (drop i statements)) → ⊥
no_end typing statements kind k i named end before =
    let f = first_named statements kind k named.operand.0 named.operand.1 named.operand.2 in
    let none : find (test kind k) (operands_among (drop i statements)) ≡ None = rw (drop_all i statements end) refl in
    cc (f.1, before, none)
