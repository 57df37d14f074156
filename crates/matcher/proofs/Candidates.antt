-- What is read off from the root of a match down.
use Rattle.matcher.proofs.Common.{◌≡◌, inl, inr, ℕ, ◌+◌, ◌<◌, ◌≤◌, List, length, Option, Some, Ok, Err, sym, ap, subst, ◌∙◌, arith, slice_get, IfOk, Result, cases_eq, slice_get_cases, slice_get_within, get_or_from_slice_get, same_Some, width_of, Function, IsRule, SourceMayRead, operands_of, Argument, Rule, Statement, Contains-from_get, HasClasses, IsNamedInSource, HasNoFault, Knowledge, MatchesWhere, AreSlotsOf, IsFilledAs, Keeps, Knows, KnowsFrom, KnowsName, KnowsOperand, KnowsStatement, OperandsMatch, Binding, Slots, statement_at, SourceOperand, source_operand, met_at, place_of, all_filled, width_of_inst}
use Rattle.ir_core.specs.declared.operand.Register.TheVariants as registers
use Rattle.rule_core.specs.declared.rule.Argument.TheVariants as arguments
use Rattle.rule_core.specs.declared.rule.Operand.{Operand}
use Rattle.rule_core.specs.declared.rule.Register.TheVariants as names
use Rattle.matcher.proofs.Knowing.{keeps_statement}
use Rattle.matcher.proofs.Widths.{as_many, stable}

-- the root is bound to the instruction at which the match is
pub root_bound : {Before : ℕ → ℕ → ℕ → ℕ → Type 0} {known : Knowledge} (f : Function) (b p : ℕ) (rule : Rule) (m : Binding) → MatchesWhere Before known f b p rule m → (k : ℕ) → k + 1 ≡ length rule.source → slice_get m.statements k ≡ Some (registers.Result b p)
root_bound f b p rule m is k last =
    let (s, at) = statement_at rule k (omega arith) in
    let bound = is.statements k s at in
    let root = bound.matches.root (omega arith) in
    bound.bound ∙ ap (λ (x : ℕ). Some (registers.Result x bound.place)) (root.0 ∙ is.block) ∙ ap (λ (x : ℕ). Some (registers.Result b x)) (root.1 ∙ is.place)

-- the slots of an operand that a statement from j on has are filled
known_operand : (rule : Rule) (j : ℕ) (slots : Slots) (m : Binding) (o : Operand) → KnowsFrom rule j slots m → (stands : SourceOperand rule o) → j ≤ stands.j → KnowsOperand slots m o
known_operand rule j slots m o knows stands late =
    let (width, operands) = knows.statements stands.j stands.s late stands.statement in
    subst (λ (x : Operand). KnowsOperand slots m x) (get_or_from_slice_get (operands_of stands.s.op) stands.i o o stands.operand)
    (operands stands.i o (slice_get_within (operands_of stands.s.op) stands.i o stands.operand))

known_name : (slots : Slots) (m : Binding) (a b : Argument) → a ≡ b → KnowsName slots m a → KnowsName slots m b
known_name slots m a b is knows = subst (λ (x : Argument). KnowsName slots m x) is knows

-- so is the slot of a statement, once those behind it are done
pub known_statement : (rule : Rule) → IsRule rule → (j : ℕ) (slots : Slots) (m : Binding) → j < length rule.source → KnowsFrom rule (j + 1) slots m → Knows slots.statements.items m.statements j
known_statement rule is_rule j slots m within knows = elim (cases_eq (j + 1) (length rule.source)) [
  | inl last ↦ knows.root j last
  | inr earlier ↦
      let (q, (o, at, is)) = is_rule.temporaries_read j (omega arith) in
      let stands = source_operand rule q o at in
      let may : SourceMayRead rule stands.j o.value = is_rule.source_reads stands.j stands.s o stands.statement (Contains-from_get (operands_of stands.s.op) stands.i o stands.operand) in
      let less : j < stands.j = subst (λ (x : Argument). SourceMayRead rule stands.j x) is may in
      let known : KnowsOperand slots m o = known_operand rule (j + 1) slots m o knows stands (omega arith) in
      known_name slots m o.value (arguments.Register (names.Source j)) is known.1
]

-- what is asked of the slots to take a statement, if there is a match
pub record Takes (f : Function) (slots : Slots) (m : Binding) (j : ℕ) (s : Statement) : Type 0 where
  pub b : ℕ
  pub p : ℕ
  pub N : ℕ
  pub stored : slice_get slots.statements.items j ≡ Some (Some (registers.Result b p))
  pub width : width_of f (registers.Result b p) ≡ Some N
  pub typing : slice_get m.typing s.class ≡ Some N
  pub operands : OperandsMatch f m b p s.op

pub takes : {Before : ℕ → ℕ → ℕ → ℕ → Type 0} {known : Knowledge} (f : Function) (b p : ℕ) (rule : Rule) (slots : Slots) (m : Binding) (j : ℕ) (s : Statement) → IsRule rule → MatchesWhere Before known f b p rule m → slice_get rule.source j ≡ Some s → KnowsFrom rule (j + 1) slots m → Takes f slots m j s
takes f b p rule slots m j s is_rule is at knows =
    let bound = is.statements j s at in
    record {
      b = bound.block;
      p = bound.place;
      N = bound.inst.width;
      stored = known_statement rule is_rule j slots m (slice_get_within rule.source j s at) knows ∙ ap (λ o. Some o) bound.bound;
      width = width_of_inst f bound.block bound.place bound.inst bound.is_inst;
      typing = bound.matches.width;
      operands = λ i o at_i. let met = met_at f rule m j s bound i o at_i in (met.read, met.is_read, met.matches);
    }

-- one statement more
pub knows_more : (rule : Rule) (j : ℕ) (old new : Slots) (m : Binding) (s : Statement) → slice_get rule.source j ≡ Some s → Keeps m old new → KnowsStatement new m s → KnowsFrom rule (j + 1) old m → KnowsFrom rule j new m
knows_more rule j old new m s at keeps here knows = record {
  root = λ k last. keeps.statements k (knows.root k last);
  fixed = λ c N is. keeps.widths c (knows.fixed c N is);
  statements = λ k t late at_k. elim (cases_eq k j) [
    | inl same ↦ subst (λ (x : Statement). KnowsStatement new m x) (same_Some s t (sym at ∙ sym (ap (λ (i : ℕ). slice_get rule.source i) same) ∙ at_k)) here
    | inr other ↦ keeps_statement m old new t keeps (knows.statements k t (omega arith) at_k)
  ];
}

-- the slot of the width of each class is filled
known_class : (rule : Rule) (slots : Slots) (m : Binding) → KnowsFrom rule 0 slots m → (c : ℕ) → IsNamedInSource rule c → Knows slots.widths.items m.typing c
known_class rule slots m knows c (s, among, inl result) =
    let (k, at) = place_of rule.source s among in
    subst (λ (x : ℕ). Knows slots.widths.items m.typing x) result ((knows.statements k s (omega arith) at).0)
known_class rule slots m knows c (s, among, inr (o, reads, (class, name))) =
    let (k, at) = place_of rule.source s among in
    let (i, at_i) = place_of (operands_of s.op) o reads in
    let stands : SourceOperand rule o = record { j = k; s = s; i = i; statement = at; operand = at_i } in
    subst (λ (x : ℕ). Knows slots.widths.items m.typing x) class ((known_operand rule 0 slots m o knows stands (omega arith)).0)

some_width : (typing : List ℕ) (c : ℕ) → c < length typing → (N : ℕ) × (slice_get typing c ≡ Some N)
some_width typing c within = elim (slice_get_cases typing c).1 [
  | inl (N, lt, at, is) ↦ (N, at)
  | inr (past, none) ↦ absurd (omega arith)
]

some_slot : (slots : List (Option ℕ)) (c : ℕ) → c < length slots → (o : Option ℕ) × (slice_get slots c ≡ Some o)
some_slot slots c within = elim (slice_get_cases slots c).1 [
  | inl (o, lt, at, is) ↦ (o, at)
  | inr (past, none) ↦ absurd (omega arith)
]

knows_width : (rule : Rule) (slots : Slots) (m : Binding) → HasNoFault rule → HasClasses rule (length slots.widths.items) → length slots.widths.items ≡ length m.typing → KnowsFrom rule 0 slots m
    → (c : ℕ) → c < length slots.widths.items → Knows slots.widths.items m.typing c
knows_width rule slots m no_fault classes count knows c within =
    let (N, at) = some_width m.typing c (omega arith) in
    let (o, at_o) = some_slot slots.widths.items c within in
    let is : o ≡ Some N = stable o N (λ refused.
    let read_off : Knows slots.widths.items m.typing c → ⊥ = λ known. refused (same_Some o (Some N) (sym at_o ∙ known ∙ ap (λ (x : Option ℕ). Some x) at)) in
    no_fault.closed (c, (classes c).1 within, (λ named. read_off (known_class rule slots m knows c named), λ M fixed. read_off (knows.fixed c M fixed)))) in
    at_o ∙ ap (λ (x : Option ℕ). Some x) (is ∙ sym at)

later : (rule : Rule) (k : ℕ) (slots : Slots) (m : Binding) → KnowsFrom rule 0 slots m → KnowsFrom rule (k + 1) slots m
later rule k slots m knows = record { root = knows.root; fixed = knows.fixed; statements = λ i s late at. knows.statements i s (omega arith) at }

-- in the end all slots are filled, with what the match has
pub filled_as : {Before : ℕ → ℕ → ℕ → ℕ → Type 0} {known : Knowledge} (f : Function) (b p : ℕ) (rule : Rule) (slots : Slots) (m : Binding) → IsRule rule → HasNoFault rule → MatchesWhere Before known f b p rule m → AreSlotsOf rule slots → KnowsFrom rule 0 slots m → IsFilledAs slots m
filled_as f b p rule slots m is_rule no_fault is are knows =
    let widths : length slots.widths.items ≡ length m.typing = as_many rule m.typing (length slots.widths.items) is.typing are.widths in
    record {
      statements = all_filled slots.statements.items m.statements (are.statements ∙ sym is.statement_count) (λ k lt.
          known_statement rule is_rule k slots m (omega (arith, are.statements)) (later rule k slots m knows));
      inputs = all_filled slots.inputs.items m.inputs (are.inputs ∙ sym is.input_count) (λ i lt.
          let (q, (o, at, read)) = is_rule.inputs_read i (omega (arith, are.inputs)) in
          known_name slots m o.value (arguments.Register (names.Input i)) read (known_operand rule 0 slots m o knows (source_operand rule q o at) (omega arith)).1);
      constants = all_filled slots.constants.items m.constants (are.constants ∙ sym is.constant_count) (λ k lt.
          let (q, (o, at, read)) = is_rule.constants_read k (omega (arith, are.constants)) in
          known_name slots m o.value (arguments.Constant k) read (known_operand rule 0 slots m o knows (source_operand rule q o at) (omega arith)).1);
      widths = all_filled slots.widths.items m.typing widths (knows_width rule slots m no_fault are.widths widths knows);
    }

-- a result with a property has what follows from it
pub ok_then : {A E : Type 0} {P Q : A → Type 0} (r : Result A E) → IfOk r P → ((x : A) → P x → Q x) → IfOk r Q
ok_then (Ok x) p then = then x p
ok_then (Err e) p then = tt
