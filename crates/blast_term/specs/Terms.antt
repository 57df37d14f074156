-- What the literals of terms stand for, and what is asked for building them: that each thing that a node reads has a
-- word of the right width.
use Rattle.std.specs.Prelude.{◌≡◌, ℕ, ◌≤◌, ◌<◌, List, length, map, take, Some, slice_get, slice_index, IsTrue, Bool}
use Rattle.std.specs.List.{All}
use Rattle.std.specs.Option.{unwrap_or}
use Rattle.ops.specs.Number.{Number}
use Rattle.ops.specs.declared.value.Value.{Value}
use Rattle.ops.specs.declared.value.Value.TheVariants.{Poison}
use Rattle.rule_core.specs.declared.rule.Rule.{Rule}
use Rattle.rule_core.specs.declared.rule.Register.{Register}
use Rattle.rule_core.specs.declared.rule.Term.{Term}
use Rattle.rule_core.specs.declared.rule.Node.{Node}
use Rattle.rule_core.specs.declared.rule.Node.TheVariants as nodes
use Rattle.rule_core.specs.declared.rule.Formula.{Formula}
use Rattle.rule_core.specs.declared.rule.Formula.TheVariants as formulas
use Rattle.rule_core.specs.Run.{value_of}
use Rattle.rule_core.specs.Terms.{Meanings, HasNumber, value_at, number_or_zero, values_of, truths_of, last_holds}
use Rattle.blast_value.specs.declared.held.Held.{Held}
use Rattle.blast_term.specs.declared.scope.Scope.{Scope}
use Rattle.blast_value.specs.Words.{number_held}
use Rattle.blast_term.specs.Scope.{held_at, seen}

-- The names have the values that the literals of the scope stand for.
pub record MeansNames {L : Type 0} (value : L → Bool) (scope : Scope L) (names : Meanings) : Type 0 where
  pub constants : names.constants ≡ map (number_held value) scope.constants.now
  pub choices : names.choices ≡ map (number_held value) scope.choices.now
  pub registers : (r : Register) → names.registers r ≡ unwrap_or (value_of (seen value scope) r) Poison

-- the width of each node, that of its class
abbrev pub term_widths : List ℕ → List Term → List ℕ
term_widths typing terms = map (λ t. slice_index typing t.class) terms

-- there is a word of iN at the place
abbrev pub HasWord : {L : Type 0} → List (List L) → ℕ → ℕ → Type 0
HasWord words k N = (word : List _) × (slice_get words k ≡ Some word) × (length word ≡ N)

-- what a node of iN reads has literals, of the width N, where the nodes before it have these widths; a node that is the
-- width of a class reads a class of the typing
abbrev pub NodeIsHeld : {L : Type 0} → List ℕ → Scope L → List ℕ → ℕ → Node → Type 0
NodeIsHeld typing scope before N (nodes.Literal z) = Unit {0}
NodeIsHeld typing scope before N (nodes.Constant k) = HasWord scope.constants.now k N
NodeIsHeld typing scope before N (nodes.Register r) = (held : Held _) × (held_at scope r ≡ Some held) × (length held.bits ≡ N)
NodeIsHeld typing scope before N (nodes.Choice k) = HasWord scope.choices.now k N
NodeIsHeld typing scope before N (nodes.Width r c) = c < length typing
NodeIsHeld typing scope before N (nodes.Unary function a) = slice_get before a ≡ Some N
NodeIsHeld typing scope before N (nodes.Binary op a b) = (slice_get before a ≡ Some N) × (slice_get before b ≡ Some N)

abbrev pub TermIsHeld : {L : Type 0} → List ℕ → Scope L → List ℕ → Term → Type 0
TermIsHeld typing scope before t = (t.class < length typing) × NodeIsHeld typing scope before (slice_index typing t.class) t.node

-- what each of the nodes reads has literals; it reads only nodes before it
abbrev pub TermsAreHeld : {L : Type 0} → List ℕ → Scope L → List Term → Type 0
TermsAreHeld typing scope terms = (n : ℕ) (t : Term) → slice_get terms n ≡ Some t → TermIsHeld typing scope (take n (term_widths typing terms)) t

-- what a node of a formula reads is there, where the terms have these widths and `before` nodes of the formula stand
-- before it
abbrev pub FormulaIsHeld : List ℕ → ℕ → Formula → Type 0
FormulaIsHeld widths before (formulas.Compare pred a b) = (N : ℕ) × (1 ≤ N) × (slice_get widths a ≡ Some N) × (slice_get widths b ≡ Some N)
FormulaIsHeld widths before (formulas.IsPowerOfTwo a) = (N : ℕ) × (1 ≤ N) × (N ≤ 64) × (slice_get widths a ≡ Some N)
FormulaIsHeld widths before (formulas.IsSignBit a) = (N : ℕ) × (1 ≤ N) × (N ≤ 64) × (slice_get widths a ≡ Some N)
FormulaIsHeld widths before (formulas.HasOneUse j) = Unit {0}
FormulaIsHeld widths before (formulas.MaskedValueIsZero r a) = Unit {0}
FormulaIsHeld widths before (formulas.IsKnownNonZero r) = Unit {0}
FormulaIsHeld widths before (formulas.Not a) = a < before
FormulaIsHeld widths before (formulas.And a b) = (a < before) × (b < before)
FormulaIsHeld widths before (formulas.Or a b) = (a < before) × (b < before)

abbrev pub FormulasAreHeld : List ℕ → List Formula → Type 0
FormulasAreHeld widths formulas = (n : ℕ) (f : Formula) → slice_get formulas n ≡ Some f → FormulaIsHeld widths n f

-- what a node says bits of is there: a register, and of a mask a word as wide
abbrev pub FactIsHeld : {L : Type 0} → Scope L → Formula → Type 0
FactIsHeld scope (formulas.MaskedValueIsZero r a) = (held : Held _) × (held_at scope r ≡ Some held) × HasWord scope.terms.now a (length held.bits)
FactIsHeld scope (formulas.IsKnownNonZero r) = (held : Held _) × (held_at scope r ≡ Some held) × (length held.bits ≤ 64)
FactIsHeld scope formula = Unit {0}

abbrev pub FactsAreHeld : {L : Type 0} → Scope L → List Formula → Type 0
FactsAreHeld scope formulas = All (FactIsHeld scope) formulas

-- The precondition is met by terms with these values: each of them is a number, and the formula is true.
pub record PreconditionMet (given : List Value) (formulas : List Formula) : Type 0 where
  pub values : (n : ℕ) (v : Value) → slice_get given n ≡ Some v → HasNumber v
  pub formula : IsTrue (last_holds (truths_of given formulas))

-- the number of the value at a place, at the width told of it; it is 0 where the value is poison
abbrev pub number_chosen : List ℕ → List Value → ℕ → Number
number_chosen widths values n = record { width = slice_index widths n; number = number_or_zero (value_at values n) }

-- the numbers that `Wit:` gives for the choices of the source
abbrev pub numbers_chosen : List ℕ → Meanings → Rule → List Number
numbers_chosen typing names rule = map (number_chosen (term_widths typing rule.witness_terms) (values_of typing names rule.witness_terms)) rule.witnesses

-- the first term that a node of a formula reads, if it reads one, is among the first `count`
abbrev pub ReadsTerms : ℕ → Formula → Type 0
ReadsTerms count (formulas.Compare pred a b) = a < count
ReadsTerms count (formulas.IsPowerOfTwo a) = a < count
ReadsTerms count (formulas.IsSignBit a) = a < count
ReadsTerms count (formulas.MaskedValueIsZero r a) = a < count
ReadsTerms count formula = Unit {0}
