-- The grammar of the formulas of `Pre:`, with the nodes that each production gives. A node stands behind its operands
-- and names their places, counted from 0 in the whole formula.
use Rattle.std.specs.Prelude.{ℕ, suc, ◌+◌, ◌≤◌, List, [], ◌∷◌, ◌++◌, length, codes}
use Rattle.rule_tokens.specs.Limits.{Limits}
use Rattle.rule_tokens.specs.declared.fact.BitFact.TheVariants as facts
use Rattle.rule_tokens.specs.Tokens.{Token, Word, Fact, Register, Mark}
use Rattle.rule_terms.specs.declared.raw.RawNode.{RawNode}
use Rattle.rule_terms.specs.declared.raw.RawFormula.{RawFormula}
use Rattle.rule_terms.specs.declared.raw.RawFormula.TheVariants.{Compare, HasOneUse, MaskedValueIsZero, IsKnownNonZero, Not, And, Or}
use Rattle.rule_terms.specs.declared.formula_word.Predicate.{Predicate}
use Rattle.rule_terms.specs.declared.place.TermPlace.TheVariants.{Constant}
use Rattle.rule_terms.specs.Grammar.{last_place, SpellsWholeTerm}
use Rattle.ops.specs.declared.comparison.Pred.{Pred}
use Rattle.rule_tokens.specs.Parts.{Part}
use Rattle.rule_terms.specs.FormulaKeywords.{comparison_mark, predicate_word, predicate_node}

-- where a formula stands: it is the whole one or a member of its outermost `&&`; or it is in parentheses, behind `!` or
-- beside `||`
pub data Standing : Type 0 where
  Outermost : Standing
  Within : Standing

-- the nonterminals, from the tightest: a member of a conjunction; a conjunction, by `&&`; a disjunction, by `||`
pub data Level : Type 0 where
  Member : Level
  Members : Level
  Alternatives : Level

-- the nodes of two operands and then that of the operator; the first has the place `start`
abbrev pub joined : (ℕ → ℕ → RawFormula) → ℕ → List RawFormula → List RawFormula → List RawFormula
joined operator start left right = left ++ right ++ operator (last_place (start + length left)) (last_place (start + length left + length right)) ∷ []

-- The tokens spell a formula with these nodes, the first at the place `start`. At most `nesting` more parentheses, `!`
-- and unary operators are open at a token.
pub data SpellsFormula (limits : Limits) : Standing → Level → ℕ → ℕ → List RawFormula → List Token → Type 0 where
  -- t == t
  compares : {standing : Standing} {nesting start : ℕ} {left right : List RawNode} {front back : List Token} (pred : Pred)
      → SpellsWholeTerm limits Constant nesting left front → SpellsWholeTerm limits Constant nesting right back
      → SpellsFormula limits standing Member nesting start (Compare pred left right ∷ []) (front ++ Mark (comparison_mark pred) ∷ back)
  -- isPowerOf2(t), isSignBit(t)
  tests : {standing : Standing} {nesting start : ℕ} {term : List RawNode} {own : List Token} (predicate : Predicate)
      → SpellsWholeTerm limits Constant nesting term own
      → SpellsFormula limits standing Member (suc nesting) start (predicate_node predicate term ∷ []) (Word (predicate_word predicate) ∷ Mark (codes "(") ∷ own ++ Mark (codes ")") ∷ [])
  -- hasOneUse(%t), as a member of the outermost `&&` alone
  one_use : {nesting start : ℕ} {name : List ℕ} → length name ≤ limits.name_bytes
      → SpellsFormula limits Outermost Member nesting start (HasOneUse name ∷ []) (Word (codes "hasOneUse") ∷ Mark (codes "(") ∷ Register name ∷ Mark (codes ")") ∷ [])
  -- MaskedValueIsZero(%x, t) and isKnownNonZero(%x), as members of the outermost `&&` alone
  masked : {nesting start : ℕ} {name : List ℕ} {term : List RawNode} {own : List Token} → length name ≤ limits.name_bytes
      → SpellsWholeTerm limits Constant nesting term own
      → SpellsFormula limits Outermost Member (suc nesting) start (MaskedValueIsZero name term ∷ [])
      (Fact facts.MaskedValueIsZero ∷ Mark (codes "(") ∷ Register name ∷ Mark (codes ",") ∷ own ++ Mark (codes ")") ∷ [])
  non_zero : {nesting start : ℕ} {name : List ℕ} → length name ≤ limits.name_bytes
      → SpellsFormula limits Outermost Member nesting start (IsKnownNonZero name ∷ []) (Fact facts.IsKnownNonZero ∷ Mark (codes "(") ∷ Register name ∷ Mark (codes ")") ∷ [])
  -- ! f
  turns : {standing : Standing} {nesting start : ℕ} {nodes : List RawFormula} {own : List Token}
      → SpellsFormula limits Within Member nesting start nodes own
      → SpellsFormula limits standing Member (suc nesting) start (nodes ++ Not (last_place (start + length nodes)) ∷ []) (Mark (codes "!") ∷ own)
  -- ( f )
  encloses : {standing : Standing} {nesting start : ℕ} {nodes : List RawFormula} {own : List Token}
      → SpellsFormula limits Within Alternatives nesting start nodes own
      → SpellsFormula limits standing Member (suc nesting) start nodes (Mark (codes "(") ∷ own ++ Mark (codes ")") ∷ [])
  -- f && f, left-associative
  member : {standing : Standing} {nesting start : ℕ} {nodes : List RawFormula} {own : List Token}
      → SpellsFormula limits standing Member nesting start nodes own → SpellsFormula limits standing Members nesting start nodes own
  both : {standing : Standing} {nesting start : ℕ} {left right : List RawFormula} {front back : List Token}
      → SpellsFormula limits standing Members nesting start left front → SpellsFormula limits standing Member nesting (start + length left) right back
      → SpellsFormula limits standing Members nesting start (joined And start left right) (front ++ Mark (codes "&&") ∷ back)
  -- f || f, left-associative
  members : {standing : Standing} {nesting start : ℕ} {nodes : List RawFormula} {own : List Token}
      → SpellsFormula limits standing Members nesting start nodes own → SpellsFormula limits standing Alternatives nesting start nodes own
  either : {standing : Standing} {nesting start : ℕ} {left right : List RawFormula} {front back : List Token}
      → SpellsFormula limits Within Alternatives nesting start left front → SpellsFormula limits Within Members nesting (start + length left) right back
      → SpellsFormula limits standing Alternatives nesting start (joined Or start left right) (front ++ Mark (codes "||") ∷ back)

-- the whole formula of a precondition
abbrev pub SpellsWholeFormula : Limits → List RawFormula → Part
SpellsWholeFormula limits nodes tokens = SpellsFormula limits Outermost Alternatives limits.nested 0 nodes tokens
