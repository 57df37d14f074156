-- Terms and formulas have no more nodes and names than tokens that count.
use Rattle.rule_parse.proofs.Common.{◌≡◌, ℕ, ◌+◌, true, false, List, [], ◌∷◌, ◌++◌, length, refl, ◌⊎◌, inl, inr, arith, IsTrue, codes, sum_by, flat_map, sum_by-cons, sum_by-append, Pred, Function, Negate, Not, Log2, is_among, is_constant, is_choice, ends_primary, Token, Register, Word, Fact, Mark, TermPlace, RawNode, RawFormula, last_place, SpellsLeaf, SpellsTerm, leaf, width, parenthesised, called, prefixed, tighter, joined, Standing, Level, SpellsFormula, compares, tests, one_use, masked, non_zero, turns, encloses, member, members, either, comparison_mark, predicates, operator_mark, IsPrefix, IsCalled, IsChoice, terms_of_formula, is_node_word, plain_marks, node_weight, formula_weight, Limits}
use Rattle.ops.specs.declared.opcode.Opcode.{Opcode}
use Rattle.ops.specs.declared.opcode.Opcode.TheVariants as opcodes
use Rattle.ops.specs.declared.comparison.Pred.TheVariants as preds
use Rattle.rule_core.specs.declared.rule.Function.TheVariants.{Abs}
use Rattle.rule_tokens.specs.declared.fact.BitFact.TheVariants as facts
use Rattle.rule_terms.specs.declared.raw.RawNode.TheVariants as nodes
use Rattle.rule_terms.specs.declared.raw.RawFormula.TheVariants as formulas
use Rattle.rule_terms.specs.Formulas.{both}
use Rattle.rule_parse.proofs.Cuts.{Weighs, join, at_least, light, word, fact, mark, number, register, node_word, operator, enclosed}

module _ (limits : Limits) where
  -- ---- words and marks that are counted

  pub constant_counts : (name : List ℕ) → IsTrue (is_constant name) → is_node_word name ≡ true
  unfolding is_node_word ends_primary
  constant_counts name is = rw is refl

  choice_counts : (word : List ℕ) (k : ℕ) → IsChoice word k → is_node_word word ≡ true
  unfolding is_node_word ends_primary is_constant is_choice
  choice_counts word k (digits, whole, are, plain, place) = rw (whole, are) refl

  operator_counts : (op : Opcode) → is_among plain_marks (operator_mark op) ≡ false
  operator_counts opcodes.Add = refl
  operator_counts opcodes.Sub = refl
  operator_counts opcodes.Mul = refl
  operator_counts opcodes.UDiv = refl
  operator_counts opcodes.SDiv = refl
  operator_counts opcodes.URem = refl
  operator_counts opcodes.SRem = refl
  operator_counts opcodes.Shl = refl
  operator_counts opcodes.LShr = refl
  operator_counts opcodes.AShr = refl
  operator_counts opcodes.And = refl
  operator_counts opcodes.Or = refl
  operator_counts opcodes.Xor = refl
  operator_counts opcodes.UMin = refl
  operator_counts opcodes.UMax = refl
  operator_counts opcodes.SMin = refl
  operator_counts opcodes.SMax = refl

  comparison_counts : (pred : Pred) → is_among plain_marks (comparison_mark pred) ≡ false
  comparison_counts preds.Eq = refl
  comparison_counts preds.Ne = refl
  comparison_counts preds.Ugt = refl
  comparison_counts preds.Uge = refl
  comparison_counts preds.Ult = refl
  comparison_counts preds.Ule = refl
  comparison_counts preds.Sgt = refl
  comparison_counts preds.Sge = refl
  comparison_counts preds.Slt = refl
  comparison_counts preds.Sle = refl

  called_counts : (function : Function) (text : List ℕ) → IsCalled function text → Weighs 1 (Word text ∷ [])
  unfolding is_node_word ends_primary is_constant is_choice
  called_counts Log2 text is = rw is (node_word (codes "log2") refl)
  called_counts Abs text is = rw is (node_word (codes "abs") refl)
  called_counts Negate text is = absurd is
  called_counts Not text is = absurd is

  prefix_counts : (function : Function) (text : List ℕ) → IsPrefix function text → Weighs 1 (Mark text ∷ [])
  prefix_counts Negate text is = rw is (operator (codes "-") refl)
  prefix_counts Not text is = rw is (operator (codes "~") refl)
  prefix_counts Log2 text is = absurd is
  prefix_counts Abs text is = absurd is

  width_counts : Weighs 1 (Word (codes "width") ∷ [])
  unfolding is_node_word ends_primary is_constant is_choice
  width_counts = node_word (codes "width") refl

  one_use_counts : Weighs 1 (Word (codes "hasOneUse") ∷ [])
  unfolding is_node_word ends_primary is_constant is_choice
  one_use_counts = node_word (codes "hasOneUse") refl

  -- ---- terms

  abbrev pub nodes_weight : List RawNode → ℕ
  nodes_weight [] = 0
  nodes_weight (node ∷ nodes) = node_weight node + nodes_weight nodes

  pub nodes_weight-is : (t : List RawNode) → nodes_weight t ≡ sum_by node_weight t
  nodes_weight-is [] = refl
  nodes_weight-is (node ∷ t) = omega (arith, nodes_weight-is t, sum_by-cons node_weight node t)

  nodes_append : (xs ys : List RawNode) → nodes_weight (xs ++ ys) ≡ nodes_weight xs + nodes_weight ys
  nodes_append [] ys = omega arith
  nodes_append (x ∷ xs) ys = omega (arith, nodes_append xs ys)

  leaf_weighs : (place : TermPlace) (node : RawNode) (tokens : List Token) → SpellsLeaf limits place node tokens → Weighs (nodes_weight (node ∷ [])) tokens
  leaf_weighs place (nodes.Literal z) tokens (text, value, is) = rw is (number text)
  leaf_weighs place (nodes.Constant name) tokens (c, le, is) = rw is (node_word name (constant_counts name c))
  leaf_weighs place (nodes.Register name) tokens (w, le, is) = rw is (register name)
  leaf_weighs place (nodes.Choice k) tokens (text, w, choice, le, is) = rw is (node_word text (choice_counts text k choice))
  leaf_weighs place node tokens never = absurd never

  called_weighs : (w : ℕ) (text : List ℕ) (own : List Token) → Weighs 1 (Word text ∷ []) → Weighs w own → Weighs (1 + w) (Word text ∷ Mark (codes "(") ∷ own ++ Mark (codes ")") ∷ [])
  called_weighs w text own front inside = join 1 w (Word text ∷ []) (Mark (codes "(") ∷ own ++ Mark (codes ")") ∷ []) front (enclosed w own inside)

  middle_weighs : (v w : ℕ) (text : List ℕ) (front back : List Token) → is_among plain_marks text ≡ false → Weighs v front → Weighs w back → Weighs (v + (1 + w)) (front ++ Mark text ∷ back)
  middle_weighs v w text front back is a b = join v (1 + w) front (Mark text ∷ back) a (join 1 w (Mark text ∷ []) back (operator text is) b)

  pub term_weighs : {place : TermPlace} {nesting start level : ℕ} {own : List RawNode} {tokens : List Token} → SpellsTerm limits place nesting start level own tokens → Weighs (nodes_weight own) tokens
  term_weighs {place} (leaf node tokens is) = leaf_weighs place node tokens is
  term_weighs (width name le) = called_weighs 1 (codes "width") (Register name ∷ []) width_counts (register name)
  term_weighs (parenthesised {nodes = own} {tokens = tokens} inside) = enclosed (nodes_weight own) tokens (term_weighs inside)
  term_weighs (called {start = start} {nodes = own} {tokens = tokens} function text is inside) =
      at_least _ (1 + nodes_weight own) _ (omega (arith, nodes_append own (nodes.Unary function (last_place (start + length own)) ∷ [])))
      (called_weighs (nodes_weight own) text tokens (called_counts function text is) (term_weighs inside))
  term_weighs (prefixed {start = start} {nodes = own} {tokens = tokens} function text is operand) =
      at_least _ (1 + nodes_weight own) _ (omega (arith, nodes_append own (nodes.Unary function (last_place (start + length own)) ∷ [])))
      (join 1 (nodes_weight own) (Mark text ∷ []) tokens (prefix_counts function text is) (term_weighs operand))
  term_weighs (tighter term) = term_weighs term
  term_weighs (joined {start = start} {left = left} {right = right} {front = front} {back = back} op level a b) =
      let node = nodes.Binary op (last_place (start + length left)) (last_place (start + length left + length right)) in
      at_least _ (nodes_weight left + (1 + nodes_weight right)) _ (omega (arith, nodes_append (left ++ right) (node ∷ []), nodes_append left right))
      (middle_weighs (nodes_weight left) (nodes_weight right) (operator_mark op) front back (operator_counts op) (term_weighs a) (term_weighs b))

  -- ---- formulas

  abbrev pub whole_weight : RawFormula → ℕ
  whole_weight (formulas.Compare pred a b) = nodes_weight a + (1 + nodes_weight b)
  whole_weight (formulas.IsPowerOfTwo a) = 1 + nodes_weight a
  whole_weight (formulas.IsSignBit a) = 1 + nodes_weight a
  whole_weight (formulas.HasOneUse name) = 2
  whole_weight (formulas.MaskedValueIsZero name a) = 2 + nodes_weight a
  whole_weight (formulas.IsKnownNonZero name) = 2
  whole_weight node = 1

  abbrev pub formulas_weight : List RawFormula → ℕ
  formulas_weight [] = 0
  formulas_weight (f ∷ formula) = whole_weight f + formulas_weight formula

  formulas_append : (xs ys : List RawFormula) → formulas_weight (xs ++ ys) ≡ formulas_weight xs + formulas_weight ys
  formulas_append [] ys = omega arith
  formulas_append (x ∷ xs) ys = omega (arith, formulas_append xs ys)

  is_power_counts : Weighs 1 (Word (codes "isPowerOf2") ∷ [])
  unfolding is_node_word ends_primary is_constant is_choice
  is_power_counts = node_word (codes "isPowerOf2") refl

  is_sign_counts : Weighs 1 (Word (codes "isSignBit") ∷ [])
  unfolding is_node_word ends_primary is_constant is_choice
  is_sign_counts = node_word (codes "isSignBit") refl

  tests_weigh : (text : List ℕ) (node : RawFormula) (term : List RawNode) (tokens : List Token)
      → ((text ≡ codes "isPowerOf2") × (node ≡ formulas.IsPowerOfTwo term)) ⊎ ((text ≡ codes "isSignBit") × (node ≡ formulas.IsSignBit term))
      → Weighs (nodes_weight term) tokens → Weighs (formulas_weight (node ∷ [])) (Word text ∷ Mark (codes "(") ∷ tokens ++ Mark (codes ")") ∷ [])
  tests_weigh text node term tokens (inl (t, n)) inside = rw (t, n) (at_least _ (1 + nodes_weight term) _ (omega arith) (called_weighs (nodes_weight term) (codes "isPowerOf2") tokens is_power_counts inside))
  tests_weigh text node term tokens (inr (t, n)) inside = rw (t, n) (at_least _ (1 + nodes_weight term) _ (omega arith) (called_weighs (nodes_weight term) (codes "isSignBit") tokens is_sign_counts inside))

  -- a register and a mask
  masks_weigh : (name : List ℕ) (w : ℕ) (own : List Token) → Weighs w own → Weighs (1 + w) (Register name ∷ Mark (codes ",") ∷ own)
  masks_weigh name w own inside = join 1 w (Register name ∷ []) (Mark (codes ",") ∷ own) (register name) (light w (Mark (codes ",") ∷ []) own (mark (codes ",")) inside)

  pub formula_weighs : {standing : Standing} {level : Level} {nesting start : ℕ} {own : List RawFormula} {tokens : List Token} → SpellsFormula limits standing level nesting start own tokens → Weighs (formulas_weight own) tokens
  formula_weighs (compares {left = left} {right = right} {front = front} {back = back} pred a b) =
      at_least _ (nodes_weight left + (1 + nodes_weight right)) _ (omega arith)
      (middle_weighs (nodes_weight left) (nodes_weight right) (comparison_mark pred) front back (comparison_counts pred) (term_weighs a) (term_weighs b))
  formula_weighs (tests {term = term} {own = tokens} predicate inside) = tests_weigh _ _ term tokens (predicates predicate term) (term_weighs inside)
  formula_weighs (one_use {name = name} le) = called_weighs 1 (codes "hasOneUse") (Register name ∷ []) one_use_counts (register name)
  formula_weighs (masked {name = name} {term = term} {own = own} le inside) =
      at_least _ (1 + (1 + nodes_weight term)) _ (omega arith)
      (join 1 (1 + nodes_weight term) (Fact facts.MaskedValueIsZero ∷ []) (Mark (codes "(") ∷ (Register name ∷ Mark (codes ",") ∷ own) ++ Mark (codes ")") ∷ []) (fact facts.MaskedValueIsZero)
      (enclosed (1 + nodes_weight term) (Register name ∷ Mark (codes ",") ∷ own) (masks_weigh name (nodes_weight term) own (term_weighs inside))))
  formula_weighs (non_zero {name = name} le) =
      join 1 1 (Fact facts.IsKnownNonZero ∷ []) (Mark (codes "(") ∷ Register name ∷ Mark (codes ")") ∷ []) (fact facts.IsKnownNonZero) (enclosed 1 (Register name ∷ []) (register name))
  formula_weighs (turns {start = start} {nodes = own} {own = tokens} inside) =
      at_least _ (1 + formulas_weight own) _ (omega (arith, formulas_append own (formulas.Not (last_place (start + length own)) ∷ [])))
      (join 1 (formulas_weight own) (Mark (codes "!") ∷ []) tokens (operator (codes "!") refl) (formula_weighs inside))
  formula_weighs (encloses {nodes = own} {own = tokens} inside) = enclosed (formulas_weight own) tokens (formula_weighs inside)
  formula_weighs (member inside) = formula_weighs inside
  formula_weighs (both {start = start} {left = left} {right = right} {front = front} {back = back} a b) =
      let node = formulas.And (last_place (start + length left)) (last_place (start + length left + length right)) in
      at_least _ (formulas_weight left + (1 + formulas_weight right)) _ (omega (arith, formulas_append (left ++ right) (node ∷ []), formulas_append left right))
      (middle_weighs (formulas_weight left) (formulas_weight right) (codes "&&") front back refl (formula_weighs a) (formula_weighs b))
  formula_weighs (members inside) = formula_weighs inside
  formula_weighs (either {start = start} {left = left} {right = right} {front = front} {back = back} a b) =
      let node = formulas.Or (last_place (start + length left)) (last_place (start + length left + length right)) in
      at_least _ (formulas_weight left + (1 + formulas_weight right)) _ (omega (arith, formulas_append (left ++ right) (node ∷ []), formulas_append left right))
      (middle_weighs (formulas_weight left) (formulas_weight right) (codes "||") front back refl (formula_weighs a) (formula_weighs b))

  -- the nodes of formulas, and those of their terms
  own_terms : (f : RawFormula) → whole_weight f ≡ formula_weight f + sum_by (λ t. sum_by node_weight t) (terms_of_formula f)
  own_terms (formulas.Compare pred a b) = omega (arith, nodes_weight-is a, nodes_weight-is b, sum_by-cons (λ (t : List RawNode). sum_by node_weight t) a (b ∷ []))
  own_terms (formulas.IsPowerOfTwo a) = omega (arith, nodes_weight-is a)
  own_terms (formulas.IsSignBit a) = omega (arith, nodes_weight-is a)
  own_terms (formulas.HasOneUse name) = refl
  own_terms (formulas.MaskedValueIsZero name a) = omega (arith, nodes_weight-is a)
  own_terms (formulas.IsKnownNonZero name) = refl
  own_terms (formulas.Not a) = refl
  own_terms (formulas.And a b) = refl
  own_terms (formulas.Or a b) = refl

  pub formulas_weight-is : (formula : List RawFormula) → formulas_weight formula ≡ sum_by formula_weight formula + sum_by (λ t. sum_by node_weight t) (flat_map terms_of_formula formula)
  formulas_weight-is [] = refl
  formulas_weight-is (f ∷ formula) =
      omega (arith, own_terms f, formulas_weight-is formula, sum_by-cons formula_weight f formula, sum_by-append (λ (t : List RawNode). sum_by node_weight t) (terms_of_formula f) (flat_map terms_of_formula formula))
