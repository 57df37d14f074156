-- The nodes of a rule's terms, precondition and `Wit:` may be built: each thing that they read has literals of the
-- right width.
use Rattle.blast_rule.proofs.Common.{◌≡◌, ℕ, ◌<◌, ◌≤◌, List, [], length, map, take, Some, refl, sym, ap, ◌∙◌, arith, get_or, get_or-take, slice_get, slice_index, option_map, length-map, length-take, slice_get-get_or, slice_get_within, slice_get-map, get_or_from_slice_get, same_Some, Rule, Term, Node, Formula, IsTermOf, TermLine, Line, unary, left, right, term, term_constant, compared_terms, IsTyping, IsRule, MayBeTerm, MayBeFormula, Contains-from_get, term_class_stands, measured_class_stands, constant_term, class_width, Scope, Constant, constant_widths, named_width, HasWord, NodeIsHeld, TermsAreHeld, FormulaIsHeld, FormulasAreHeld, term_widths, named_width-is, are_named, length-named_widths, named_widths-at}
use Rattle.rule_core.specs.declared.rule.Node.TheVariants as nodes
use Rattle.rule_core.specs.declared.rule.Formula.TheVariants as formulas

-- the width of the node at a place
pub width_at : (typing : List ℕ) (terms : List Term) (a N : ℕ) (x : Term) → slice_get terms a ≡ Some x → slice_get typing x.class ≡ Some N → slice_get (term_widths typing terms) a ≡ Some N
width_at typing terms a N x at width =
    slice_get-map (λ (t : Term). slice_index typing t.class) terms a ∙ ap (option_map (λ (t : Term). slice_index typing t.class)) at ∙ ap (λ M. Some M) (get_or_from_slice_get typing x.class N 0 width)

-- an element before place n is one of the first n
pub get_taken : {X : Type 0} (xs : List X) (n a : ℕ) (x : X) → a < n → slice_get xs a ≡ Some x → slice_get (take n xs) a ≡ Some x
get_taken xs n a x less at =
    let within : a < length xs = slice_get_within xs a x at in
    slice_get-get_or (take n xs) a x (omega (arith, length-take n xs)) ∙ ap (λ y. Some y) (get_or-take n xs a x less ∙ get_or_from_slice_get xs a x x at)

-- there is a word of its width for each constant
word_there : {L : Type 0} (rule : Rule) (typing : List ℕ) (words : List (List L)) (k c N : ℕ) → IsRule rule → IsTyping rule typing → map length words ≡ constant_widths rule typing → k < length rule.constants
    → (t : Term) → IsTermOf rule t → t.node ≡ nodes.Constant k → slice_get typing t.class ≡ Some N → HasWord words k N
word_there rule typing words k c N checked typed widths within t stands is width =
    let count : length words ≡ length rule.constants = sym (length-map words length) ∙ ap length widths ∙ length-named_widths typing rule.source Constant (length rule.constants) in
    let w = get_or words k [] in
    let at : slice_get words k ≡ Some w = slice_get-get_or words k [] (omega arith) in
    let told : Some (length w) ≡ Some (named_width typing rule.source Constant k) =
    sym (slice_get-map length words k ∙ ap (option_map length) at) ∙ ap (λ ws. slice_get ws k) widths ∙ named_widths-at typing rule.source Constant (length rule.constants) k within in
    (w, at, same_Some (length w) (named_width typing rule.source Constant k) told ∙ named_width-is rule typing Constant k t.class N typed (are_named rule typing Constant checked typed k within) (term_constant stands is) width)

module _ {L : Type 0} (rule : Rule) (typing : List ℕ) (checked : IsRule rule) (typed : IsTyping rule typing) (scope : Scope L) (widths : map length scope.constants.now ≡ constant_widths rule typing) where
  -- an operand of a node has the node's width
  operand_at : (terms : List Term) (n a N : ℕ) (t x : Term) → ((c d : ℕ) → TermLine terms c d → Line rule c d) → TermLine terms t.class x.class → a < n → slice_get terms a ≡ Some x → slice_get typing t.class ≡ Some N
      → slice_get (take n (term_widths typing terms)) a ≡ Some N
  operand_at terms n a N t x lines line less at width =
      get_taken (term_widths typing terms) n a N less (width_at typing terms a N x at (sym (typed.same t.class x.class (lines t.class x.class line)) ∙ width))

  there : (terms : List Term) (n a : ℕ) (t : Term) → slice_get terms n ≡ Some t → a < n → slice_get terms a ≡ Some (get_or terms a t)
  there terms n a t at less = let within : n < length terms = slice_get_within terms n t at in slice_get-get_or terms a t (omega arith)

  constant_node : (n N : ℕ) (t : Term) (node : Node) → slice_get rule.terms n ≡ Some t → t.node ≡ node → MayBeTerm rule n node → slice_get typing t.class ≡ Some N → NodeIsHeld typing scope (take n (term_widths typing rule.terms)) N node
  constant_node n N t (nodes.Literal z) at is may width = tt
  constant_node n N t (nodes.Constant k) at is may width = word_there rule typing scope.constants.now k t.class N checked typed widths may t (constant_term rule n t at) is width
  constant_node n N t (nodes.Register r) at is may width = absurd may
  constant_node n N t (nodes.Choice k) at is may width = absurd may
  constant_node n N t (nodes.Width r c) at is may width = typed.classes c (measured_class_stands rule t r c (constant_term rule n t at) is)
  constant_node n N t (nodes.Unary function a) at is may width =
      let x = there rule.terms n a t at may in
      operand_at rule.terms n a N t (get_or rule.terms a t) (λ c d line. term line) (unary (Contains-from_get rule.terms n t at) is x) may x width
  constant_node n N t (nodes.Binary op a b) at is may width =
      let x = there rule.terms n a t at may.0 in
      let y = there rule.terms n b t at may.1 in (
        operand_at rule.terms n a N t (get_or rule.terms a t) (λ c d line. term line) (left (Contains-from_get rule.terms n t at) is x) may.0 x width,
        operand_at rule.terms n b N t (get_or rule.terms b t) (λ c d line. term line) (right (Contains-from_get rule.terms n t at) is y) may.1 y width,
      )

  pub constant_terms_held : TermsAreHeld typing scope rule.terms
  constant_terms_held n t at =
      let w = class_width rule typing t.class typed (term_class_stands rule t (constant_term rule n t at)) in
      let told : slice_index typing t.class ≡ w.0 = get_or_from_slice_get typing t.class w.0 0 w.1 in
      (slice_get_within typing t.class w.0 w.1, rw told (constant_node n w.0 t t.node at refl (checked.terms n t at) w.1))

-- each comparison of the precondition reads two terms of the same width
module _ (rule : Rule) (typing : List ℕ) (checked : IsRule rule) (typed : IsTyping rule typing) where
  pub term_there : (a : ℕ) → a < length rule.terms → (x : Term) × (N : ℕ) × (slice_get rule.terms a ≡ Some x) × (slice_get typing x.class ≡ Some N) × (slice_get (term_widths typing rule.terms) a ≡ Some N) × (1 ≤ N) × (N ≤ 64)
  term_there a within =
      let d : Term = record { class = 0; node = nodes.Constant 0 } in
      let x = get_or rule.terms a d in
      let at : slice_get rule.terms a ≡ Some x = slice_get-get_or rule.terms a d within in
      let w = class_width rule typing x.class typed (term_class_stands rule x (constant_term rule a x at)) in
      let bounds = typed.widths w.0 (Contains-from_get typing x.class w.0 w.1) in
      (x, w.0, at, w.1, width_at typing rule.terms a w.0 x at w.1, bounds.0, bounds.1)

  formula_held : (n : ℕ) (f : Formula) → slice_get rule.precondition n ≡ Some f → (g : Formula) → f ≡ g → MayBeFormula rule n g → FormulaIsHeld (term_widths typing rule.terms) n g
  formula_held n f at (formulas.Compare pred a b) is may =
      let x = term_there a may.0 in
      let y = term_there b may.1 in
      let same = typed.same x.0.class y.0.class (compared_terms (Contains-from_get rule.precondition n (formulas.Compare pred a b) (at ∙ ap (λ g. Some g) is)) x.2 y.2) in
      let one : y.1 ≡ x.1 = same_Some y.1 x.1 (sym y.3 ∙ sym same ∙ x.3) in
      (x.1, x.5, x.4, y.4 ∙ ap (λ N. Some N) one)
  formula_held n f at (formulas.IsPowerOfTwo a) is may = let x = term_there a may in (x.1, x.5, x.6, x.4)
  formula_held n f at (formulas.IsSignBit a) is may = let x = term_there a may in (x.1, x.5, x.6, x.4)
  formula_held n f at (formulas.HasOneUse j) is may = tt
  formula_held n f at (formulas.MaskedValueIsZero r a) is may = tt
  formula_held n f at (formulas.IsKnownNonZero r) is may = tt
  formula_held n f at (formulas.Not a) is may = may
  formula_held n f at (formulas.And a b) is may = may
  formula_held n f at (formulas.Or a b) is may = may

  pub precondition_held : FormulasAreHeld (term_widths typing rule.terms) rule.precondition
  precondition_held n f at = formula_held n f at f refl (checked.precondition n f at)
