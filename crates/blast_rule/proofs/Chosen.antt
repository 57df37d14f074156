-- The nodes of the expressions of `Wit:` may be built: each thing that they read has literals of the right width.
use Rattle.blast_rule.proofs.Common.{◌≡◌, ℕ, pos, zero, suc, ◌+◌, ◌<◌, List, [], ◌∷◌, length, map, take, Some, None, refl, sym, ap, ◌∙◌, arith, get_or, slice_get, slice_index, option_map, length-map, slice_get-map, slice_get-get_or, slice_get_within, get_or_from_slice_get, Number, Rule, Statement, Copy, Term, Node, IsTermOf, source_assigns, term_register, term_constant, term_choice, name, unary, left, right, IsTyping, IsRule, MayBeWitness, InputsFit, ConstantsFit, TargetChoicesFit, ValuesFit, Contains-from_get, term_class_stands, measured_class_stands, witness_term, class_width, Scope, held_at, shape, word_shape, HasWord, NodeIsHeld, TermsAreHeld, term_widths}
use Rattle.rule_core.specs.declared.rule.Argument.TheVariants as arguments
use Rattle.rule_core.specs.declared.rule.Register.TheVariants as registers
use Rattle.rule_core.specs.declared.rule.Name.TheVariants as names
use Rattle.rule_core.specs.declared.rule.Node.TheVariants as nodes
use Rattle.rule_core.specs.Positions.{witness_term as witness_line}
use Rattle.blast_value.specs.declared.held.Held.{Held}
use Rattle.blast_rule.proofs.Ready.{width_at, get_taken}

-- at a place within a list something stands
pub found : {X : Type 0} (xs : List X) (i : ℕ) → i < length xs → (x : X) × (slice_get xs i ≡ Some x)
found [] i within = absurd (omega arith)
found (x ∷ xs) zero within = (x, refl)
found (x ∷ xs) (suc i) within = found xs i (omega arith)

module _ {L : Type 0} (rule : Rule) (typing : List ℕ) (checked : IsRule rule) (typed : IsTyping rule typing) (scope : Scope L)
    (inputs : InputsFit rule typing (map shape scope.inputs.now)) (source : ValuesFit typing rule.source (map shape scope.source.now)) (count : length scope.source.now + 1 ≡ length rule.source)
    (constants : ConstantsFit rule typing (map word_shape scope.constants.now)) (left_open : TargetChoicesFit rule typing (map word_shape scope.choices.now)) where
  held_input : (t : Term) (N i : ℕ) → IsTermOf rule t → t.node ≡ nodes.Register (registers.Input i) → slice_get typing t.class ≡ Some N → i < length rule.inputs
      → (h : Held L) × (held_at scope (registers.Input i) ≡ Some h) × (length h.bits ≡ N)
  held_input t N i stands is width may =
      let within : i < length scope.inputs.now = omega (arith, inputs.count, length-map scope.inputs.now shape) in
      let h = found scope.inputs.now i within in
      (h.0, h.1, (inputs.widths i t.class N (shape h.0) (term_register stands is) width (slice_get-map shape scope.inputs.now i ∙ ap (option_map shape) h.1)).0)

  held_source : (t : Term) (N j : ℕ) → IsTermOf rule t → t.node ≡ nodes.Register (registers.Source j) → slice_get typing t.class ≡ Some N → suc j < length rule.source
      → (h : Held L) × (held_at scope (registers.Source j) ≡ Some h) × (length h.bits ≡ N)
  held_source t N j stands is width may =
      let within : j < length scope.source.now = omega (arith, count) in
      let none : Statement = record { name = []; class = 0; op = Copy (record { value = arguments.Literal (pos 0); written = None; class = 0 }) } in
      let s : Statement = get_or rule.source j none in
      let here : slice_get rule.source j ≡ Some s = slice_get-get_or rule.source j none (omega arith) in
      let same = typed.same s.class t.class (name {n = names.Register (registers.Source j)} (source_assigns here) (term_register stands is)) in
      let h = found scope.source.now j within in
      (h.0, h.1, (source j s (shape h.0) N here (slice_get-map shape scope.source.now j ∙ ap (option_map shape) h.1) (same ∙ width)).0)

  word_held : (words : List (List L)) (k N : ℕ) → k < length words → ((n : Number) → slice_get (map word_shape words) k ≡ Some n → n.width ≡ N) → HasWord words k N
  word_held words k N within fits =
      let w : List L = get_or words k [] in
      let at : slice_get words k ≡ Some w = slice_get-get_or words k [] within in
      (w, at, fits (word_shape w) (slice_get-map word_shape words k ∙ ap (option_map word_shape) at))

  -- an operand of a node has the node's width
  operand_held : (n a N : ℕ) (t : Term) → slice_get rule.witness_terms n ≡ Some t → a < n → slice_get typing t.class ≡ Some N → ((x : Term) → slice_get rule.witness_terms a ≡ Some x → slice_get typing t.class ≡ slice_get typing x.class)
      → slice_get (take n (term_widths typing rule.witness_terms)) a ≡ Some N
  operand_held n a N t at less width same =
      let inside : n < length rule.witness_terms = slice_get_within rule.witness_terms n t at in
      let x = found rule.witness_terms a (omega arith) in
      get_taken (term_widths typing rule.witness_terms) n a N less (width_at typing rule.witness_terms a N x.0 x.1 (sym (same x.0 x.1) ∙ width))

  node_held : (n N : ℕ) (t : Term) (node : Node) → slice_get rule.witness_terms n ≡ Some t → t.node ≡ node → MayBeWitness rule n node → slice_get typing t.class ≡ Some N
      → NodeIsHeld typing scope (take n (term_widths typing rule.witness_terms)) N node
  node_held n N t (nodes.Literal z) at is may width = tt
  node_held n N t (nodes.Constant k) at is may width =
      word_held scope.constants.now k N (omega (arith, constants.count, length-map scope.constants.now word_shape))
      (λ m here. (constants.widths k t.class N m (term_constant (witness_term rule n t at) is) width here).0)
  node_held n N t (nodes.Register (registers.Input i)) at is may width = held_input t N i (witness_term rule n t at) is width may
  node_held n N t (nodes.Register (registers.Source j)) at is may width = held_source t N j (witness_term rule n t at) is width may
  node_held n N t (nodes.Register (registers.Target j)) at is may width = absurd may
  node_held n N t (nodes.Choice k) at is may width =
      word_held scope.choices.now k N (omega (arith, left_open.count, length-map scope.choices.now word_shape))
      (λ m here. (left_open.widths k t.class N m (term_choice (witness_term rule n t at) is) width here).0)
  node_held n N t (nodes.Width r c) at is may width = typed.classes c (measured_class_stands rule t r c (witness_term rule n t at) is)
  node_held n N t (nodes.Unary function a) at is may width =
      operand_held n a N t at may width (λ x there. typed.same t.class x.class (witness_line (unary (Contains-from_get rule.witness_terms n t at) is there)))
  node_held n N t (nodes.Binary op a b) at is may width =
      let among = Contains-from_get rule.witness_terms n t at in (
        operand_held n a N t at may.0 width (λ x there. typed.same t.class x.class (witness_line (left among is there))),
        operand_held n b N t at may.1 width (λ x there. typed.same t.class x.class (witness_line (right among is there))),
      )

  pub witness_terms_held : TermsAreHeld typing scope rule.witness_terms
  witness_terms_held n t at =
      let w = class_width rule typing t.class typed (term_class_stands rule t (witness_term rule n t at)) in
      let told : slice_index typing t.class ≡ w.0 = get_or_from_slice_get typing t.class w.0 0 w.1 in
      (slice_get_within typing t.class w.0 w.1, rw told (node_held n w.0 t t.node at refl (checked.witness_terms n t at) w.1))
