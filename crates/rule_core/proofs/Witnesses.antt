-- The numbers that `Wit:` gives fit the source's choices.
use Rattle.rule_core.proofs.Common.{◌≡◌, ℕ, pos, zero, suc, ◌<◌, ◌^◌, List, [], ◌∷◌, length, None, Some, refl, sym, ap, ◌∙◌, arith, get_or, slice_get, slice_index, Contains, map, unwrap_or, option_map_or, length-map, pow_pos, slice_get-get_or, slice_get_within, get_or_from_slice_get, same_Some, Number, IsValueOf, Value, Poison, Bits, Rule, Statement, Copy, Register, Term, Node, IsTermOf, source_assigns, term_register, term_constant, term_choice, name, left, right, witness, IsTyping, IsRule, MayBeWitness, IsBeforeRoot, number_or_zero, number_at, value_at, term_value, Held, value_of, SourceChoicesFit, Setting, SettingFits, meanings_at, witness_values, witness_number, HeldFits, TermsFit}
use Rattle.rule_core.specs.declared.rule.Argument.TheVariants as arguments
use Rattle.rule_core.specs.declared.rule.Register.TheVariants as registers
use Rattle.rule_core.specs.declared.rule.Name.TheVariants as names
use Rattle.rule_core.specs.declared.rule.Node.TheVariants as nodes
use Rattle.rule_core.specs.Positions.{unary, witness_term as witness_line}
use Rattle.rule_core.proofs.Members.{Contains-from_get, witness_term}
use Rattle.rule_core.proofs.Turns.{in_turn-length}
use Rattle.rule_core.proofs.Fits.{NodeFits, number_or_zero_fits, all_fit}

-- an element of `map f` is f of the one at its place
get-map : {X Y : Type 0} (f : X → Y) (xs : List X) (k : ℕ) (y : Y) → slice_get (map f xs) k ≡ Some y → (x : X) × (slice_get xs k ≡ Some x) × (y ≡ f x)
get-map f [] zero y at = cc
get-map f [] (suc k) y at = cc
get-map f (a ∷ xs) zero y at = (a, refl, sym (same_Some (f a) y at))
get-map f (a ∷ xs) (suc k) y at = get-map f xs k y at

module _ (rule : Rule) (typing : List ℕ) (setting : Setting) (held : Held) (checked : IsRule rule) (typed : IsTyping rule typing) (fits : SettingFits rule typing setting) (held_fits : HeldFits rule typing held) where
  register_fits : (t : Term) (N : ℕ) (r : Register) (v : Value) → IsTermOf rule t → t.node ≡ nodes.Register r → slice_get typing t.class ≡ Some N → IsBeforeRoot rule r → value_of held r ≡ Some v → IsValueOf N v
  register_fits t N (registers.Input i) v stands is width may at = held_fits.inputs.widths i t.class N v (term_register stands is) width at
  register_fits t N (registers.Source j) v stands is width may at =
      let none : Statement = record { name = []; class = 0; op = Copy (record { value = arguments.Literal (pos 0); written = None; class = 0 }) } in
      let s : Statement = get_or rule.source j none in
      let there : slice_get rule.source j ≡ Some s = slice_get-get_or rule.source j none (omega arith) in
      let same = typed.same s.class t.class (name {n = names.Register (registers.Source j)} (source_assigns there) (term_register stands is)) in
      held_fits.source j s v N there at (same ∙ width)
  register_fits t N (registers.Target j) v stands is width may at = absurd may

  number_fits : (N : ℕ) (numbers : List Number) (k : ℕ) → ((n : Number) → slice_get numbers k ≡ Some n → IsValueOf N (Bits n)) → IsValueOf N (number_at numbers k)
  number_fits N numbers k fit =
      elim (slice_get numbers k) as (λ o. slice_get numbers k ≡ o → IsValueOf N (option_map_or Bits o Poison)) [
        | None ↦ λ at. tt
        | Some n ↦ λ at. fit n at
      ] refl

  operand_fits : (before : List Value) (n a : ℕ) (t : Term) (N : ℕ) → TermsFit typing rule.witness_terms before → length before ≡ n → n < length rule.witness_terms → a < n → slice_get typing t.class ≡ Some N
      → ((x : Term) → slice_get rule.witness_terms a ≡ Some x → slice_get typing t.class ≡ slice_get typing x.class) → IsValueOf N (value_at before a)
  operand_fits before n a t N fit count within less width same =
      let x : Term = get_or rule.witness_terms a t in
      let there : slice_get rule.witness_terms a ≡ Some x = slice_get-get_or rule.witness_terms a t (omega arith) in
      fit a x (value_at before a) N there (slice_get-get_or before a Poison (omega arith)) (sym (same x there) ∙ width)

  node_fits : (n : ℕ) (t : Term) (before : List Value) (N : ℕ) (node : Node) → slice_get rule.witness_terms n ≡ Some t → length before ≡ n → TermsFit typing rule.witness_terms before → slice_get typing t.class ≡ Some N
      → t.node ≡ node → MayBeWitness rule n node → NodeFits (meanings_at setting held) before N node
  node_fits n t before N (nodes.Literal z) at count fit width is may = tt
  node_fits n t before N (nodes.Constant k) at count fit width is may =
      number_fits N setting.constants k (λ m here. fits.constants.widths k t.class N m (term_constant (witness_term rule n t at) is) width here)
  node_fits n t before N (nodes.Register r) at count fit width is may =
      elim (value_of held r) as (λ o. value_of held r ≡ o → number_or_zero (unwrap_or o Poison) < 2 ^ N) [
        | None ↦ λ none. pow_pos N
        | Some v ↦ λ here. number_or_zero_fits N v (register_fits t N r v (witness_term rule n t at) is width may here)
      ] refl
  node_fits n t before N (nodes.Choice k) at count fit width is may =
      number_fits N setting.target_choices k (λ m here. fits.target_choices.widths k t.class N m (term_choice (witness_term rule n t at) is) width here)
  node_fits n t before N (nodes.Width r c) at count fit width is may = tt
  node_fits n t before N (nodes.Unary function a) at count fit width is may =
      operand_fits before n a t N fit count (slice_get_within rule.witness_terms n t at) may width
      (λ x there. typed.same t.class x.class (witness_line (unary (Contains-from_get rule.witness_terms n t at) is there)))
  node_fits n t before N (nodes.Binary op a b) at count fit width is may =
      let within = slice_get_within rule.witness_terms n t at in
      let among : Contains rule.witness_terms t = Contains-from_get rule.witness_terms n t at in (
        operand_fits before n a t N fit count within may.0 width (λ x there. typed.same t.class x.class (witness_line (left among is there))),
        operand_fits before n b t N fit count within may.1 width (λ x there. typed.same t.class x.class (witness_line (right among is there))),
      )

  values_fit : TermsFit typing rule.witness_terms (witness_values rule typing setting held)
  values_fit = all_fit typing (meanings_at setting held) rule.witness_terms (λ n t before N at count fit width. node_fits n t before N t.node at count fit width refl (checked.witness_terms n t at))

  chosen_fits : (m : ℕ) (t : Term) (N : ℕ) → slice_get rule.witness_terms m ≡ Some t → slice_get typing t.class ≡ Some N → IsValueOf N (Bits (witness_number rule typing setting held m))
  chosen_fits m t N there width =
      let long : m < length (witness_values rule typing setting held) =
      omega (arith, slice_get_within rule.witness_terms m t there, in_turn-length (term_value typing (meanings_at setting held)) [] rule.witness_terms) in
      let v : Value = value_at (witness_values rule typing setting held) m in
      let at : slice_get (witness_values rule typing setting held) m ≡ Some v = slice_get-get_or (witness_values rule typing setting held) m Poison long in (
        ap (λ o. option_map_or (λ (t : Term). slice_index typing t.class) o 0) there ∙ get_or_from_slice_get typing t.class N 0 width,
        number_or_zero_fits N v (values_fit m t v N there at width),
      )

  pub choices_fit : SourceChoicesFit rule typing (map (witness_number rule typing setting held) rule.witnesses)
  choices_fit =
      record {
        count = length-map rule.witnesses (witness_number rule typing setting held) ∙ checked.witnesses;
        widths = λ k c N n left_open width at.
            let chosen = get-map (witness_number rule typing setting held) rule.witnesses k n at in
            let literal : Term = record { class = 0; node = nodes.Literal (pos 0) } in
            let within : chosen.0 < length rule.witness_terms = checked.witnesses_there k chosen.0 chosen.1 in
            let t : Term = get_or rule.witness_terms chosen.0 literal in
            let there : slice_get rule.witness_terms chosen.0 ≡ Some t = slice_get-get_or rule.witness_terms chosen.0 literal within in
            let same : slice_get typing c ≡ slice_get typing t.class = typed.same c t.class (witness left_open chosen.1 there) in
            rw chosen.2 (chosen_fits chosen.0 t N there (sym same ∙ width));
      }
