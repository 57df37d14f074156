-- What a precondition says bits of is there once the source's temporaries have run.
use Rattle.blast_rule.proofs.Common.{◌≡◌, ℕ, ◌+◌, ◌<◌, pos, List, [], length, map, Some, None, refl, sym, ap, ◌∙◌, arith, get_or, slice_get, option_map, length-map, slice_get-map, slice_get-get_or, same_Some, Rule, Statement, Copy, Formula, Register, IsRule, MayBeFormula, IsBeforeRoot, Names, source_assigns, masked, ValuesFit, IsTyping, InputsFit, Contains-from_get, class_stands, source_statement, class_width, Input, are_named, naming, Scope, held_at, FactIsHeld, FactsAreHeld, widths_of_terms, shape}
use Rattle.rule_core.specs.declared.rule.Argument.TheVariants as arguments
use Rattle.rule_core.specs.declared.rule.Formula.TheVariants as formulas
use Rattle.rule_core.specs.declared.rule.Name.TheVariants as names
use Rattle.rule_core.specs.declared.rule.Register.TheVariants as registers
use Rattle.blast_value.specs.declared.held.Held.{Held}
use Rattle.blast_rule.proofs.Chosen.{found}
use Rattle.blast_rule.proofs.Ready.{term_there}

module _ {L : Type 0} (rule : Rule) (typing : List ℕ) (checked : IsRule rule) (typed : IsTyping rule typing) (scope : Scope L)
    (inputs : InputsFit rule typing (map shape scope.inputs.now)) (source : ValuesFit typing rule.source (map shape scope.source.now)) (count : length scope.source.now + 1 ≡ length rule.source)
    (words : map length scope.terms.now ≡ widths_of_terms rule typing) where
  -- what the register holds, and a class that names it
  abbrev IsHeldAs : Register → Type 0
  IsHeldAs r = (h : Held L) × (c : ℕ) × (held_at scope r ≡ Some h) × Names rule (names.Register r) c × (slice_get typing c ≡ Some (length h.bits))

  held_before_root : (r : Register) → IsBeforeRoot rule r → IsHeldAs r
  held_before_root (registers.Input i) may =
      let within : i < length scope.inputs.now = omega (arith, inputs.count, length-map scope.inputs.now shape) in
      let named = are_named rule typing Input checked typed i may in
      let o = named.operand.0 in
      let here : Names rule (names.Register (registers.Input i)) o.class = naming rule Input i o named.operand.1 named.operand.2 in
      let width : slice_get typing o.class ≡ Some (get_or typing o.class 0) = slice_get-get_or typing o.class 0 (named.classes o named.operand.1) in
      let h = found scope.inputs.now i within in
      let same : length h.0.bits ≡ get_or typing o.class 0 = (inputs.widths i o.class (get_or typing o.class 0) (shape h.0) here width (slice_get-map shape scope.inputs.now i ∙ ap (option_map shape) h.1)).0 in
      (h.0, o.class, h.1, here, width ∙ ap (λ N. Some N) (sym same))
  held_before_root (registers.Source j) may =
      let within : j < length scope.source.now = omega (arith, count) in
      let none : Statement = record { name = []; class = 0; op = Copy (record { value = arguments.Literal (pos 0); written = None; class = 0 }) } in
      let s : Statement = get_or rule.source j none in
      let here : slice_get rule.source j ≡ Some s = slice_get-get_or rule.source j none (omega arith) in
      let width = class_width rule typing s.class typed (class_stands rule s (source_statement rule j s here)) in
      let h = found scope.source.now j within in
      let same : length h.0.bits ≡ width.0 = (source j s (shape h.0) width.0 here (slice_get-map shape scope.source.now j ∙ ap (option_map shape) h.1) width.1).0 in
      (h.0, s.class, h.1, source_assigns here, width.1 ∙ ap (λ N. Some N) (sym same))
  held_before_root (registers.Target j) may = absurd may

  fact_held : (n : ℕ) (f g : Formula) → slice_get rule.precondition n ≡ Some f → f ≡ g → MayBeFormula rule n g → FactIsHeld scope g
  fact_held n f (formulas.MaskedValueIsZero r a) at is may =
      let held = held_before_root r may.0 in
      let t = term_there rule typing checked typed a may.1 in
      let among = Contains-from_get rule.precondition n (formulas.MaskedValueIsZero r a) (at ∙ ap (λ g. Some g) is) in
      let same : length held.0.bits ≡ t.1 = same_Some (length held.0.bits) t.1 (sym held.4 ∙ sym (typed.same t.0.class held.1 (masked among t.2 held.3)) ∙ t.3) in
      let count_words : length scope.terms.now ≡ length rule.terms = sym (length-map scope.terms.now length) ∙ ap length words ∙ length-map rule.terms _ in
      let w = found scope.terms.now a (omega (arith, may.1, count_words)) in
      let size : Some (length w.0) ≡ Some t.1 = sym (slice_get-map length scope.terms.now a ∙ ap (option_map length) w.1) ∙ ap (λ ws. slice_get ws a) words ∙ t.4 in
      (held.0, held.2, (w.0, w.1, same_Some (length w.0) t.1 size ∙ sym same))
  fact_held n f (formulas.IsKnownNonZero r) at is may =
      let held = held_before_root r may in
      (held.0, held.2, (typed.widths (length held.0.bits) (Contains-from_get typing held.1 (length held.0.bits) held.4)).1)
  fact_held n f g at is may = tt

  pub facts_held : FactsAreHeld scope rule.precondition
  facts_held n d below =
      let f : Formula = get_or rule.precondition n d in
      let at : slice_get rule.precondition n ≡ Some f = slice_get-get_or rule.precondition n d below in
      fact_held n f f at refl (checked.precondition n f at)
