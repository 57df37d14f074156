-- The loops over the parts of a rule find only constraints of it, and miss none.
use Rattle.rule_typing.proofs.Common.{◌≡◌, ◌≢◌, inl, inr, ℕ, Option, None, Some, sym, ◌∙◌, IfSome, IfNone, same_Some, Contains-append_left, Contains-append_right, Contains-append_cases, Rule, Statement, Name, operands_of, choices_of, Names, Line, name, Contains-flat_map, Half, Splits, StatementsLine, TermsLine, FormulasLine, RootLine, IsRead}
use Rattle.rule_typing.specs.declared.half.Half.TheVariants as halves
use Rattle.rule_typing.proofs.Images.{from_flat_map}
use Rattle.rule_typing.proofs.NameLines.{statements_of, half_statement, operand_names, choice_names, term_names, assigned_names, root_names, IsNamed, read, assigned, root, named_cases}
use Rattle.rule_typing.proofs.LineParts.{OnLine, by_statement, by_operand, by_choice, by_term, by_witness, by_comparison, by_mask, by_name, line_of, line_cases}
use Rattle.rule_typing.proofs.Walks.{AreOne}

module _ (rule : Rule) where
  pub half_line : (half : Half) (c d : ℕ) → StatementsLine rule half (statements_of rule half) c d → Line rule c d
  half_line half c d (s, stands, inl pairs) = line_of rule c d (by_statement (s, half_statement rule half s stands, pairs))
  half_line half c d (s, stands, inr (inl (o, here, inl pairs))) =
      line_of rule c d (by_operand half (o, Contains-flat_map (λ (t : Statement). operands_of t.op) (statements_of rule half) s o stands here, pairs))
  half_line half c d (s, stands, inr (inl (o, here, inr (n, e, q)))) =
      name (operand_names rule half o n c (Contains-flat_map (λ (t : Statement). operands_of t.op) (statements_of rule half) s o stands here) e) q
  half_line half c d (s, stands, inr (inr (choice, here, inl pairs))) =
      line_of rule c d (by_choice half (choice, Contains-flat_map choices_of (statements_of rule half) s choice stands here, pairs))
  half_line half c d (s, stands, inr (inr (choice, here, inr (n, e, q)))) =
      name (choice_names rule half choice n c (Contains-flat_map choices_of (statements_of rule half) s choice stands here) e) q

  pub terms_line : (c d : ℕ) → TermsLine rule rule.terms c d → Line rule c d
  terms_line c d (t, among, inl pairs) = line_of rule c d (by_term (t, among, pairs))
  terms_line c d (t, among, inr (n, e, q)) = name (term_names rule t n c (Contains-append_left rule.terms rule.witness_terms t among) e) q

  pub witness_line : (c d : ℕ) → TermsLine rule rule.witness_terms c d → Line rule c d
  witness_line c d (t, among, inl pairs) = line_of rule c d (by_witness (t, among, pairs))
  witness_line c d (t, among, inr (n, e, q)) = name (term_names rule t n c (Contains-append_right rule.terms rule.witness_terms t among) e) q

  pub formulas_line : (c d : ℕ) → FormulasLine rule rule.terms rule.precondition c d → Line rule c d
  formulas_line c d (f, among, inl pairs) = line_of rule c d (by_comparison (f, among, pairs))
  formulas_line c d (f, among, inr (n, e, q)) = line_of rule c d (by_mask n (f, among, e) q)

  pub root_line : (c d : ℕ) → RootLine rule c d → Line rule c d
  root_line c d (n, h, h') = name (assigned_names rule n c h) (root_names rule n d h')

  -- what one of the loops finds is a constraint of the rule
  pub line_found : (P : ℕ → ℕ → Type 0) (pair : ℕ × ℕ) → ((c d : ℕ) → P c d → Line rule c d) → Splits P (Some pair) → Line rule pair.0 pair.1 × (pair.0 ≢ pair.1)
  line_found P pair to (on, apart) = (to pair.0 pair.1 on, apart)

  pub last_found : (P : ℕ → ℕ → Type 0) (answer : Option (ℕ × ℕ)) → ((c d : ℕ) → P c d → Line rule c d) → Splits P answer → IfSome answer (λ pair. Line rule pair.0 pair.1 × (pair.0 ≢ pair.1))
  last_found P None to h = tt
  last_found P (Some pair) to (on, apart) = (to pair.0 pair.1 on, apart)

  module _ (halves_one : (half : Half) → AreOne (StatementsLine rule half (statements_of rule half))) (terms_one : AreOne (TermsLine rule rule.terms)) (witness_one : AreOne (TermsLine rule rule.witness_terms))
      (formulas_one : AreOne (FormulasLine rule rule.terms rule.precondition)) (roots_one : AreOne (RootLine rule)) where
    -- where no loop finds anything, all positions with one name are of one class
    read_one : (n : Name) (c d : ℕ) → IsRead rule n c → Names rule n d → c ≡ d
    read_one n c d (inl (o, among, e)) q =
        let (s, stands, here) = from_flat_map (λ (t : Statement). operands_of t.op) rule.source o among in halves_one halves.Source c d (s, stands, inr (inl (o, here, inr (n, e, q))))
    read_one n c d (inr (inl (o, among, e))) q =
        let (s, stands, here) = from_flat_map (λ (t : Statement). operands_of t.op) rule.target o among in halves_one halves.Target c d (s, stands, inr (inl (o, here, inr (n, e, q))))
    read_one n c d (inr (inr (inl (choice, among, e)))) q =
        let (s, stands, here) = from_flat_map choices_of rule.target choice among in halves_one halves.Target c d (s, stands, inr (inr (choice, here, inr (n, e, q))))
    read_one n c d (inr (inr (inr (t, among, e)))) q = elim (Contains-append_cases rule.terms rule.witness_terms t among) [
      | inl first ↦ terms_one c d (t, first, inr (n, e, q))
      | inr second ↦ witness_one c d (t, second, inr (n, e, q))
    ]

    named_one : (n : Name) (c d : ℕ) → Names rule n c → Names rule n d → IsNamed rule n c → IsNamed rule n d → c ≡ d
    named_one n c d p q (read h) k = read_one n c d h q
    named_one n c d p q (assigned h) (read k) = sym (read_one n d c k p)
    named_one n c d p q (assigned h) (assigned k) = same_Some c d (sym h ∙ k)
    named_one n c d p q (assigned h) (root k) = roots_one c d (n, h, k)
    named_one n c d p q (root h) (read k) = sym (read_one n d c k p)
    named_one n c d p q (root h) (assigned k) = sym (roots_one d c (n, k, h))
    named_one n c d p q (root h) (root k) = same_Some c d (sym h ∙ k)

    parts_one : (c d : ℕ) → OnLine rule c d → c ≡ d
    parts_one c d (by_statement (s, stands, pairs)) = elim (Contains-append_cases rule.source rule.target s stands) [
      | inl first ↦ halves_one halves.Source c d (s, first, inl pairs)
      | inr second ↦ halves_one halves.Target c d (s, second, inl pairs)
    ]
    parts_one c d (by_operand half (o, among, pairs)) =
        let (s, stands, here) = from_flat_map (λ (t : Statement). operands_of t.op) (statements_of rule half) o among in halves_one half c d (s, stands, inr (inl (o, here, inl pairs)))
    parts_one c d (by_choice half (choice, among, pairs)) =
        let (s, stands, here) = from_flat_map choices_of (statements_of rule half) choice among in halves_one half c d (s, stands, inr (inr (choice, here, inl pairs)))
    parts_one c d (by_term (t, among, pairs)) = terms_one c d (t, among, inl pairs)
    parts_one c d (by_witness (t, among, pairs)) = witness_one c d (t, among, inl pairs)
    parts_one c d (by_comparison (f, among, pairs)) = formulas_one c d (f, among, inl pairs)
    parts_one c d (by_mask n (f, among, e) q) = formulas_one c d (f, among, inr (n, e, q))
    parts_one c d (by_name n p q) = named_one n c d p q (named_cases rule n c p) (named_cases rule n d q)

    pub all_one : AreOne (Line rule)
    all_one c d on = parts_one c d (line_cases rule c d on)

  pub none_left : (answer : Option (ℕ × ℕ)) → Splits (StatementsLine rule halves.Source rule.source) None → Splits (StatementsLine rule halves.Target rule.target) None → Splits (TermsLine rule rule.terms) None → Splits (TermsLine rule rule.witness_terms) None
      → Splits (FormulasLine rule rule.terms rule.precondition) None → Splits (RootLine rule) answer → IfNone answer (AreOne (Line rule))
  none_left (Some pair) source target terms witness formulas roots = tt
  none_left None source target terms witness formulas roots = all_one by_half terms witness formulas roots
    where
      by_half : (half : Half) → AreOne (StatementsLine rule half (statements_of rule half))
      by_half halves.Source = source
      by_half halves.Target = target
