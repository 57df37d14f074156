-- After numbering the positions, merging along constraints and renumbering in order the rule is classified.
use Rattle.rule_typing.proofs.Common.{◌≡◌, ℕ, ◌*◌, ◌^◌, ◌<◌, ◌≤◌, List, [], ◌∷◌, ◌++◌, length, map, Some, refl, sym, ap, subst, ◌∙◌, arith, length-append, slice_get, flat_map, sum_by, sum_by-cons, Rule, Statement, Op, Binary, Compare, Unary, Select, Convert, Freeze, Copy, Term, Node, Line, operands_of, terms_in, classes_of, classes_of_statement, classes_of_node, classes_of_term, IsRule, node_weight, term_weight, mapped, numbered, IsRenumbered, Joined, line, turned, along, IsInOrder, IsClassified, IsMerged}
use Rattle.rule_core.specs.declared.rule.Node.TheVariants as nodes
use Rattle.rule_typing.specs.Classes.{itself}
use Rattle.rule_typing.proofs.Images.{get_from_map}
use Rattle.rule_typing.proofs.Relabelled.{class_is_position, classes_of-mapped, numbered-mapped, numbered_alike, alike_numbered}
use Rattle.rule_typing.proofs.MappedLines.{line_map}

-- a rule has fewer than 2^32 positions
count_classes : (xs : List Statement) → length (flat_map classes_of_statement xs) ≤ 4 * length xs
count_classes [] = omega arith
count_classes (s ∷ xs) = omega (arith, count_classes xs, length-append (classes_of_statement s) (flat_map classes_of_statement xs), four_classes s.class s.op)
  where
    four_classes : (c : ℕ) (op : Op) → length (c ∷ map (λ o. o.class) (operands_of op)) ≤ 4
    four_classes c (Binary op flags a b) = omega arith
    four_classes c (Compare pred samesign a b) = omega arith
    four_classes c (Unary op truth a) = omega arith
    four_classes c (Select z a b) = omega arith
    four_classes c (Convert cast flags a to) = omega arith
    four_classes c (Freeze a j) = omega arith
    four_classes c (Copy a) = omega arith

node_weighs : (c : ℕ) (node : Node) → length (classes_of_node c node) ≡ node_weight node
node_weighs c (nodes.Literal z) = refl
node_weighs c (nodes.Constant k) = refl
node_weighs c (nodes.Register r) = refl
node_weighs c (nodes.Choice k) = refl
node_weighs e (nodes.Width r c) = refl
node_weighs c (nodes.Unary function a) = refl
node_weighs c (nodes.Binary op a b) = refl

count_terms : (xs : List Term) → length (flat_map classes_of_term xs) ≡ sum_by term_weight xs
count_terms [] = refl
count_terms (t ∷ xs) = omega (arith, count_terms xs, length-append (classes_of_term t) (flat_map classes_of_term xs), sum_by-cons term_weight t xs, node_weighs t.class t.node)

pub few_positions : (rule : Rule) → IsRule rule → length (classes_of rule) < 2 ^ 32
few_positions rule checked =
    omega (
      arith,
      length-append (flat_map classes_of_statement (rule.source ++ rule.target)) (flat_map classes_of_term (terms_in rule)),
      count_classes (rule.source ++ rule.target),
      count_terms (terms_in rule),
      length-append rule.source rule.target,
      checked.few_in_source,
      checked.few_in_target,
      checked.few_nodes,
    )

-- joined classes have one number once every constraint's two classes have
one_number : (rule : Rule) (f : ℕ → ℕ) → ((c d : ℕ) → Line (mapped f rule) c d → c ≡ d) → (p q : ℕ) → Joined rule p q → f p ≡ f q
one_number rule f closed p q (line {c} {d} on) = closed (f c) (f d) (line_map f rule c d on)
one_number rule f closed p q (itself {c}) = refl
one_number rule f closed p q (turned {c} {d} h) = sym (one_number rule f closed c d h)
one_number rule f closed p q (along {c} {d} {e} h i) = one_number rule f closed c d h ∙ one_number rule f closed d e i

module _ (old base joined new : Rule) (is_base : base ≡ numbered old) (merged : IsMerged base joined) (renumbered : IsRenumbered joined new) where
  pub rest : numbered new ≡ numbered old
  rest =
      ap numbered renumbered.is ∙ numbered-mapped renumbered.to joined ∙ ap numbered merged.is ∙ numbered-mapped merged.to base ∙ ap numbered is_base ∙ numbered_alike (numbered old) old (alike_numbered old)

  -- the number that a position has in the end
  number_of : (p c : ℕ) → slice_get (classes_of new) p ≡ Some c → c ≡ renumbered.to (merged.to p)
  number_of p c at =
      let (b, at_b, is_c) = get_from_map renumbered.to (classes_of joined) p c (sym (ap (λ l. slice_get l p) (ap classes_of renumbered.is ∙ classes_of-mapped renumbered.to joined)) ∙ at) in
      let (a, at_a, is_b) = get_from_map merged.to (classes_of base) p b (sym (ap (λ l. slice_get l p) (ap classes_of merged.is ∙ classes_of-mapped merged.to base)) ∙ at_b) in
      let same : a ≡ p = class_is_position old p a (ap (λ (r : Rule). slice_get (classes_of r) p) (sym is_base) ∙ at_a) in
      sym is_c ∙ ap renumbered.to (sym is_b ∙ ap merged.to same)

  pub classified : ((c d : ℕ) → Line joined c d → c ≡ d) → IsInOrder (classes_of new) → IsClassified new
  classified closed order =
      let same : base ≡ numbered new = is_base ∙ sym rest in
      record {
        classes = λ p q c d at_p at_q. (
          λ e. subst (λ r. Joined r p q) same (merged.joined p q (renumbered.apart (merged.to p) (merged.to q) (sym (number_of p c at_p) ∙ e ∙ number_of q d at_q))),
          λ h. number_of p c at_p
              ∙ ap renumbered.to (one_number base merged.to (subst (λ r. (a b : ℕ) → Line r a b → a ≡ b) merged.is closed) p q (subst (λ r. Joined r p q) (sym same) h))
              ∙ sym (number_of q d at_q),
        );
        numbers = order;
      }
