-- Terms and nodes of formulas are resolved and appended one by one.
use Rattle.rule_reader.proofs.Common.{◌≡◌, ℕ, ◌+◌, ◌-◌, ◌<◌, ◌≤◌, List, [], ◌∷◌, ◌++◌, length, Some, sym, ap, subst, ◌∙◌, arith, take, drop, get_or, append_assoc, slice_get, flat_map, append-nil, take-append-drop, take_all, take_more, flat_map-append, RawRule, RawNode, RawFormula, Names, terms_of_formula, formula_of, target_terms, terms_of, expressions_of, nodes_in, last_nodes, TermsMean, IsTerm, IsWellFormed, Each, FormulaIsBound, HasReadyTerms, AddsTerms}
use Rattle.rule_core.specs.declared.rule.Term.{Term}
use Rattle.rule_reader.specs.declared.place.UseSite.TheVariants as places
use Rattle.rule_reader.proofs.Places.{read_at}
use Rattle.rule_reader.proofs.Members.{each_at, each_of}
use Rattle.rule_reader.proofs.Nodes.{nodes_append, terms_length, formula_terms_more, last_nodes_push}
use Rattle.rule_reader.proofs.Building.{formula_term}
use Rattle.rule_reader.proofs.Weighing.{few_terms, few_expressions}

module _ (raw : RawRule) (names : Names) where
  -- ---- the formula

  abbrev pub upto : List RawFormula → ℕ → List (List RawNode)
  upto fs k = target_terms raw ++ flat_map terms_of_formula (take k fs)

  pub upto_none : (fs : List RawFormula) (terms : List Term) → TermsMean raw names (target_terms raw) terms → TermsMean raw names (upto fs 0) terms
  upto_none fs terms means = subst (λ l. TermsMean raw names l terms) (sym (append-nil (target_terms raw))) means

  upto_next : (fs : List RawFormula) (k : ℕ) (w : RawFormula) → k < length fs → w ≡ get_or fs k w → upto fs (k + 1) ≡ upto fs k ++ terms_of_formula w
  upto_next fs k w within item = ap (λ l. target_terms raw ++ l) (formula_terms_more raw names fs k w within item) ∙ sym (append_assoc (target_terms raw) (flat_map terms_of_formula (take k fs)) (terms_of_formula w))

  pub upto_more : (fs : List RawFormula) (k : ℕ) (w : RawFormula) (terms new : List Term) → k < length fs → w ≡ get_or fs k w → TermsMean raw names (upto fs k) terms → AddsTerms raw names terms (terms_of_formula w) new → TermsMean raw names (upto fs (k + 1)) new
  upto_more fs k w terms new within item means adds = subst (λ l. TermsMean raw names l new) (sym (upto_next fs k w within item)) (adds (upto fs k) means)

  pub upto_all : (fs : List RawFormula) (k : ℕ) (terms : List Term) → fs ≡ formula_of raw → length fs ≤ k → TermsMean raw names (upto fs k) terms → TermsMean raw names (terms_of raw) terms
  upto_all fs k terms is past means =
      subst (λ l. TermsMean raw names (target_terms raw ++ flat_map terms_of_formula l) terms) is (subst (λ l. TermsMean raw names (target_terms raw ++ flat_map terms_of_formula l) terms) (take_all k fs past) means)

  pub upto_length : (fs : List RawFormula) (k : ℕ) (terms : List Term) → TermsMean raw names (upto fs k) terms → length terms ≡ nodes_in (target_terms raw) + nodes_in (flat_map terms_of_formula (take k fs))
  upto_length fs k terms means = terms_length raw names (upto fs k) terms means ∙ nodes_append (target_terms raw) (flat_map terms_of_formula (take k fs))

  pub few_of_formula : (fs : List RawFormula) (k : ℕ) (w : RawFormula) (terms : List Term) → IsWellFormed raw → fs ≡ formula_of raw → k < length fs → w ≡ get_or fs k w → TermsMean raw names (upto fs k) terms → length terms + nodes_in (terms_of_formula w) ≤ 256
  few_of_formula fs k w terms well is within item means =
      let long = terms_length raw names (upto fs k) terms means in
      let more = ap nodes_in (upto_next fs k w within item) ∙ nodes_append (upto fs k) (terms_of_formula w) in
      let next = nodes_append (target_terms raw) (flat_map terms_of_formula (take (k + 1) fs)) in
      let parts : flat_map terms_of_formula fs ≡ flat_map terms_of_formula (take (k + 1) fs) ++ flat_map terms_of_formula (drop (k + 1) fs) =
      ap (flat_map terms_of_formula) (sym (take-append-drop (k + 1) fs)) ∙ flat_map-append terms_of_formula (take (k + 1) fs) (drop (k + 1) fs) in
      let whole = ap nodes_in parts ∙ nodes_append (flat_map terms_of_formula (take (k + 1) fs)) (flat_map terms_of_formula (drop (k + 1) fs)) in
      let same : nodes_in (flat_map terms_of_formula fs) ≡ nodes_in (flat_map terms_of_formula (formula_of raw)) = ap (λ l. nodes_in (flat_map terms_of_formula l)) is in
      let all = nodes_append (target_terms raw) (flat_map terms_of_formula (formula_of raw)) in
      let few : nodes_in (terms_of raw) ≤ 256 = few_terms raw well in
      omega (arith, long, more, next, whole, same, all, few)

  pub ready_formula : (fs : List RawFormula) (k : ℕ) (w : RawFormula) → IsWellFormed raw → fs ≡ formula_of raw → Each (FormulaIsBound raw) fs → k < length fs → w ≡ get_or fs k w → HasReadyTerms raw w
  ready_formula fs k w well is bound within item =
      let at = read_at fs k w within item in
      let at' : slice_get (formula_of raw) k ≡ Some w = subst (λ l. slice_get l k ≡ Some w) is at in
      (each_at (FormulaIsBound raw) fs k w bound at, each_of IsTerm (terms_of_formula w) (λ t among. well.terms t (formula_term raw k w t at' among)))

  -- ---- the expressions of `Wit:`

  pub expressions_more : (ts : List (List RawNode)) (k : ℕ) (t : List RawNode) (terms new : List Term) → k < length ts → t ≡ get_or ts k t → TermsMean raw names (take k ts) terms → AddsTerms raw names terms (t ∷ []) new → TermsMean raw names (take (k + 1) ts) new
  expressions_more ts k t terms new within item means adds = subst (λ l. TermsMean raw names l new) (sym (take_more ts k t within ∙ ap (λ z. take k ts ++ z ∷ []) (sym item))) (adds (take k ts) means)

  pub few_of_expression : (ts : List (List RawNode)) (k : ℕ) (t : List RawNode) (terms : List Term) → IsWellFormed raw → ts ≡ expressions_of raw → k < length ts → t ≡ get_or ts k t → TermsMean raw names (take k ts) terms → length terms + length t ≤ 256
  few_of_expression ts k t terms well is within item means =
      let long = terms_length raw names (take k ts) terms means in
      let more = ap nodes_in (take_more ts k t within ∙ ap (λ z. take k ts ++ z ∷ []) (sym item)) ∙ nodes_append (take k ts) (t ∷ []) in
      let whole = ap nodes_in (sym (take-append-drop (k + 1) ts)) ∙ nodes_append (take (k + 1) ts) (drop (k + 1) ts) in
      let same : nodes_in ts ≡ nodes_in (expressions_of raw) = ap nodes_in is in
      let few : nodes_in (expressions_of raw) ≤ 256 = few_expressions raw well in
      omega (arith, long, more, whole, same, few)

  pub places_more : (ts : List (List RawNode)) (k : ℕ) (t : List RawNode) (terms : List Term) (places new : List ℕ) (n : ℕ) → k < length ts → t ≡ get_or ts k t → TermsMean raw names (take (k + 1) ts) terms → places ≡ last_nodes 0 (take k ts) → n ≡ length terms - 1 → new ≡ places ++ n ∷ [] → new ≡ last_nodes 0 (take (k + 1) ts)
  places_more ts k t terms places new n within item means before is more =
      let next = take_more ts k t within ∙ ap (λ z. take k ts ++ z ∷ []) (sym item) in
      let long = terms_length raw names (take (k + 1) ts) terms means in
      let sum = ap nodes_in next ∙ nodes_append (take k ts) (t ∷ []) in
      let last : n ≡ 0 + nodes_in (take k ts) + length t - 1 = omega (arith, is, long, sum) in
      more ∙ ap (λ l. l ++ n ∷ []) before ∙ ap (λ m. last_nodes 0 (take k ts) ++ m ∷ []) last ∙ sym (last_nodes_push 0 (take k ts) t) ∙ ap (last_nodes 0) (sym next)
