-- The nodes of terms, the terms one behind the other.
use Rattle.rule_reader.proofs.Common.{◌≡◌, inl, inr, ℕ, zero, suc, ◌+◌, ◌-◌, ◌<◌, List, [], ◌∷◌, ◌++◌, length, length-append, Some, refl, sym, ap, subst, ◌∙◌, arith, take, get_or, append_assoc, slice_get, Contains, flat_map, map, AllZip, take_more, append-nil, length-map, sum_by-append, flat_map-append, same_Some, RawRule, RawNode, RawFormula, Formula, Contains-from_get, Names, terms_of_formula, nodes_in, with_nodes, with_terms, last_nodes, NodeMeans, TermsMean, FormulaMeans, AddsTerms}
use Rattle.rule_core.specs.declared.rule.Term.{Term}
use Rattle.rule_reader.proofs.Places.{at_append, at_map, zip_push, zip_length, zip_append}

pub nodes_append : (xs ys : List (List RawNode)) → nodes_in (xs ++ ys) ≡ nodes_in xs + nodes_in ys
nodes_append xs ys = sum_by-append length xs ys

nodes_one : (t : List RawNode) → nodes_in (t ∷ []) ≡ length t
nodes_one t = omega arith

nodes_cons : (t : List RawNode) (ts : List (List RawNode)) → nodes_in (t ∷ ts) ≡ length t + nodes_in ts
nodes_cons t ts = nodes_append (t ∷ []) ts ∙ ap (λ n. n + nodes_in ts) (nodes_one t)

pub count_nodes : (n : ℕ) (ts : List (List RawNode)) → length (with_nodes n ts) ≡ nodes_in ts
count_nodes n [] = refl
count_nodes n (t ∷ ts) =
    let rest = count_nodes (n + length t) ts in
    length-append (map (λ node. (n, node)) t) (with_nodes (n + length t) ts) ∙ ap (λ m. m + length (with_nodes (n + length t) ts)) (length-map t (λ (node : RawNode). (n, node))) ∙ ap (λ m. length t + m) rest ∙ sym (nodes_cons t ts)

pub nodes_behind : (n : ℕ) (xs ys : List (List RawNode)) → with_nodes n (xs ++ ys) ≡ with_nodes n xs ++ with_nodes (n + nodes_in xs) ys
nodes_behind n [] ys = ap (λ m. with_nodes m ys) (omega arith)
nodes_behind n (t ∷ xs) ys =
    let rest = nodes_behind (n + length t) xs ys in
    let same : n + length t + nodes_in xs ≡ n + nodes_in (t ∷ xs) = omega (arith, nodes_cons t xs) in
    ap (λ l. map (λ node. (n, node)) t ++ l) (rest ∙ ap (λ m. with_nodes (n + length t) xs ++ with_nodes m ys) same) ∙ sym (append_assoc (map (λ node. (n, node)) t) (with_nodes (n + length t) xs) (with_nodes (n + nodes_in (t ∷ xs)) ys))

-- the nodes of a term, each with the number of nodes before the term
abbrev named : ℕ → List RawNode → List (ℕ × RawNode)
named n t = map (λ node. (n, node)) t

-- which node of which term is at place q of the list
pub node_at : (n : ℕ) (ts : List (List RawNode)) (q : ℕ) (x : ℕ × RawNode) → slice_get (with_nodes n ts) q ≡ Some x → (t : List RawNode) × Contains ts t × ((k : ℕ) × (slice_get t k ≡ Some x.1) × (x.0 + k ≡ n + q))
node_at n [] q x at = elim q as (λ j. slice_get [] j ≡ Some x → (t : List RawNode) × Contains [] t × ((k : ℕ) × (slice_get t k ≡ Some x.1) × (x.0 + k ≡ n + j))) [ zero ↦ λ h. cc | suc j ↦ λ h. cc ] at
node_at n (t ∷ ts) q x at = elim (at_append (map (λ node. (n, node)) t) (with_nodes (n + length t) ts) q x at) [
  | inl here ↦
      let (node, at', is) = at_map (λ (node : RawNode). (n, node)) t q x here in
      (t, Contains-from_get (t ∷ ts) 0 t refl, (q, at' ∙ ap (λ (y : ℕ × RawNode). Some y.1) is, ap (λ (y : ℕ × RawNode). y.0 + q) (sym is)))
  | inr (j, is, there) ↦
      let (u, (m, within, same), (k, at', sum)) = node_at (n + length t) ts j x there in
      let long : length (named n t) ≡ length t = length-map t (λ (node : RawNode). (n, node)) in
      let place : q ≡ length (named n t) + j = is in
      let whole : x.0 + k ≡ n + length t + j = sum in
      let sum' : x.0 + k ≡ n + q = omega (arith, whole, long, place) in
      (u, (suc m, omega arith, same), (k, at', sum'))
]

-- ---- appending the nodes of a term

module _ (raw : RawRule) (names : Names) where
  abbrev Means : ℕ × RawNode → Term → Type 0
  Means w t = NodeMeans raw names w.0 w.1 t.node

  pub terms_length : (ts : List (List RawNode)) (terms : List Term) → TermsMean raw names ts terms → length terms ≡ nodes_in ts
  terms_length ts terms means = zip_length Means (with_nodes 0 ts) terms means ∙ count_nodes 0 ts

  -- the first nodes of a term are appended to others
  abbrev pub Added : List Term → List RawNode → List Term → Type 0
  Added old nodes new = (added : List Term) × (new ≡ old ++ added) × AllZip (λ w t. NodeMeans raw names (length old) w t.node) nodes added

  pub added_none : (old : List Term) → Added old [] old
  added_none old = ([], sym (append-nil old), tt)

  pub added_more : (old : List Term) (nodes : List RawNode) (k : ℕ) (w : RawNode) (terms new : List Term) (t : Term) → k < length nodes → w ≡ get_or nodes k w → Added old (take k nodes) terms → new ≡ terms ++ t ∷ [] → NodeMeans raw names (length old) w t.node → Added old (take (k + 1) nodes) new
  added_more old nodes k w terms new t within is (added, parts, all) more means = (
    added ++ t ∷ [],
    more ∙ ap (λ l. l ++ t ∷ []) parts ∙ append_assoc old added (t ∷ []),
    subst (λ l. AllZip (λ w t. NodeMeans raw names (length old) w t.node) l (added ++ t ∷ [])) (sym (take_more nodes k w within ∙ ap (λ z. take k nodes ++ z ∷ []) (sym is)))
        (zip_push (λ w t. NodeMeans raw names (length old) w t.node) (take k nodes) added w t all means),
  )

  zip_named : (n : ℕ) (nodes : List RawNode) (terms : List Term) → AllZip (λ w t. NodeMeans raw names n w t.node) nodes terms → AllZip Means (map (λ node. (n, node)) nodes) terms
  zip_named n [] [] all = tt
  zip_named n [] (t ∷ terms) all = absurd all
  zip_named n (w ∷ nodes) [] all = absurd all
  zip_named n (w ∷ nodes) (t ∷ terms) all = (all.0, zip_named n nodes terms all.1)

  pub added_all : (old new : List Term) (nodes : List RawNode) → Added old nodes new → AddsTerms raw names old (nodes ∷ []) new
  added_all old new nodes (added, is, all) ts means =
      let long = terms_length ts old means in
      let behind : with_nodes 0 (ts ++ nodes ∷ []) ≡ with_nodes 0 ts ++ map (λ node. (nodes_in ts, node)) nodes =
      nodes_behind 0 ts (nodes ∷ []) ∙ ap (λ m. with_nodes 0 ts ++ with_nodes m (nodes ∷ [])) (omega arith) ∙ ap (λ l. with_nodes 0 ts ++ l) (append-nil (map (λ node. (nodes_in ts, node)) nodes)) in
      subst (λ l. AllZip Means (with_nodes 0 (ts ++ nodes ∷ [])) l) (sym is)
      (subst (λ l. AllZip Means l (old ++ added)) (sym behind)
      (zip_append Means (with_nodes 0 ts) old (map (λ node. (nodes_in ts, node)) nodes) added means
      (subst (λ n. AllZip Means (map (λ node. (n, node)) nodes) added) long (zip_named (length old) nodes added all))))

  pub added_length : (old new : List Term) (nodes : List RawNode) → Added old nodes new → length new ≡ length old + length nodes
  added_length old new nodes (added, is, all) = ap length is ∙ length-append old added ∙ ap (λ n. length old + n) (zip_length (λ w t. NodeMeans raw names (length old) w t.node) nodes added all)

  -- ---- formulas

  with_terms_push : (n : ℕ) (fs : List RawFormula) (f : RawFormula) → with_terms n (fs ++ f ∷ []) ≡ with_terms n fs ++ (n + nodes_in (flat_map terms_of_formula fs), f) ∷ []
  with_terms_push n [] f = ap (λ m. (m, f) ∷ []) (omega arith)
  with_terms_push n (g ∷ fs) f =
      let rest = with_terms_push (n + nodes_in (terms_of_formula g)) fs f in
      let same : n + nodes_in (terms_of_formula g) + nodes_in (flat_map terms_of_formula fs) ≡ n + nodes_in (flat_map terms_of_formula (g ∷ fs)) = omega (arith, nodes_append (terms_of_formula g) (flat_map terms_of_formula fs)) in
      ap (λ l. (n, g) ∷ l) (rest ∙ ap (λ m. with_terms (n + nodes_in (terms_of_formula g)) fs ++ (m, f) ∷ []) same)

  pub with_terms_at : (n : ℕ) (fs : List RawFormula) (k : ℕ) (x : ℕ × RawFormula) → slice_get (with_terms n fs) k ≡ Some x → slice_get fs k ≡ Some x.1
  with_terms_at n [] k x at = elim k as (λ j. slice_get [] j ≡ Some x → slice_get [] j ≡ Some x.1) [ zero ↦ λ h. cc | suc j ↦ λ h. cc ] at
  with_terms_at n (f ∷ fs) zero x at = ap (λ (y : ℕ × RawFormula). Some y.1) (same_Some (n, f) x at)
  with_terms_at n (f ∷ fs) (suc k) x at = with_terms_at (n + nodes_in (terms_of_formula f)) fs k x at

  pub formula_terms_more : (fs : List RawFormula) (k : ℕ) (w : RawFormula) → k < length fs → w ≡ get_or fs k w → flat_map terms_of_formula (take (k + 1) fs) ≡ flat_map terms_of_formula (take k fs) ++ terms_of_formula w
  formula_terms_more fs k w within is =
      ap (flat_map terms_of_formula) (take_more fs k w within ∙ ap (λ z. take k fs ++ z ∷ []) (sym is)) ∙ flat_map-append terms_of_formula (take k fs) (w ∷ []) ∙ ap (λ l. flat_map terms_of_formula (take k fs) ++ l) (append-nil (terms_of_formula w))

  abbrev pub FormulasMean : ℕ → List RawFormula → List Formula → Type 0
  FormulasMean n fs formula = AllZip (λ w f. FormulaMeans raw names w.0 w.1 f) (with_terms n fs) formula

  pub formula_more : (n : ℕ) (fs : List RawFormula) (k : ℕ) (w : RawFormula) (m : ℕ) (formula new : List Formula) (f : Formula) → k < length fs → w ≡ get_or fs k w → m ≡ n + nodes_in (flat_map terms_of_formula (take k fs))
      → FormulasMean n (take k fs) formula → new ≡ formula ++ f ∷ [] → FormulaMeans raw names m w f → FormulasMean n (take (k + 1) fs) new
  formula_more n fs k w m formula new f within is before all more means =
      let R : ℕ × RawFormula → Formula → Type 0 = λ x y. FormulaMeans raw names x.0 x.1 y in
      let m' = n + nodes_in (flat_map terms_of_formula (take k fs)) in
      subst (λ l. FormulasMean n l new) (sym (take_more fs k w within ∙ ap (λ z. take k fs ++ z ∷ []) (sym is)))
      (subst (λ l. AllZip R l new) (sym (with_terms_push n (take k fs) w))
      (subst (AllZip R (with_terms n (take k fs) ++ (m', w) ∷ [])) (sym more) (zip_push R (with_terms n (take k fs)) formula (m', w) f all (subst (λ b. FormulaMeans raw names b w f) before means))))

-- ---- the last nodes

pub last_nodes_push : (n : ℕ) (ts : List (List RawNode)) (t : List RawNode) → last_nodes n (ts ++ t ∷ []) ≡ last_nodes n ts ++ (n + nodes_in ts + length t - 1) ∷ []
last_nodes_push n [] t = ap (λ m. (m + length t - 1) ∷ []) (omega arith)
last_nodes_push n (u ∷ ts) t =
    let rest = last_nodes_push (n + length u) ts t in
    let same : n + length u + nodes_in ts ≡ n + nodes_in (u ∷ ts) = omega (arith, nodes_cons u ts) in
    ap (λ l. (n + length u - 1) ∷ l) (rest ∙ ap (λ m. last_nodes (n + length u) ts ++ (m + length t - 1) ∷ []) same)

pub last_nodes_count : (n : ℕ) (ts : List (List RawNode)) → length (last_nodes n ts) ≡ length ts
last_nodes_count n [] = refl
last_nodes_count n (t ∷ ts) = ap suc (last_nodes_count (n + length t) ts)
