-- The nodes of a term that is meant are those of the term as written, moved behind those of the terms before it. So a
-- term has no node of another.
use Rattle.rule_reader.proofs.Common.{◌≡◌, inl, inr, ℕ, zero, suc, ◌+◌, ◌-◌, ◌<◌, List, [], ◌∷◌, ◌++◌, length, map, Some, refl, sym, ap, subst, ◌∙◌, append_assoc, arith, slice_get, Contains, flat_map, append-nil, length-map, slice_get_within, same_Some, RawRule, RawStatement, RawArgument, RawNode, RawFormula, Node, IsOperandOf, StandsIn, operand, NamesWidth, OwnsOperands, AreLastNodes, Contains-from_get, terms_of_argument, terms_of_formula, Counts, Names, nodes_in, past, past_all, counted_of, counted_among, with_counts, with_nodes, with_terms, last_nodes, HasName, NodeMeans, TermsMean, IsTerm, IsBehindOperands}
use Rattle.rule_parse.specs.declared.raw.RawArgument.TheVariants as raw_arguments
use Rattle.rule_terms.specs.declared.raw.RawNode.TheVariants as raw_nodes
use Rattle.rule_core.specs.declared.rule.Register.{Register}
use Rattle.rule_core.specs.declared.rule.Term.{Term}
use Rattle.rule_core.specs.declared.rule.Node.TheVariants as nodes
use Rattle.rule_core.specs.TermNodes.{itself}
use Rattle.rule_reader.proofs.Counting.{past_append}
use Rattle.rule_reader.proofs.Meaning.{with_before}
use Rattle.rule_reader.proofs.Members.{Contains-behind}
use Rattle.rule_reader.proofs.Nodes.{nodes_append, nodes_behind, count_nodes}
use Rattle.rule_reader.proofs.Places.{at_append, at_map, zip_right}

-- ---- where a term stands among others

-- statement k with the counts before it, and the statements before and behind
pub statement_split : (c : Counts) (ws : List RawStatement) (k : ℕ) (x : Counts × RawStatement) → slice_get (with_counts c ws) k ≡ Some x
    → (front back : List RawArgument) × (counted_among ws ≡ front ++ (counted_of x.1.op ++ back)) × (x.0 ≡ past_all c front)
statement_split c [] k x at = elim k as (λ j. slice_get [] j ≡ Some x → (front back : List RawArgument) × (counted_among [] ≡ front ++ (counted_of x.1.op ++ back)) × (x.0 ≡ past_all c front)) [ zero ↦ λ h. absurd (cc) | suc j ↦ λ h. absurd (cc) ] at
statement_split c (w ∷ ws) zero x at =
    let same : (c, w) ≡ x = same_Some (c, w) x at in
    ([], counted_among ws, ap (λ (y : Counts × RawStatement). counted_of y.1.op ++ counted_among ws) same, ap (λ (y : Counts × RawStatement). y.0) (sym same))
statement_split c (w ∷ ws) (suc k) x at =
    let (front, back, whole, is) = statement_split (past_all c (counted_of w.op)) ws k x at in (
      counted_of w.op ++ front,
      back,
      ap (λ (l : List RawArgument). counted_of w.op ++ l) whole ∙ sym (append_assoc (counted_of w.op) front (counted_of x.1.op ++ back)),
      is ∙ sym (past_append c (counted_of w.op) front),
    )

pub argument_split : (b : Counts) (xs : List RawArgument) (q : ℕ) (x : Counts × RawArgument) → slice_get (with_before b xs) q ≡ Some x → (front back : List RawArgument) × (xs ≡ front ++ x.1 ∷ back) × (x.0 ≡ past_all b front)
argument_split b [] q x at = elim q as (λ j. slice_get [] j ≡ Some x → (front back : List RawArgument) × ([] ≡ front ++ x.1 ∷ back) × (x.0 ≡ past_all b front)) [ zero ↦ λ h. absurd (cc) | suc j ↦ λ h. absurd (cc) ] at
argument_split b (a ∷ xs) zero x at =
    let same : (b, a) ≡ x = same_Some (b, a) x at in
    ([], xs, ap (λ (y : Counts × RawArgument). y.1 ∷ xs) same, ap (λ (y : Counts × RawArgument). y.0) (sym same))
argument_split b (a ∷ xs) (suc q) x at = let (front, back, whole, is) = argument_split (past b a) xs q x at in (a ∷ front, back, ap (λ (l : List RawArgument). a ∷ l) whole, is)

-- the nodes that are counted before an operand are those of the terms before it
pub nodes_past : (c : Counts) (xs : List RawArgument) → (past_all c xs).nodes ≡ c.nodes + nodes_in (flat_map terms_of_argument xs)
nodes_past c [] = omega arith
nodes_past c (raw_arguments.Register name ∷ xs) = nodes_past c xs
nodes_past c (raw_arguments.Literal z ∷ xs) = nodes_past c xs
nodes_past c (raw_arguments.Truth t ∷ xs) = nodes_past c xs
nodes_past c (raw_arguments.Constant name ∷ xs) = nodes_past c xs
nodes_past c (raw_arguments.Undef ∷ xs) = nodes_past (past c raw_arguments.Undef) xs
nodes_past c (raw_arguments.Term t ∷ xs) = omega (arith, nodes_past (past c (raw_arguments.Term t)) xs, nodes_append (t ∷ []) (flat_map terms_of_argument xs))

-- node k of `Pre:` with the count before it, and the nodes before and behind
pub formula_split : (n : ℕ) (fs : List RawFormula) (k : ℕ) (x : ℕ × RawFormula) → slice_get (with_terms n fs) k ≡ Some x → (front back : List RawFormula) × (fs ≡ front ++ x.1 ∷ back) × (x.0 ≡ n + nodes_in (flat_map terms_of_formula front))
formula_split n [] k x at = elim k as (λ j. slice_get [] j ≡ Some x → (front back : List RawFormula) × ([] ≡ front ++ x.1 ∷ back) × (x.0 ≡ n + nodes_in (flat_map terms_of_formula front))) [ zero ↦ λ h. absurd (cc) | suc j ↦ λ h. absurd (cc) ] at
formula_split n (f ∷ fs) zero x at =
    let same : (n, f) ≡ x = same_Some (n, f) x at in
    let first : n ≡ x.0 = ap (λ (y : ℕ × RawFormula). y.0) same in
    ([], fs, ap (λ (y : ℕ × RawFormula). y.1 ∷ fs) same, omega (arith, first))
formula_split n (f ∷ fs) (suc k) x at =
    let (front, back, whole, is) = formula_split (n + nodes_in (terms_of_formula f)) fs k x at in
    (f ∷ front, back, ap (λ (l : List RawFormula). f ∷ l) whole, omega (arith, is, nodes_append (terms_of_formula f) (flat_map terms_of_formula front)))

-- ---- the nodes of one term

module _ (raw : RawRule) (names : Names) where
  operand_own : (n : ℕ) (w : RawNode) (m : Node) (a : ℕ) → NodeMeans raw names n w m → IsOperandOf a m → (b : ℕ) × (a ≡ n + b) × ((j : ℕ) → IsBehindOperands j w → b < j)
  operand_own n (raw_nodes.Unary f b) (nodes.Unary f' x) a is which = (b, which ∙ is.1, λ j behind. behind)
  operand_own n (raw_nodes.Binary op b c) (nodes.Binary op' x y) a is (inl e) = (b, e ∙ is.1, λ j behind. behind.0)
  operand_own n (raw_nodes.Binary op b c) (nodes.Binary op' x y) a is (inr e) = (c, e ∙ is.2, λ j behind. behind.1)
  operand_own n w (nodes.Unary f' x) a is which = absurd is
  operand_own n w (nodes.Binary op' x y) a is which = absurd is
  operand_own n w m a is which = absurd which

  width_means : (n : ℕ) (w : RawNode) (r : Register) (c : ℕ) → NodeMeans raw names n w (nodes.Width r c) → (name : List ℕ) × (w ≡ raw_nodes.Width name) × HasName raw names r name
  width_means n (raw_nodes.Width name) r c is = (name, refl, is)
  width_means n w r c is = absurd is

  module _ (before : List (List RawNode)) (t : List RawNode) (behind : List (List RawNode)) (terms : List Term) (means : TermsMean raw names (before ++ t ∷ behind) terms) where
    abbrev start : ℕ
    start = 0 + nodes_in before

    -- node j of the term
    node_of : (j : ℕ) (x : Term) → j < length t → slice_get terms (start + j) ≡ Some x → (node : RawNode) × (slice_get t j ≡ Some node) × NodeMeans raw names start node x.node
    node_of j x within at =
        let own : List (ℕ × RawNode) = map (λ node. (start, node)) t in
        let others : List (ℕ × RawNode) = with_nodes (start + length t) behind in
        let (w, at', is) = zip_right (λ (w : ℕ × RawNode) (y : Term). NodeMeans raw names w.0 w.1 y.node) (with_nodes 0 (before ++ t ∷ behind)) terms (start + j) x means at in
        let spot : slice_get (with_nodes 0 before ++ (own ++ others)) (start + j) ≡ Some w = ap (λ (l : List (ℕ × RawNode)). slice_get l (start + j)) (sym (nodes_behind 0 before (t ∷ behind))) ∙ at' in
        let long : length own ≡ length t = length-map t (λ (node : RawNode). (start, node)) in
        let count : length (with_nodes 0 before) ≡ nodes_in before = count_nodes 0 before in
        elim (at_append (with_nodes 0 before) (own ++ others) (start + j) w spot) [
          | inl here ↦ let short : start + j < length (with_nodes 0 before) = slice_get_within (with_nodes 0 before) (start + j) w here in absurd (omega (arith, short, count))
          | inr (i, e, there) ↦
              let sum : start + j ≡ length (with_nodes 0 before) + i = e in
              let same : i ≡ j = omega (arith, sum, count) in
              elim (at_append own others i w there) [
                | inl here ↦
                    let (node, found, made) = at_map (λ (node : RawNode). (start, node)) t i w here in (
                      node,
                      subst (λ k. slice_get t k ≡ Some node) same found,
                      subst (λ (y : ℕ × RawNode). NodeMeans raw names y.0 y.1 x.node) (sym made) is,
                    )
                | inr (k, far, wrong) ↦ let past_end : i ≡ length own + k = far in absurd (omega (arith, past_end, long, same, within))
              ]
        ]

    -- what stands in a term (`StandsIn`) is among these nodes
    stands_own : IsTerm t → (m n : ℕ) → StandsIn terms m n → (j : ℕ) → j < length t → n ≡ start + j → (i : ℕ) × (i < length t) × (m ≡ start + i)
    stands_own own m n itself j within e = (j, within, e)
    stands_own own m n (operand a x at is more) j within e =
        let (node, spot, goes) = node_of j x within (subst (λ k. slice_get terms k ≡ Some x) e at) in
        let (b, sum, less) = operand_own start node x.node a goes is in
        let smaller : b < j = less j (own.each j node spot) in
        stands_own own m a more b (omega arith) sum

    -- the widths that a term names are those that it names as written
    pub measures : IsTerm t → (n : ℕ) (r : Register) → suc n ≡ start + length t → NamesWidth terms n r → (name : List ℕ) × Contains t (raw_nodes.Width name) × HasName raw names r name
    measures own n r end (m, c, x, stands, at, is) =
        let some : 0 < length t = own.some in
        let last : ℕ = length t - 1 in
        let last_within : last < length t = omega arith in
        let last_is : n ≡ start + last = omega (arith, end, some) in
        let (i, within, e) = stands_own own m n stands last last_within last_is in
        let (node, spot, goes) = node_of i x within (subst (λ k. slice_get terms k ≡ Some x) e at) in
        let (name, width, has) = width_means start node r c (subst (NodeMeans raw names start node) is goes) in
        (name, subst (Contains t) width (Contains-from_get t i node spot), has)

    -- the operands of these nodes are among them
    pub owns : (last : ℕ) → suc last ≡ start + length t → OwnsOperands terms start last
    owns last end n a x from to at which =
        let j : ℕ = n - start in
        let place : n ≡ start + j = omega (arith, from) in
        let within : j < length t = omega (arith, place, to, end) in
        let (node, spot, goes) = node_of j x within (subst (λ k. slice_get terms k ≡ Some x) place at) in
        let (b, sum, less) = operand_own start node x.node a goes which in
        omega (arith, sum)

  -- the last nodes of terms that are meant
  pub are_last_nodes : (before ts : List (List RawNode)) (terms : List Term) → TermsMean raw names (before ++ ts) terms → ((t : List RawNode) → Contains ts t → IsTerm t) → length terms ≡ nodes_in (before ++ ts)
      → AreLastNodes terms (0 + nodes_in before) (last_nodes (0 + nodes_in before) ts)
  are_last_nodes before [] terms means each long = let all : nodes_in (before ++ []) ≡ nodes_in before = ap nodes_in (append-nil before) in omega (arith, all, long)
  are_last_nodes before (t ∷ ts) terms means each long =
      let own : IsTerm t = each t (Contains-from_get (t ∷ ts) 0 t refl) in
      let some : 0 < length t = own.some in
      let from : ℕ = 0 + nodes_in before in
      let last : ℕ = from + length t - 1 in
      let moved : (before ++ t ∷ []) ++ ts ≡ before ++ t ∷ ts = append_assoc before (t ∷ []) ts in
      let next : 0 + nodes_in (before ++ t ∷ []) ≡ from + length t = omega (arith, nodes_append before (t ∷ []), nodes_append (t ∷ []) []) in
      let after : suc last ≡ from + length t = omega (arith, some) in
      let rest = are_last_nodes (before ++ t ∷ []) ts terms (subst (λ l. TermsMean raw names l terms) (sym moved) means) (λ u among. each u (Contains-behind t ts u among)) (long ∙ ap nodes_in (sym moved)) in (
        omega (arith, some),
        owns before t ts terms means last after,
        subst (λ k. AreLastNodes terms k (last_nodes (from + length t) ts)) (sym after) (subst (λ k. AreLastNodes terms k (last_nodes k ts)) next rest),
      )
