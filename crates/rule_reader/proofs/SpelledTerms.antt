-- What the grammar ensures of terms, formulas and expressions: nodes stand behind their operands, and constant terms
-- have no registers.
use Rattle.rule_reader.proofs.Common.{◌≡◌, inl, inr, ℕ, zero, suc, ◌+◌, ◌<◌, ◌≤◌, List, [], ◌∷◌, ◌++◌, length, Option, Some, None, sym, subst, length-append, arith, slice_get, option_map_or, same_Some, Maybe, Token, TermPlace, RawNode, RawFormula, last_place, SpellsTerm, SpellsWholeTerm, leaf, width, parenthesised, called, prefixed, tighter, joined, SpellsFormula, Standing, Level, compares, tests, masked, non_zero, turns, encloses, member, both, members, either, predicates, RawPrecondition, RawWitness, SpellsPrecondition, SpellsMoreExpressions, SpellsExpressions, SpellsWitness, Each, terms_of_formula, IsTerm, MayStandInTerm, IsBehindFormulas, rule_limits}
use Rattle.rule_terms.specs.declared.place.TermPlace.TheVariants as term_places
use Rattle.rule_terms.specs.declared.raw.RawNode.TheVariants as raw_nodes
use Rattle.rule_terms.specs.declared.raw.RawFormula.TheVariants as raw_formulas
use Rattle.rule_terms.specs.Formulas.{one_use}
use Rattle.rule_terms.proofs.Places.{nodes_behind}
use Rattle.rule_reader.proofs.Members.{each_append, each_push}

-- a node of a constant term, and its name is short
abbrev pub IsConstantNode : RawNode → Type 0
IsConstantNode (raw_nodes.Constant name) = length name ≤ 200
IsConstantNode node = MayStandInTerm node

pub may_stand : (node : RawNode) → IsConstantNode node → MayStandInTerm node
may_stand (raw_nodes.Constant name) is = tt
may_stand node is = is

abbrev pub IsConstantTerm : List RawNode → Type 0
IsConstantTerm t = IsTerm t × Each IsConstantNode t

-- ---- terms

pub is_term : (place : TermPlace) (nesting : ℕ) (t : List RawNode) (tokens : List Token) → SpellsWholeTerm rule_limits place nesting t tokens → IsTerm t
is_term place nesting t tokens spelled = let n = nodes_behind rule_limits place nesting t tokens spelled in record { some = n.0; each = n.1 }

constant_nodes : {nesting start level : ℕ} {nodes : List RawNode} {tokens : List Token} → SpellsTerm rule_limits term_places.Constant nesting start level nodes tokens → Each IsConstantNode nodes
constant_nodes (leaf (raw_nodes.Literal z) tokens s) = (tt, tt)
constant_nodes (leaf (raw_nodes.Constant name) tokens s) = (s.1, tt)
constant_nodes (leaf (raw_nodes.Register name) tokens s) = let e : term_places.Constant ≡ term_places.Witness = s.0 in absurd (cc)
constant_nodes (leaf (raw_nodes.Choice k) tokens s) = let e : term_places.Constant ≡ term_places.Witness = s.1 in absurd (cc)
constant_nodes (leaf node tokens s) = absurd s
constant_nodes (width name le) = (tt, tt)
constant_nodes (parenthesised s) = constant_nodes s
constant_nodes (called {nodes = nodes} function word is s) = each_push IsConstantNode nodes _ (constant_nodes s) tt
constant_nodes (prefixed {nodes = nodes} function mark is s) = each_push IsConstantNode nodes _ (constant_nodes s) tt
constant_nodes (tighter s) = constant_nodes s
constant_nodes (joined {left = left} {right = right} op is a b) =
    each_push IsConstantNode (left ++ right) _ (each_append IsConstantNode left right (constant_nodes a) (constant_nodes b)) tt

pub constant_term : (nesting : ℕ) (t : List RawNode) (tokens : List Token) → SpellsWholeTerm rule_limits term_places.Constant nesting t tokens → IsConstantTerm t
constant_term nesting t tokens spelled = (is_term term_places.Constant nesting t tokens spelled, constant_nodes spelled)

-- ---- formulas

-- the nodes, the first at this place, are each behind their operands
abbrev AreBehind : ℕ → List RawFormula → Type 0
AreBehind start [] = Unit {0}
AreBehind start (f ∷ nodes) = IsBehindFormulas start f × AreBehind (suc start) nodes

moved : (a b : ℕ) (nodes : List RawFormula) → a ≡ b → AreBehind a nodes → AreBehind b nodes
moved a b nodes e h = subst (λ (n : ℕ). AreBehind n nodes) e h

behind_append : (start : ℕ) (xs ys : List RawFormula) → AreBehind start xs → AreBehind (start + length xs) ys → AreBehind start (xs ++ ys)
behind_append start [] ys a b = moved (start + 0) start ys (omega arith) b
behind_append start (x ∷ xs) ys a b = (a.0, behind_append (suc start) xs ys a.1 (moved (start + length (x ∷ xs)) (suc start + length xs) ys (omega arith) b))

at_place : (a b : ℕ) (f : RawFormula) → a ≡ b → IsBehindFormulas a f → IsBehindFormulas b f
at_place a b f e h = subst (λ (n : ℕ). IsBehindFormulas n f) e h

behind_at : (start : ℕ) (nodes : List RawFormula) (k : ℕ) (f : RawFormula) → AreBehind start nodes → slice_get nodes k ≡ Some f → IsBehindFormulas (start + k) f
behind_at start [] k f h e = absurd cc
behind_at start (x ∷ nodes) zero f h e = at_place start (start + 0) f (omega arith) (subst (λ (n : RawFormula). IsBehindFormulas start n) (same_Some x f e) h.0)
behind_at start (x ∷ nodes) (suc k) f h e = at_place (suc start + k) (start + suc k) f (omega arith) (behind_at (suc start) nodes k f h.1 e)

last_below : (n m : ℕ) → 1 ≤ n → n ≤ m → last_place n < m
last_below n m some le = omega arith

-- the terms of a node are constant terms
abbrev pub HasConstantTerms : RawFormula → Type 0
HasConstantTerms f = Each IsConstantTerm (terms_of_formula f)

-- there is one at least
record Nodes (start : ℕ) (nodes : List RawFormula) : Type 0 where
  some : 1 ≤ length nodes
  behind : AreBehind start nodes
  terms : Each HasConstantTerms nodes

lone : (start : ℕ) (f : RawFormula) → IsBehindFormulas start f → HasConstantTerms f → Nodes start (f ∷ [])
lone start f behind terms = record { some = omega arith; behind = (behind, tt); terms = (terms, tt) }

turned : (start : ℕ) (nodes : List RawFormula) → Nodes start nodes → Nodes start (nodes ++ raw_formulas.Not (last_place (start + length nodes)) ∷ [])
turned start nodes n =
    let some = n.some in
    let node = raw_formulas.Not (last_place (start + length nodes)) in
    record {
      some = omega (arith, length-append nodes (node ∷ []));
      behind = behind_append start nodes (node ∷ []) n.behind (last_below (start + length nodes) (start + length nodes) (omega arith) (omega arith), tt);
      terms = each_push HasConstantTerms nodes node n.terms tt;
    }

together : (start : ℕ) (left right : List RawFormula) → Nodes start left → Nodes (start + length left) right → Nodes start (left ++ right)
together start left right a b =
    let some = a.some in
    record {
      some = omega (arith, length-append left right);
      behind = behind_append start left right a.behind b.behind;
      terms = each_append HasConstantTerms left right a.terms b.terms;
    }

-- two operands and their operator's node behind them
joins : (start : ℕ) (left right : List RawFormula) (node : RawFormula) → Nodes start left → Nodes (start + length left) right → IsBehindFormulas (start + length (left ++ right)) node → HasConstantTerms node → Nodes start (left ++ right ++ node ∷ [])
joins start left right node a b behind terms =
    together start (left ++ right) (node ∷ []) (together start left right a b) (lone (start + length (left ++ right)) node behind terms)

below : (start : ℕ) (left right : List RawFormula) → Nodes start left → Nodes (start + length left) right → (last_place (start + length left) < start + length (left ++ right)) × (last_place (start + length left + length right) < start + length (left ++ right))
below start left right a b =
    let some = a.some in
    let both : start + length (left ++ right) ≡ start + length left + length right = omega (arith, length-append left right) in
    (last_below (start + length left) (start + length (left ++ right)) (omega arith) (omega arith), last_below (start + length left + length right) (start + length (left ++ right)) (omega arith) (omega arith))

spelled_formula : {standing : Standing} {level : Level} {nesting start : ℕ} {nodes : List RawFormula} {tokens : List Token} → SpellsFormula rule_limits standing level nesting start nodes tokens → Nodes start nodes
spelled_formula (compares {nesting = nesting} {start = start} {left = left} {right = right} {front = front} {back = back} pred a b) =
    lone start (raw_formulas.Compare pred left right) tt (constant_term nesting left front a, (constant_term nesting right back b, tt))
spelled_formula (tests {nesting = nesting} {start = start} {term = term} {own = own} predicate s) =
    let terms = constant_term nesting term own s in
    elim (predicates predicate term) [
      | inl power ↦ subst (λ f. Nodes start (f ∷ [])) (sym power.1) (lone start (raw_formulas.IsPowerOfTwo term) tt (terms, tt))
      | inr sign ↦ subst (λ f. Nodes start (f ∷ [])) (sym sign.1) (lone start (raw_formulas.IsSignBit term) tt (terms, tt))
    ]
spelled_formula (one_use {start = start} {name = name} le) = lone start (raw_formulas.HasOneUse name) tt tt
spelled_formula (masked {nesting = nesting} {start = start} {name = name} {term = term} {own = own} le s) = lone start (raw_formulas.MaskedValueIsZero name term) tt (constant_term nesting term own s, tt)
spelled_formula (non_zero {start = start} {name = name} le) = lone start (raw_formulas.IsKnownNonZero name) tt tt
spelled_formula (turns {start = start} {nodes = nodes} s) = turned start nodes (spelled_formula s)
spelled_formula (encloses s) = spelled_formula s
spelled_formula (member s) = spelled_formula s
spelled_formula (both {start = start} {left = left} {right = right} a b) =
    let x = spelled_formula a in
    let y = spelled_formula b in
    joins start left right _ x y (below start left right x y) tt
spelled_formula (members s) = spelled_formula s
spelled_formula (either {start = start} {left = left} {right = right} a b) =
    let x = spelled_formula a in
    let y = spelled_formula b in
    joins start left right _ x y (below start left right x y) tt

-- the formula of `Pre:`, if there is one
pub formula_behind : (p : Option RawPrecondition) (tokens : List Token) → Maybe (SpellsPrecondition rule_limits) p tokens → (k : ℕ) (f : RawFormula) → slice_get (option_map_or (λ q. q.formula) p []) k ≡ Some f → IsBehindFormulas k f
formula_behind None tokens spelled k f at = absurd cc
formula_behind (Some p) tokens spelled k f at = at_place (0 + k) k f (omega arith) (behind_at 0 p.formula k f (spelled_formula spelled.1).behind at)

pub formula_terms : (p : Option RawPrecondition) (tokens : List Token) → Maybe (SpellsPrecondition rule_limits) p tokens → Each HasConstantTerms (option_map_or (λ q. q.formula) p [])
formula_terms None tokens spelled = tt
formula_terms (Some p) tokens spelled = (spelled_formula spelled.1).terms

-- ---- expressions

more_terms : (expressions : List (List RawNode)) (tokens : List Token) → SpellsMoreExpressions rule_limits expressions tokens → Each IsTerm expressions
more_terms [] tokens spelled = tt
more_terms (t ∷ expressions) tokens (own, rest, first, others, is) = (is_term term_places.Witness _ t own first, more_terms expressions rest others)

terms_in_order : (expressions : List (List RawNode)) (tokens : List Token) → SpellsExpressions rule_limits expressions tokens → Each IsTerm expressions
terms_in_order [] tokens spelled = tt
terms_in_order (t ∷ expressions) tokens (own, rest, first, others, is) = (is_term term_places.Witness _ t own first, more_terms expressions rest others)

pub expression_terms : (w : Option RawWitness) (tokens : List Token) → Maybe (SpellsWitness rule_limits) w tokens → Each IsTerm (option_map_or (λ v. v.expressions) w [])
expression_terms None tokens spelled = tt
expression_terms (Some w) tokens spelled = terms_in_order w.expressions spelled.0 spelled.1
