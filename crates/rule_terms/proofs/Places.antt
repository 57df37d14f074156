-- Nodes of a term that the grammar spells stand behind their operands.
use Rattle.rule_terms.proofs.Common.{◌≡◌, ℕ, zero, suc, ◌+◌, ◌<◌, ◌≤◌, List, [], ◌∷◌, ◌++◌, length, Some, subst, length-append, arith, slice_get, Opcode, Function, Token, TermPlace, RawNode, last_place, SpellsTerm, leaf, width, parenthesised, called, prefixed, tighter, IsBehindOperands, NodesStandBehindOperands, Limits}
use Rattle.rule_terms.specs.declared.raw.RawNode.TheVariants as raw_nodes
use Rattle.rule_terms.specs.Grammar.{joined}

module _ (limits : Limits) where
  -- the nodes, the first at this place, are each behind their operands
  abbrev AreBehind : ℕ → List RawNode → Type 0
  AreBehind start [] = Unit {0}
  AreBehind start (node ∷ nodes) = IsBehindOperands start node × AreBehind (suc start) nodes

  moved : (a b : ℕ) (nodes : List RawNode) → a ≡ b → AreBehind a nodes → AreBehind b nodes
  moved a b nodes e h = subst (λ (n : ℕ). AreBehind n nodes) e h

  behind_append : (start : ℕ) (xs ys : List RawNode) → AreBehind start xs → AreBehind (start + length xs) ys → AreBehind start (xs ++ ys)
  behind_append start [] ys a b = moved (start + 0) start ys (omega arith) b
  behind_append start (x ∷ xs) ys a b = (a.0, behind_append (suc start) xs ys a.1 (moved (start + length (x ∷ xs)) (suc start + length xs) ys (omega arith) b))

  same_node : (k : ℕ) (a b : RawNode) → Some a ≡ Some b → IsBehindOperands k a → IsBehindOperands k b
  same_node k a b e h = let same : a ≡ b = cc in subst (λ (n : RawNode). IsBehindOperands k n) same h

  at_place : (a b : ℕ) (node : RawNode) → a ≡ b → IsBehindOperands a node → IsBehindOperands b node
  at_place a b node e h = subst (λ (n : ℕ). IsBehindOperands n node) e h

  behind_get : (start : ℕ) (nodes : List RawNode) (k : ℕ) (node : RawNode) → AreBehind start nodes → slice_get nodes k ≡ Some node → IsBehindOperands (start + k) node
  behind_get start [] k node h e = absurd cc
  behind_get start (x ∷ nodes) zero node h e = at_place start (start + 0) node (omega arith) (same_node start x node e h.0)
  behind_get start (x ∷ nodes) (suc k) node h e = at_place (suc start + k) (start + suc k) node (omega arith) (behind_get (suc start) nodes k node h.1 e)

  last_below : (n m : ℕ) → 1 ≤ n → n ≤ m → last_place n < m
  last_below n m some le = omega arith

  -- there is one at least
  record Nodes (start : ℕ) (nodes : List RawNode) : Type 0 where
    some : 1 ≤ length nodes
    behind : AreBehind start nodes

  unary_nodes : (start : ℕ) (nodes : List RawNode) (function : Function) → Nodes start nodes → Nodes start (nodes ++ raw_nodes.Unary function (last_place (start + length nodes)) ∷ [])
  unary_nodes start nodes function n =
      let some = n.some in
      record { some = omega (arith, length-append nodes (raw_nodes.Unary function (last_place (start + length nodes)) ∷ [])); behind = behind_append start nodes _ n.behind (last_below (start + length nodes) (start + length nodes) (omega arith) (omega arith), tt) }

  joined_nodes : (start : ℕ) (left right : List RawNode) (op : Opcode) → Nodes start left → Nodes (start + length left) right → Nodes start (left ++ right ++ raw_nodes.Binary op (last_place (start + length left)) (last_place (start + length left + length right)) ∷ [])
  joined_nodes start left right op a b =
      let some = a.some in
      let both : start + length (left ++ right) ≡ start + length left + length right = omega (arith, length-append left right) in
      record {
        some = omega (arith, length-append (left ++ right) (raw_nodes.Binary op (last_place (start + length left)) (last_place (start + length left + length right)) ∷ []));
        behind = behind_append start (left ++ right) _ (behind_append start left right a.behind b.behind)
            ((last_below (start + length left) (start + length (left ++ right)) (omega arith) (omega arith), last_below (start + length left + length right) (start + length (left ++ right)) (omega arith) (omega arith)), tt);
      }

  spelled_nodes : {place : TermPlace} {nesting start level : ℕ} {nodes : List RawNode} {tokens : List Token} → SpellsTerm limits place nesting start level nodes tokens → Nodes start nodes
  spelled_nodes (leaf (raw_nodes.Literal z) tokens s) = record { some = omega arith; behind = (tt, tt) }
  spelled_nodes (leaf (raw_nodes.Constant name) tokens s) = record { some = omega arith; behind = (tt, tt) }
  spelled_nodes (leaf (raw_nodes.Register name) tokens s) = record { some = omega arith; behind = (tt, tt) }
  spelled_nodes (leaf (raw_nodes.Choice k) tokens s) = record { some = omega arith; behind = (tt, tt) }
  spelled_nodes (leaf node tokens s) = absurd s
  spelled_nodes (width name le) = record { some = omega arith; behind = (tt, tt) }
  spelled_nodes (parenthesised s) = spelled_nodes s
  spelled_nodes (called {start = start} {nodes = nodes} function word is s) = unary_nodes start nodes function (spelled_nodes s)
  spelled_nodes (prefixed {start = start} {nodes = nodes} function mark is s) = unary_nodes start nodes function (spelled_nodes s)
  spelled_nodes (tighter s) = spelled_nodes s
  spelled_nodes (joined {start = start} {left = left} {right = right} op is a b) = joined_nodes start left right op (spelled_nodes a) (spelled_nodes b)

pub nodes_behind : NodesStandBehindOperands
nodes_behind = λ limits place nesting nodes tokens s.
    let n = spelled_nodes limits s in
    (n.some, λ k node e. at_place limits (0 + k) k node (omega arith) (behind_get limits 0 nodes k node n.behind e))
