-- Literals that stand for a truth table in a graph, shown by what is true under all values of the nodes.
use Rattle.aig.proofs.Common.{◌≡◌, Bool, true, false, not, ◌&&◌, List, Option, None, Some, if◌then◌else◌, length, refl, sym, ap, ◌∙◌, xor, Node, IfSome, Parts, NotBoth, Literal, negation_of, value_under, Graph, IsOwn, node_value, gate_values, value_of, IsAnd, IsXor, IsOver, HasParts, PartsAmong, IsAndOfParts, IsOverParts, Stands}
use Rattle.aig.proofs.Truth.{xor_signs, xor_one_sign, other_part, other_part_turned}

pub value_under-negation : (values : Node → Bool) (l : Literal) → value_under values (negation_of l) ≡ not (value_under values l)
value_under-negation values l = by l.negated (values l.node)
  where
    by : (s p : Bool) → (if not s then not p else p) ≡ not (if s then not p else p)
    by true true = refl
    by true false = refl
    by false p = refl

-- the nodes' values in a graph
abbrev pub nodes_of : Graph → List Bool → Node → Bool
nodes_of graph inputs = node_value inputs (gate_values inputs graph.gates)

module _ (graph : Graph) where
  pub same_table : (t u : List Bool → Bool) (l : Literal) → ((inputs : List Bool) → t inputs ≡ u inputs) → Stands graph t l → Stands graph u l
  same_table t u l same stands = record { own = stands.own; value = λ inputs. stands.value inputs ∙ same inputs }

  pub negated_table : (t u : List Bool → Bool) (l : Literal) → ((inputs : List Bool) → not (t inputs) ≡ u inputs) → Stands graph t l → Stands graph u (negation_of l)
  negated_table t u l same stands =
      record {
        own = stands.own;
        value = λ inputs. value_under-negation (nodes_of graph inputs) l ∙ ap not (stands.value inputs) ∙ same inputs;
      }

  pub some_same_table : (t u : List Bool → Bool) (found : Option Literal) → ((inputs : List Bool) → t inputs ≡ u inputs) → IfSome found (Stands graph t) → IfSome found (Stands graph u)
  some_same_table t u None same stands = tt
  some_same_table t u (Some l) same stands = same_table t u l same stands

  -- two literals, both taken without negation: the xor is the same where both were negated or neither, and else the
  -- opposite
  module _ (a b p q : Literal) (is_p : p ≡ record a { negated = false }) (is_q : q ≡ record b { negated = false }) where
    pub same_signs : a.negated ≡ b.negated → (inputs : List Bool) → xor (value_of graph inputs p) (value_of graph inputs q) ≡ xor (value_of graph inputs a) (value_of graph inputs b)
    same_signs signs inputs =
        (λ j. xor (value_of graph inputs (is_p j)) (value_of graph inputs (is_q j)))
        ∙ xor_signs a.negated b.negated (nodes_of graph inputs a.node) (nodes_of graph inputs b.node) signs

    pub unlike_signs : (a.negated ≡ b.negated → ⊥) → (inputs : List Bool) → not (xor (value_of graph inputs p) (value_of graph inputs q)) ≡ xor (value_of graph inputs a) (value_of graph inputs b)
    unlike_signs signs inputs =
        (λ j. not (xor (value_of graph inputs (is_p j)) (value_of graph inputs (is_q j))))
        ∙ xor_one_sign a.negated b.negated (nodes_of graph inputs a.node) (nodes_of graph inputs b.node) signs

  -- a is not (x and y), and b is one of x and y: a and b is b and the negation of the other one
  module _ (a x y b n : Literal) (inputs : List Bool) where
    pub first_part : x ≡ b → n ≡ negation_of y → HasParts (nodes_of graph inputs) a (NotBoth x y) → (value_of graph inputs b && value_of graph inputs n) ≡ (value_of graph inputs a && value_of graph inputs b)
    first_part is_b is_n has =
        let v = value_of graph inputs in
        ap (λ p. v b && p) (ap v is_n ∙ value_under-negation (nodes_of graph inputs) y) ∙ other_part (v b) (v y)
        ∙ ap (λ p. p && v b) (ap (λ l. not (v l && v y)) (sym is_b) ∙ sym has)

    pub second_part : y ≡ b → n ≡ negation_of x → HasParts (nodes_of graph inputs) a (NotBoth x y) → (value_of graph inputs b && value_of graph inputs n) ≡ (value_of graph inputs a && value_of graph inputs b)
    second_part is_b is_n has =
        let v = value_of graph inputs in
        ap (λ p. v b && p) (ap v is_n ∙ value_under-negation (nodes_of graph inputs) x) ∙ other_part_turned (v b) (v x)
        ∙ ap (λ p. p && v b) (ap (λ l. not (v x && v l)) (sym is_b) ∙ sym has)

  module _ (a b l : Literal) (own_a : IsOwn graph a) (own_b : IsOwn graph b) where
    pub and_stands : IsAnd a b l → IsOver a.node b.node l → Stands graph (λ inputs. value_of graph inputs a && value_of graph inputs b) l
    and_stands is over =
        record { own = over graph.inputs (length graph.gates) own_a own_b; value = λ inputs. is (nodes_of graph inputs) refl }

    pub xor_stands : IsXor a b l → IsOver a.node b.node l → Stands graph (λ inputs. xor (value_of graph inputs a) (value_of graph inputs b)) l
    xor_stands is over =
        record { own = over graph.inputs (length graph.gates) own_a own_b; value = λ inputs. is (nodes_of graph inputs) refl }

    pub parts_stand : (parts others : Parts) → IsAndOfParts a parts b others l → IsOverParts a parts b others l
        → ((inputs : List Bool) → HasParts (nodes_of graph inputs) a parts) → ((inputs : List Bool) → HasParts (nodes_of graph inputs) b others)
        → PartsAmong graph.inputs (length graph.gates) parts → PartsAmong graph.inputs (length graph.gates) others
        → Stands graph (λ inputs. value_of graph inputs a && value_of graph inputs b) l
    parts_stand parts others is over has_parts has_others own own_others =
        record {
          own = over graph.inputs (length graph.gates) own_a own_b own own_others;
          value = λ inputs. is (nodes_of graph inputs) refl (has_parts inputs) (has_others inputs);
        }
