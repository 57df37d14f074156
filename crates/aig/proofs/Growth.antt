-- A graph after a gate is put in, which it may have had already.
use Rattle.aig.proofs.Common.{◌≡◌, inl, inr, ℕ, ◌+◌, ◌≤◌, Bool, false, List, length, slice_get, Some, refl, sym, ap, ◌∙◌, subst, arith, length_push, slice_get_within, Adds, Keeps, Output, Gate, IsProper, Graph, OperandsAmong, IsInOrder, AreProper, gate_value, gate_values, graph_state, Stands}
use Rattle.aig.proofs.Keys.{IsInserted, slice_get-push}
use Rattle.aig.proofs.GraphLemmas.{Keeps-pushed, gate_value-pushed, value_of_gate}

module _ (ks new : List Gate) (gate : Gate) where
  pub inserted-in_order : (n : ℕ) → IsInserted ks gate new → IsInOrder n ks → OperandsAmong n (length ks) gate → IsInOrder n new
  inserted-in_order n (inl e) order own = subst (IsInOrder n) (sym e) order
  inserted-in_order n (inr e) order own =
      subst (IsInOrder n) (sym e) (λ k g at. elim (slice_get-push ks gate k g at) [
        | inl h ↦ order k g h
        | inr h ↦ subst (λ x. OperandsAmong n k x) h.1 (subst (λ j. OperandsAmong n j gate) (sym h.0) own)
      ])

  pub inserted-proper : IsInserted ks gate new → AreProper ks → IsProper gate → AreProper new
  inserted-proper (inl e) proper is = subst AreProper (sym e) proper
  inserted-proper (inr e) proper is =
      subst AreProper (sym e) (λ k g at. elim (slice_get-push ks gate k g at) [
        | inl h ↦ proper k g h
        | inr h ↦ subst IsProper h.1 is
      ])

  pub inserted-length : IsInserted ks gate new → length new ≤ length ks + 1
  inserted-length (inl e) = omega (arith, ap length e)
  inserted-length (inr e) = omega (arith, ap length e, length_push ks gate)

  pub inserted-adds : (n : ℕ) → IsInserted ks gate new → Adds graph_state (record { inputs = n; gates = ks }) (record { inputs = n; gates = new }) 1
  inserted-adds n is =
      record {
        inputs = refl;
        gates = inserted-length is;
        keeps = kept is;
      }
    where
      kept : IsInserted ks gate new → Keeps graph_state (record { inputs = n; gates = ks }) (record { inputs = n; gates = new })
      kept (inl e) = subst (λ g. Keeps graph_state (record { inputs = n; gates = ks }) (record { inputs = n; gates = g })) (sym e) (record {
        literals = λ l own. own;
        admitted = λ inputs _. tt;
        admits_no_more = λ inputs _. tt;
        values = λ inputs l _ own. refl;
        known = λ inputs l own. refl;
      })
      kept (inr e) = subst (λ g. Keeps graph_state (record { inputs = n; gates = ks }) (record { inputs = n; gates = g })) (sym e) (Keeps-pushed (record { inputs = n; gates = ks }) gate)

  pub inserted-value : (n : ℕ) → IsInserted ks gate new → OperandsAmong n (length ks) gate → (inputs : List Bool) → gate_value inputs (gate_values inputs new) gate ≡ gate_value inputs (gate_values inputs ks) gate
  inserted-value n (inl e) own inputs = ap (λ g. gate_value inputs (gate_values inputs g) gate) e
  inserted-value n (inr e) own inputs =
      ap (λ g. gate_value inputs (gate_values inputs g) gate) e ∙ gate_value-pushed inputs ks n gate own

-- the output of a gate of the graph stands for the gate's truth table
pub output_stands : (graph : Graph) → IsInOrder graph.inputs graph.gates → (k : ℕ) (gate : Gate) → slice_get graph.gates k ≡ Some gate → (table : List Bool → Bool) → ((inputs : List Bool) → gate_value inputs (gate_values inputs graph.gates) gate ≡ table inputs) → Stands graph table (record { node = Output k; negated = false })
output_stands graph order k gate at table same =
    record {
      own = slice_get_within graph.gates k gate at;
      value = λ inputs. value_of_gate inputs graph.inputs graph.gates order k gate at ∙ same inputs;
    }
