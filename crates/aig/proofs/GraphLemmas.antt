-- The values of a graph's gates, and which of them stay the same when a gate is added.
use Rattle.aig.proofs.Common.{◌≡◌, ℕ, zero, suc, ◌+◌, ◌≤◌, Bool, false, not, cond, List, [], ◌∷◌, ◌++◌, length, get_or, drop, replicate, Some, refl, sym, ap, ◌∙◌, subst, arith, length-drop, append_assoc, append-nil, fold, slice_get, get_or_append_left, get_or_at, length_push, length-replicate, fold-append, Keeps, certain, Node, One, Input, Output, Literal, Gate, And, Xor, Mux, Graph, IsAmong, IsOwn, OperandsAmong, IsInOrder, node_value, literal_value, gate_value, gate_values, value_of, graph_state}

-- a node that is among so many inputs is among more

IsAmong-more : (n m k : ℕ) → n ≤ m → (node : Node) → IsAmong n k node → IsAmong m k node
IsAmong-more n m k le One own = tt
IsAmong-more n m k le (Input j) own = omega arith
IsAmong-more n m k le (Output j) own = own

pub OperandsAmong-more : (n m k : ℕ) → n ≤ m → (gate : Gate) → OperandsAmong n k gate → OperandsAmong m k gate
OperandsAmong-more n m k le (And a b) own = (IsAmong-more n m k le a.node own.0, IsAmong-more n m k le b.node own.1)
OperandsAmong-more n m k le (Xor a b) own = (IsAmong-more n m k le a.node own.0, IsAmong-more n m k le b.node own.1)
OperandsAmong-more n m k le (Mux c a b) own =
    (IsAmong-more n m k le c.node own.0, IsAmong-more n m k le a.node own.1, IsAmong-more n m k le b.node own.2)

pub still_in_order : (n m : ℕ) (gates : List Gate) → n ≤ m → IsInOrder n gates → IsInOrder m gates
still_in_order n m gates le order = λ k gate at. OperandsAmong-more n m k le gate (order k gate at)

-- a node that is among so many gates is among more

IsAmong-later : (n k m : ℕ) → k ≤ m → (node : Node) → IsAmong n k node → IsAmong n m node
IsAmong-later n k m le One own = tt
IsAmong-later n k m le (Input j) own = own
IsAmong-later n k m le (Output j) own = omega arith

pub OperandsAmong-later : (n k m : ℕ) → k ≤ m → (gate : Gate) → OperandsAmong n k gate → OperandsAmong n m gate
OperandsAmong-later n k m le (And a b) own = (IsAmong-later n k m le a.node own.0, IsAmong-later n k m le b.node own.1)
OperandsAmong-later n k m le (Xor a b) own = (IsAmong-later n k m le a.node own.0, IsAmong-later n k m le b.node own.1)
OperandsAmong-later n k m le (Mux c a b) own =
    (IsAmong-later n k m le c.node own.0, IsAmong-later n k m le a.node own.1, IsAmong-later n k m le b.node own.2)

-- the values of more gates don't change that of an older node

node_value-append : (inputs vs ws : List Bool) (n k : ℕ) → k ≤ length vs → (node : Node) → IsAmong n k node → node_value inputs (vs ++ ws) node ≡ node_value inputs vs node
node_value-append inputs vs ws n k le One own = refl
node_value-append inputs vs ws n k le (Input j) own = refl
node_value-append inputs vs ws n k le (Output j) own = get_or_append_left vs ws false j (omega arith)

literal_value-append : (inputs vs ws : List Bool) (n k : ℕ) → k ≤ length vs → (l : Literal) → IsAmong n k l.node → literal_value inputs (vs ++ ws) l ≡ literal_value inputs vs l
literal_value-append inputs vs ws n k le l own =
    ap (λ b. cond l.negated (not b) b) (node_value-append inputs vs ws n k le l.node own)

gate_value-append : (inputs vs ws : List Bool) (n k : ℕ) → k ≤ length vs → (gate : Gate) → OperandsAmong n k gate → gate_value inputs (vs ++ ws) gate ≡ gate_value inputs vs gate
gate_value-append inputs vs ws n k le (And a b) own =
    let p = literal_value-append inputs vs ws n k le a own.0 in
    let q = literal_value-append inputs vs ws n k le b own.1 in
    cc
gate_value-append inputs vs ws n k le (Xor a b) own =
    let p = literal_value-append inputs vs ws n k le a own.0 in
    let q = literal_value-append inputs vs ws n k le b own.1 in
    cc
gate_value-append inputs vs ws n k le (Mux c a b) own =
    let o = literal_value-append inputs vs ws n k le c own.0 in
    let p = literal_value-append inputs vs ws n k le a own.1 in
    let q = literal_value-append inputs vs ws n k le b own.2 in
    cc

-- the values of the older gates and of these, each by those before it
abbrev values_from : List Bool → List Bool → List Gate → List Bool
values_from inputs older gates = fold (λ older gate. older ++ gate_value inputs older gate ∷ []) older gates

length-values_from : (inputs older : List Bool) (gates : List Gate) → length (values_from inputs older gates) ≡ length older + length gates
length-values_from inputs older [] = omega arith
length-values_from inputs older (g ∷ gs) =
    let v = gate_value inputs older g in
    omega (arith, length-values_from inputs (older ++ v ∷ []) gs, length_push older v)

pub length-gate_values : (inputs : List Bool) (gates : List Gate) → length (gate_values inputs gates) ≡ length gates
length-gate_values inputs gates = omega (arith, length-values_from inputs [] gates)

-- the values of the older gates come first
values_from-front : (inputs older : List Bool) (gates : List Gate) → (ws : List Bool) × (values_from inputs older gates ≡ older ++ ws)
values_from-front inputs older [] = ([], sym (append-nil older))
values_from-front inputs older (g ∷ gs) =
    let v = gate_value inputs older g in
    let rest = values_from-front inputs (older ++ v ∷ []) gs in
    (v ∷ rest.0, rest.1 ∙ append_assoc older (v ∷ []) rest.0)

value_from : (inputs older : List Bool) (n : ℕ) (gates : List Gate) (k : ℕ) (gate : Gate) → slice_get gates k ≡ Some gate → OperandsAmong n (length older + k) gate → get_or (values_from inputs older gates) (length older + k) false ≡ gate_value inputs (values_from inputs older gates) gate
value_from inputs older n [] k gate at own = absurd (cc)
value_from inputs older n (g ∷ gs) zero gate at own =
    let v = gate_value inputs older g in
    let same : g ≡ gate = cc in
    let front = values_from-front inputs older (g ∷ gs) in
    let rest = values_from-front inputs (older ++ v ∷ []) gs in
    let all : values_from inputs older (g ∷ gs) ≡ older ++ v ∷ rest.0 = rest.1 ∙ append_assoc older (v ∷ []) rest.0 in
    rw all (get_or_at older v rest.0 false (length older + 0) (omega arith)
    ∙ ap (gate_value inputs older) same
    ∙ sym (gate_value-append inputs older (v ∷ rest.0) n (length older + 0) (omega arith) gate own))
value_from inputs older n (g ∷ gs) (suc k) gate at own =
    let v = gate_value inputs older g in
    let place : length (older ++ v ∷ []) + k ≡ length older + suc k = omega (arith, length_push older v) in
    let own' : OperandsAmong n (length (older ++ v ∷ []) + k) gate = subst (λ j. OperandsAmong n j gate) (sym place) own in
    ap (λ j. get_or (values_from inputs older (g ∷ gs)) j false) (sym place)
    ∙ value_from inputs (older ++ v ∷ []) n gs k gate at own'

-- a gate's value is its truth table over the values of its operands
pub value_of_gate : (inputs : List Bool) (n : ℕ) (gates : List Gate) → IsInOrder n gates → (k : ℕ) (gate : Gate) → slice_get gates k ≡ Some gate → get_or (gate_values inputs gates) k false ≡ gate_value inputs (gate_values inputs gates) gate
value_of_gate inputs n gates order k gate at =
    let place : 0 + k ≡ k = omega arith in
    ap (λ j. get_or (gate_values inputs gates) j false) (sym place)
    ∙ value_from inputs [] n gates k gate at (subst (λ j. OperandsAmong n j gate) (sym place) (order k gate at))

-- a graph to which a gate was added
abbrev pub pushed_gate : Graph → Gate → Graph
pushed_gate graph gate = record graph { gates = graph.gates ++ gate ∷ [] }

gate_values-push : (inputs : List Bool) (gates : List Gate) (gate : Gate) → gate_values inputs (gates ++ gate ∷ []) ≡ gate_values inputs gates ++ gate_value inputs (gate_values inputs gates) gate ∷ []
gate_values-push inputs gates gate = fold-append (λ older g. older ++ gate_value inputs older g ∷ []) [] gates (gate ∷ [])

pub value_of-pushed : (graph : Graph) (gate : Gate) (inputs : List Bool) (l : Literal) → IsOwn graph l → value_of (pushed_gate graph gate) inputs l ≡ value_of graph inputs l
value_of-pushed graph gate inputs l own =
    let vs = gate_values inputs graph.gates in
    ap (λ all. literal_value inputs all l) (gate_values-push inputs graph.gates gate)
    ∙ literal_value-append inputs vs (gate_value inputs vs gate ∷ []) graph.inputs (length graph.gates)
    (omega (arith, length-gate_values inputs graph.gates)) l own

pub gate_value-pushed : (inputs : List Bool) (gates : List Gate) (n : ℕ) (gate : Gate) → OperandsAmong n (length gates) gate → gate_value inputs (gate_values inputs (gates ++ gate ∷ [])) gate ≡ gate_value inputs (gate_values inputs gates) gate
gate_value-pushed inputs gates n gate own =
    let vs = gate_values inputs gates in
    ap (λ all. gate_value inputs all gate) (gate_values-push inputs gates gate)
    ∙ gate_value-append inputs vs (gate_value inputs vs gate ∷ []) n (length gates) (omega (arith, length-gate_values inputs gates)) gate own

pub Keeps-pushed : (graph : Graph) (gate : Gate) → Keeps graph_state graph (pushed_gate graph gate)
Keeps-pushed graph gate =
    record {
      literals = λ l own.
          subst (λ k. IsAmong graph.inputs k l.node) (sym (length_push graph.gates gate))
          (IsAmong-later graph.inputs (length graph.gates) (length graph.gates + 1) (omega arith) l.node own);
      admitted = λ inputs _. tt;
      admits_no_more = λ inputs _. tt;
      values = λ inputs l _ own. value_of-pushed graph gate inputs l own;
      known = λ inputs l own. ap certain (value_of-pushed graph gate inputs l own);
    }

-- the number of elements that were dropped from a list, told by what is left of long ones
pub count_from_rests : (m n : ℕ) → ((inputs : List Bool) → drop m inputs ≡ drop n inputs) → m ≡ n
count_from_rests m n same =
    let long : List Bool = replicate (m + n) false in
    let count : length long ≡ m + n = length-replicate (m + n) false in
    let rests : length (drop m long) ≡ length (drop n long) = ap length (same long) in
    omega (arith, length-drop m long, length-drop n long)
