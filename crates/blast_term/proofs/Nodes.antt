-- The value of a node of a term, shown from the literals of what it reads.
use Rattle.blast_term.proofs.Common.{◌≡◌, ℕ, Bool, List, map, length, Some, sym, ap, ◌∙◌, slice_get, slice_index, option_map, option_map_or, unwrap_or, slice_get-map, same_Some, Number, bits, Poison, Bits, Value, Register, Function, Term, value_of, Meanings, number_at, number_or_zero, value_at, function_value, node_gives, term_value, Held, held_value, IsOwn, number_held, word_value, Scope, held_at, seen, ScopeIsOwn, HasWord, MeansNames}
use Rattle.rule_core.specs.declared.rule.Register.TheVariants as registers
use Rattle.rule_core.specs.declared.rule.Node.TheVariants as nodes
use Rattle.blast_term.proofs.Turns.{value_there, own_from_get}

-- a word that is read has the width that is told of it
pub width_of_word : {L : Type 0} (words : List (List L)) (k N : ℕ) (word : List L) → HasWord words k N → slice_get words k ≡ Some word → length word ≡ N
width_of_word words k N word has at = ap length (same_Some word has.0 (sym at ∙ has.1)) ∙ has.2

pub width_of_register : {L : Type 0} (scope : Scope L) (r : Register) (N : ℕ) (h : Held L) → (held : Held L) × (held_at scope r ≡ Some held) × (length held.bits ≡ N) → held_at scope r ≡ Some h → length h.bits ≡ N
width_of_register scope r N h has at = ap (λ (x : Held _). length x.bits) (same_Some h has.0 (sym at ∙ has.1)) ∙ has.2

-- the literals of a register are a circuit's own where those of its scope are
pub register_own : {L : Type 0} (has_literal : L → Type 0) (scope : Scope L) (r : Register) (h : Held L) → ScopeIsOwn has_literal scope → held_at scope r ≡ Some h → IsOwn has_literal h
register_own has_literal scope (registers.Input k) h own at = own_from_get (IsOwn has_literal) scope.inputs.now k h own.inputs at
register_own has_literal scope (registers.Source k) h own at = own_from_get (IsOwn has_literal) scope.source.now k h own.source at
register_own has_literal scope (registers.Target k) h own at = own_from_get (IsOwn has_literal) scope.target.now k h own.target at

word_read : {L : Type 0} (value : L → Bool) (words : List (List L)) (numbers : List Number) (k : ℕ) (word : List L) → numbers ≡ map (number_held value) words → slice_get words k ≡ Some word → word_value value word ≡ number_at numbers k
word_read value words numbers k word is at =
    ap (λ o. option_map_or Bits o Poison) (sym (slice_get-map (number_held value) words k ∙ ap (option_map (number_held value)) at)) ∙ ap (λ ns. number_at ns k) (sym is)

pub seen_read : {L : Type 0} (value : L → Bool) (scope : Scope L) (r : Register) (h : Held L) → held_at scope r ≡ Some h → value_of (seen value scope) r ≡ Some (held_value value h)
seen_read value scope (registers.Input k) h at = slice_get-map (held_value value) scope.inputs.now k ∙ ap (option_map (held_value value)) at
seen_read value scope (registers.Source k) h at = slice_get-map (held_value value) scope.source.now k ∙ ap (option_map (held_value value)) at
seen_read value scope (registers.Target k) h at = slice_get-map (held_value value) scope.target.now k ∙ ap (option_map (held_value value)) at

module _ {L : Type 0} (value : L → Bool) (typing : List ℕ) (scope : Scope L) (names : Meanings) (before : List Value) (t : Term) where
  pub constant-value : (k : ℕ) (word : List L) → t.node ≡ nodes.Constant k → MeansNames value scope names → slice_get scope.constants.now k ≡ Some word → word_value value word ≡ term_value typing names before t
  constant-value k word is means at =
      word_read value scope.constants.now names.constants k word means.constants at ∙ ap (node_gives typing names before (slice_index typing t.class)) (sym is)

  pub choice-value : (k : ℕ) (word : List L) → t.node ≡ nodes.Choice k → MeansNames value scope names → slice_get scope.choices.now k ≡ Some word → word_value value word ≡ term_value typing names before t
  choice-value k word is means at =
      word_read value scope.choices.now names.choices k word means.choices at ∙ ap (node_gives typing names before (slice_index typing t.class)) (sym is)

  pub register-value : (r : Register) (h : Held L) → t.node ≡ nodes.Register r → MeansNames value scope names → held_at scope r ≡ Some h → length h.bits ≡ slice_index typing t.class → bits (length h.bits) (number_or_zero (held_value value h)) ≡ term_value typing names before t
  register-value r h is means at width =
      ap (λ M. bits M (number_or_zero (held_value value h))) width
      ∙ ap (λ v. bits (slice_index typing t.class) (number_or_zero v)) (sym (means.registers r ∙ ap (λ o. unwrap_or o Poison) (seen_read value scope r h at)))
      ∙ ap (node_gives typing names before (slice_index typing t.class)) (sym is)

pub unary-value : {L : Type 0} (value : L → Bool) (typing : List ℕ) (names : Meanings) (before : List (Held L)) (t : Term) (function : Function) (a N : ℕ) (x : Held L) → t.node ≡ nodes.Unary function a → N ≡ slice_index typing t.class → slice_get before a ≡ Some x → function_value function N (held_value value x) ≡ term_value typing names (map (held_value value) before) t
unary-value value typing names before t function a N x is width at =
    ap (λ v. function_value function N v) (sym (value_there value before a x at))
    ∙ ap (λ M. function_value function M (value_at (map (held_value value) before) a)) width
    ∙ ap (node_gives typing names (map (held_value value) before) (slice_index typing t.class)) (sym is)
