-- The grammar of terms, with the nodes that each production gives.
use Rattle.std.specs.Prelude.{◌≡◌, ℕ, suc, ◌+◌, ◌-◌, ◌≤◌, IsTrue, List, [], ◌∷◌, ◌++◌, length, None, codes}
use Rattle.ops.specs.declared.opcode.Opcode.{Opcode}
use Rattle.rule_core.specs.declared.rule.Function.{Function}
use Rattle.scan.specs.RuleTokens.{is_constant}
use Rattle.rule_tokens.specs.Limits.{Limits}
use Rattle.rule_tokens.specs.Numbers.{literal_value}
use Rattle.rule_tokens.specs.Parts.{Part, Is}
use Rattle.rule_tokens.specs.Tokens.{Token, Register as RegisterToken, Word, Number, Mark}
use Rattle.rule_terms.specs.declared.place.TermPlace.{TermPlace}
use Rattle.rule_terms.specs.declared.place.TermPlace.TheVariants.{Witness}
use Rattle.rule_terms.specs.declared.raw.RawNode.{RawNode}
use Rattle.rule_terms.specs.declared.raw.RawNode.TheVariants.{Literal, Constant, Register, Choice, Width, Unary, Binary}
use Rattle.rule_terms.specs.Keywords.{operator_mark, operator_in, level_of, loosest, IsPrefix, IsCalled, held_place, IsChoice}

-- the place of the last of `count` nodes, as a rule holds it
abbrev pub last_place : ℕ → ℕ
last_place count = held_place (count - 1)

-- a node of one token: a literal or a constant, and in `Wit:` also a register or a choice of the target
abbrev pub SpellsLeaf : Limits → TermPlace → RawNode → Part
SpellsLeaf limits place (Literal z) tokens = (text : List ℕ) × (z ≡ literal_value text) × Is (Number text) tokens
SpellsLeaf limits place (Constant name) tokens = IsTrue (is_constant name) × (length name ≤ limits.name_bytes) × Is (Word name) tokens
SpellsLeaf limits place (Register name) tokens = (place ≡ Witness) × (length name ≤ limits.name_bytes) × Is (RegisterToken name) tokens
SpellsLeaf limits place (Choice k) tokens = (word : List ℕ) × (place ≡ Witness) × IsChoice word k × (length word ≤ limits.name_bytes) × Is (Word word) tokens
SpellsLeaf limits place node tokens = ⊥

-- The tokens spell a term with these nodes, each behind its operands, the first at the place `start`. At most `nesting`
-- more parentheses and unary operators are open at a token, and outside parentheses no binary operator binds looser
-- than `level`; at level 0 there is none.
pub data SpellsTerm (limits : Limits) (place : TermPlace) : ℕ → ℕ → ℕ → List RawNode → List Token → Type 0 where
  leaf : {nesting start : ℕ} (node : RawNode) (tokens : List Token)
      → SpellsLeaf limits place node tokens
      → SpellsTerm limits place nesting start 0 (node ∷ []) tokens
  -- 'width' '(' REG ')'
  width : {nesting start : ℕ} (name : List ℕ) → length name ≤ limits.name_bytes
      → SpellsTerm limits place (suc nesting) start 0 (Width name ∷ []) (Word (codes "width") ∷ Mark (codes "(") ∷ RegisterToken name ∷ Mark (codes ")") ∷ [])
  -- '(' term ')'
  parenthesised : {nesting start : ℕ} {nodes : List RawNode} {tokens : List Token}
      → SpellsTerm limits place nesting start loosest nodes tokens
      → SpellsTerm limits place (suc nesting) start 0 nodes (Mark (codes "(") ∷ tokens ++ Mark (codes ")") ∷ [])
  -- ('log2' | 'abs') '(' term ')'
  called : {nesting start : ℕ} {nodes : List RawNode} {tokens : List Token} (function : Function) (word : List ℕ)
      → IsCalled function word
      → SpellsTerm limits place nesting start loosest nodes tokens
      → SpellsTerm limits place (suc nesting) start 0 (nodes ++ Unary function (last_place (start + length nodes)) ∷ [])
      (Word word ∷ Mark (codes "(") ∷ tokens ++ Mark (codes ")") ∷ [])
  -- ('-' | '~') and an operand without binary operators outside parentheses
  prefixed : {nesting start : ℕ} {nodes : List RawNode} {tokens : List Token} (function : Function) (mark : List ℕ)
      → IsPrefix function mark
      → SpellsTerm limits place nesting start 0 nodes tokens
      → SpellsTerm limits place (suc nesting) start 0 (nodes ++ Unary function (last_place (start + length nodes)) ∷ []) (Mark mark ∷ tokens)
  -- a term of a tighter level
  tighter : {nesting start level : ℕ} {nodes : List RawNode} {tokens : List Token}
      → SpellsTerm limits place nesting start level nodes tokens
      → SpellsTerm limits place nesting start (suc level) nodes tokens
  -- a binary operator of the level, left-associative
  joined : {nesting start level : ℕ} {left right : List RawNode} {front back : List Token} (op : Opcode)
      → level_of op ≡ suc level
      → SpellsTerm limits place nesting start (suc level) left front
      → SpellsTerm limits place nesting (start + length left) level right back
      → SpellsTerm limits place nesting start (suc level)
      (left ++ right ++ Binary op (last_place (start + length left)) (last_place (start + length left + length right)) ∷ [])
      (front ++ Mark (operator_mark op) ∷ back)

-- a whole term
abbrev pub SpellsWholeTerm : Limits → TermPlace → ℕ → List RawNode → Part
SpellsWholeTerm limits place nesting nodes = SpellsTerm limits place nesting 0 loosest nodes

-- no binary operator is next
abbrev pub EndsTerm : List Token → Type 0
EndsTerm (Mark mark ∷ rest) = operator_in mark ≡ None
EndsTerm tokens = Unit {0}
