-- What the parser reads as a term is what the grammar spells with the tokens that it takes.
use Rattle.rule_terms.proofs.Common.{◌≡◌, ℕ, zero, suc, ◌+◌, ◌<◌, ◌≤◌, List, [], ◌∷◌, ◌++◌, length, Option, Some, None, Ok, refl, sym, ap, subst, ◌∙◌, append_assoc, length-append, arith, codes, Opcode, Function, Token, Register, Word, Mark, bound, read_as, TermPlace, RawNode, Start, Leaf, Prefix, Parenthesis, Call, Width, last_place, SpellsTerm, leaf, width, parenthesised, called, prefixed, tighter, mark_at, start_at, measured_at, operator_at, join, joined_or_end, behind_at, operand_at, add_unary, inside_at, shallow_in, primary_at, operator_mark, loosest, Limits}
use Rattle.rule_terms.specs.declared.raw.RawNode.TheVariants as raw_nodes
use Rattle.rule_terms.specs.Grammar.{joined}
use Rattle.rule_terms.specs.TermReaders.{Reader, chain_at, begun_at}
use Rattle.rule_terms.proofs.Meanings.{IsNext, operator_at-is}
use Rattle.rule_terms.proofs.Starts.{Starts, mark_at-is, measured_at-is, start_at-is}

module _ (limits : Limits) where
  -- nodes are appended, and the tokens that were taken spell them
  pub record Adds (place : TermPlace) (nesting level : ℕ) (before : List RawNode) (tokens : List Token) (x : List RawNode × List Token) : Type 0 where
    pub nodes : List RawNode
    pub own : List Token
    pub is_own : SpellsTerm limits place nesting (length before) level nodes own
    pub made : x.0 ≡ before ++ nodes
    pub whole : tokens ≡ own ++ x.1

  -- all that the parser reads is spelled so
  abbrev pub Reads : TermPlace → ℕ → ℕ → Reader → Type 0
  Reads place nesting level read = (before : List RawNode) (tokens : List Token) (x : List RawNode × List Token) → read before tokens ≡ Ok x → Adds place nesting level before tokens x

  -- ---- binary operators

  pub join_made : (op : Opcode) (before left right : List RawNode) →
      join op (before ++ left) ((before ++ left) ++ right)
      ≡ before ++ (left ++ right ++ raw_nodes.Binary op (last_place (length before + length left)) (last_place (length before + length left + length right)) ∷ [])
  join_made op before left right =
      let one : length (before ++ left) ≡ length before + length left = length-append before left in
      let both : length ((before ++ left) ++ right) ≡ length before + length left + length right = length-append (before ++ left) right ∙ ap (λ (n : ℕ). n + length right) one in
      rw (one, both) (simp append_assoc)

  adds_joined : {place : TermPlace} {nesting level : ℕ} {before left : List RawNode} {tokens behind : List Token} (next : Opcode × List Token) (both : List RawNode × List Token) → Adds place nesting (suc level) before tokens (left, behind) → IsNext (suc level) behind next → Adds place nesting level left next.1 both
      → Adds place nesting (suc level) before tokens (join next.0 left both.0, both.1)
  adds_joined {place} {nesting} {level} {before} {left} {tokens} {behind} next both a n b =
      let start : length left ≡ length before + length a.nodes = ap length a.made ∙ length-append before a.nodes in
      record {
        nodes = a.nodes ++ b.nodes ++ raw_nodes.Binary next.0 (last_place (length before + length a.nodes)) (last_place (length before + length a.nodes + length b.nodes)) ∷ [];
        own = a.own ++ Mark (operator_mark next.0) ∷ b.own;
        is_own = joined next.0 n.is_level a.is_own (subst (λ (k : ℕ). SpellsTerm limits place nesting k level b.nodes b.own) start b.is_own);
        made = ap (join next.0 left) b.made ∙ ap (λ (ns : List RawNode). join next.0 ns (ns ++ b.nodes)) a.made ∙ join_made next.0 before a.nodes b.nodes;
        whole = a.whole ∙ ap (λ (ts : List Token). a.own ++ ts) (n.whole ∙ ap (λ (ts : List Token). Mark (operator_mark next.0) ∷ ts) b.whole) ∙ sym (append_assoc a.own (Mark (operator_mark next.0) ∷ b.own) both.1);
      }

  -- an operator with its right operand is read, and then what is behind them
  further : (place : TermPlace) (nesting level : ℕ) (operand others : Reader) (before left : List RawNode) (tokens behind : List Token) (x : List RawNode × List Token) → Reads place nesting level operand → Adds place nesting (suc level) before tokens (left, behind) → (found : Option (Opcode × List Token)) → operator_at (suc level) behind ≡ found
      → joined_or_end operand others left behind found ≡ Ok x → ((ls : List RawNode) (ts : List Token) → Adds place nesting (suc level) before tokens (ls, ts) → others ls ts ≡ Ok x → Adds place nesting (suc level) before tokens x) → Adds place nesting (suc level) before tokens x
  further place nesting level operand others before left tokens behind x reads a None f e more = read_as (Adds place nesting (suc level) before tokens) (left, behind) x e a
  further place nesting level operand others before left tokens behind x reads a (Some next) f e more =
      bound (operand left next.1) _ _ e (λ both p e1.
      more (join next.0 left both.0) both.1 (adds_joined next both a (operator_at-is (suc level) behind next f) (reads left next.1 both p)) e1)

  chain_at-is : (place : TermPlace) (nesting level many : ℕ) (operand : Reader) (before left : List RawNode) (tokens behind : List Token) (x : List RawNode × List Token) → Reads place nesting level operand → Adds place nesting (suc level) before tokens (left, behind) → chain_at operand (suc level) many left behind ≡ Ok x
      → Adds place nesting (suc level) before tokens x
  unfolding chain_at
  chain_at-is place nesting level zero operand before left tokens behind x reads a e = read_as (Adds place nesting (suc level) before tokens) (left, behind) x e a
  chain_at-is place nesting level (suc many) operand before left tokens behind x reads a e =
      further place nesting level operand (λ ls ts. chain_at operand (suc level) many ls ts) before left tokens behind x reads a (operator_at (suc level) behind) refl e
      (λ ls ts b f. chain_at-is place nesting level many operand before ls tokens ts x reads b f)

  -- operators behind an operand of level 0
  pub behind_at-is : (place : TermPlace) (nesting level : ℕ) (primary : Reader) (before : List RawNode) (tokens : List Token) (first x : List RawNode × List Token) → Reads place nesting 0 primary → Adds place nesting 0 before tokens first → behind_at primary level first.0 first.1 ≡ Ok x → Adds place nesting level before tokens x
  unfolding behind_at
  behind_at-is place nesting zero primary before tokens first x reads a e = read_as (Adds place nesting 0 before tokens) (first.0, first.1) x e a
  behind_at-is place nesting (suc level) primary before tokens first x reads a e =
      bound (behind_at primary level first.0 first.1) _ _ e (λ y p e1.
      let b = behind_at-is place nesting level primary before tokens first y reads a p in
      chain_at-is place nesting level _ (operand_at primary level) before y.0 tokens y.1 x
      (λ ns ts z q. bound (primary ns ts) _ _ q (λ w r q1. behind_at-is place nesting level primary ns ts w z reads (reads ns ts w r) q1))
      (record { nodes = b.nodes; own = b.own; is_own = tighter b.is_own; made = b.made; whole = b.whole }) e1)

  pub operand_at-is : (place : TermPlace) (nesting level : ℕ) (primary : Reader) → Reads place nesting 0 primary → Reads place nesting level (operand_at primary level)
  operand_at-is place nesting level primary reads before tokens x e =
      bound (primary before tokens) _ _ e (λ y p e1. behind_at-is place nesting level primary before tokens y x reads (reads before tokens y p) e1)

  -- ---- operands of level 0

  pub unary_made : (function : Function) (before nodes : List RawNode) → add_unary function (before ++ nodes) ≡ before ++ (nodes ++ raw_nodes.Unary function (last_place (length before + length nodes)) ∷ [])
  unary_made function before nodes = rw (length-append before nodes) (append_assoc before nodes _)

  inside_at-is : (place : TermPlace) (nesting line : ℕ) (primary : Reader) (before : List RawNode) (tokens : List Token) (x : List RawNode × List Token) → Reads place nesting 0 primary → inside_at line primary before tokens ≡ Ok x → Adds place nesting loosest before tokens (x.0, Mark (codes ")") ∷ x.1)
  inside_at-is place nesting line primary before tokens x reads e =
      bound (operand_at primary loosest before tokens) _ _ e (λ inside p e1.
      bound (mark_at (codes ")") line inside.1) _ _ e1 (λ behind m e2.
      let a = operand_at-is place nesting loosest primary reads before tokens inside p in
      read_as (λ (y : List RawNode × List Token). Adds place nesting loosest before tokens (y.0, Mark (codes ")") ∷ y.1)) (inside.0, behind) x e2
      (record { nodes = a.nodes; own = a.own; is_own = a.is_own; made = a.made; whole = a.whole ∙ ap (λ (ts : List Token). a.own ++ ts) (mark_at-is limits (codes ")") line inside.1 behind m) })))

  begun_at-is : (place : TermPlace) (nesting line : ℕ) (primary : Reader) (before : List RawNode) (start : Start) (tokens rest : List Token) (x : List RawNode × List Token) → Reads place nesting 0 primary → Starts limits place start tokens rest → begun_at limits line primary before start rest ≡ Ok x → Adds place (suc nesting) 0 before tokens x
  begun_at-is place nesting line primary before (Leaf node) tokens rest x reads (own, spelled, whole) e =
      read_as (Adds place (suc nesting) 0 before tokens) (before ++ node ∷ [], rest) x e
      (record { nodes = node ∷ []; own = own; is_own = leaf node own spelled; made = refl; whole = whole })
  begun_at-is place nesting line primary before (Prefix function) tokens rest x reads (mark, is, whole) e =
      bound (primary before rest) _ _ e (λ y p e1.
      let a = reads before rest y p in
      read_as (Adds place (suc nesting) 0 before tokens) (add_unary function y.0, y.1) x e1
      (record {
        nodes = a.nodes ++ raw_nodes.Unary function (last_place (length before + length a.nodes)) ∷ [];
        own = Mark mark ∷ a.own;
        is_own = prefixed function mark is a.is_own;
        made = ap (add_unary function) a.made ∙ unary_made function before a.nodes;
        whole = whole ∙ ap (λ (ts : List Token). Mark mark ∷ ts) a.whole;
      }))
  begun_at-is place nesting line primary before Parenthesis tokens rest x reads whole e =
      let a = inside_at-is place nesting line primary before rest x reads e in
      record {
        nodes = a.nodes;
        own = Mark (codes "(") ∷ a.own ++ Mark (codes ")") ∷ [];
        is_own = parenthesised a.is_own;
        made = a.made;
        whole = whole ∙ ap (λ (ts : List Token). Mark (codes "(") ∷ ts) (a.whole ∙ sym (append_assoc a.own (Mark (codes ")") ∷ []) x.1));
      }
  begun_at-is place nesting line primary before (Call function) tokens rest x reads (word, is, whole) e =
      bound (inside_at line primary before rest) _ _ e (λ y p e1.
      let a = inside_at-is place nesting line primary before rest y reads p in
      read_as (Adds place (suc nesting) 0 before tokens) (add_unary function y.0, y.1) x e1
      (record {
        nodes = a.nodes ++ raw_nodes.Unary function (last_place (length before + length a.nodes)) ∷ [];
        own = Word word ∷ Mark (codes "(") ∷ a.own ++ Mark (codes ")") ∷ [];
        is_own = called function word is a.is_own;
        made = ap (add_unary function) a.made ∙ unary_made function before a.nodes;
        whole = whole ∙ ap (λ (ts : List Token). Word word ∷ Mark (codes "(") ∷ ts) (a.whole ∙ sym (append_assoc a.own (Mark (codes ")") ∷ []) y.1));
      }))
  begun_at-is place nesting line primary before Width tokens rest x reads whole e =
      bound (measured_at limits line rest) _ _ e (λ y p e1.
      let m = measured_at-is limits line rest y p in
      read_as (Adds place (suc nesting) 0 before tokens) (before ++ raw_nodes.Width y.0 ∷ [], y.1) x e1
      (record {
        nodes = raw_nodes.Width y.0 ∷ [];
        own = Word (codes "width") ∷ Mark (codes "(") ∷ Register y.0 ∷ Mark (codes ")") ∷ [];
        is_own = width y.0 m.0;
        made = refl;
        whole = whole ∙ ap (λ (ts : List Token). Word (codes "width") ∷ Mark (codes "(") ∷ ts) m.1;
      }))

  shallow_in-is : (place : TermPlace) (line : ℕ) (before : List RawNode) (start : Start) (tokens rest : List Token) (nodes : List RawNode) → Starts limits place start tokens rest → shallow_in line before start ≡ Ok nodes → Adds place 0 0 before tokens (nodes, rest)
  shallow_in-is place line before (Leaf node) tokens rest nodes (own, spelled, whole) e =
      read_as (λ (ns : List RawNode). Adds place 0 0 before tokens (ns, rest)) (before ++ node ∷ []) nodes e
      (record { nodes = node ∷ []; own = own; is_own = leaf node own spelled; made = refl; whole = whole })
  shallow_in-is place line before (Prefix function) tokens rest nodes s e = absurd cc
  shallow_in-is place line before Parenthesis tokens rest nodes s e = absurd cc
  shallow_in-is place line before (Call function) tokens rest nodes s e = absurd cc
  shallow_in-is place line before Width tokens rest nodes s e = absurd cc

  pub primary_at-is : (place : TermPlace) (line nesting : ℕ) → Reads place nesting 0 (primary_at limits place line nesting)
  unfolding primary_at
  primary_at-is place line zero before tokens x e =
      bound (start_at limits place line tokens) _ _ e (λ s p e1.
      bound (shallow_in line before s.0) _ _ e1 (λ nodes q e2.
      read_as (Adds place 0 0 before tokens) (nodes, s.1) x e2 (shallow_in-is place line before s.0 tokens s.1 nodes (start_at-is limits place line tokens s p) q)))
  primary_at-is place line (suc nesting) before tokens x e =
      bound (start_at limits place line tokens) _ _ e (λ s p e1.
      begun_at-is place nesting line (primary_at limits place line nesting) before s.0 tokens s.1 x (primary_at-is place line nesting) (start_at-is limits place line tokens s p) e1)

  -- ---- each operand takes a token

  pub spells_some : {place : TermPlace} {nesting start level : ℕ} {nodes : List RawNode} {tokens : List Token} → SpellsTerm limits place nesting start level nodes tokens → 1 ≤ length tokens
  spells_some (leaf (raw_nodes.Literal z) tokens (text, value, is)) = rw is (omega arith)
  spells_some (leaf (raw_nodes.Constant name) tokens (constant, le, is)) = rw is (omega arith)
  spells_some (leaf (raw_nodes.Register name) tokens (witness, le, is)) = rw is (omega arith)
  spells_some (leaf (raw_nodes.Choice k) tokens (word, witness, choice, le, is)) = rw is (omega arith)
  spells_some (leaf node tokens is) = absurd is
  spells_some (width name le) = omega arith
  spells_some (parenthesised s) = omega arith
  spells_some (called function word is s) = omega arith
  spells_some (prefixed function mark is s) = omega arith
  spells_some (tighter s) = spells_some s
  spells_some (joined {front = front} {back = back} op is a b) = omega (arith, spells_some a, length-append front (Mark (operator_mark op) ∷ back))

  pub adds_shorter : {place : TermPlace} {nesting level : ℕ} {before : List RawNode} {tokens : List Token} {x : List RawNode × List Token} → Adds place nesting level before tokens x → length x.1 < length tokens
  adds_shorter {x = x} a = omega (arith, spells_some a.is_own, ap length a.whole, length-append a.own x.1)

  pub operand_shorter : (place : TermPlace) (line nesting level : ℕ) (before : List RawNode) (tokens : List Token) (x : List RawNode × List Token) → operand_at (primary_at limits place line nesting) level before tokens ≡ Ok x → length x.1 < length tokens
  operand_shorter place line nesting level before tokens x e = adds_shorter (operand_at-is place nesting level (primary_at limits place line nesting) (primary_at-is place line nesting) before tokens x e)
