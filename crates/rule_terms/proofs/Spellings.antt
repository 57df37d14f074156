-- What the grammar spells as a term is read, where no operator that binds tighter than its level is next behind it.
use Rattle.rule_terms.proofs.Common.{◌≡◌, ℕ, zero, suc, ◌+◌, ◌<◌, List, [], ◌∷◌, ◌++◌, length, None, Result, Ok, Err, refl, sym, ap, ◌∙◌, append_assoc, length-append, subst, arith, codes, ne_eqb, Opcode, Function, RuleFault, ◌>>=◌, Token, Register, Word, Mark, TermPlace, RawNode, Leaf, Prefix, Parenthesis, Call, Width, last_place, SpellsTerm, leaf, width, parenthesised, called, prefixed, tighter, SpellsWholeTerm, EndsTerm, mark_at, start_at, operator_at, join, whole_chain_at, behind_at, operand_at, add_unary, inside_at, primary_at, term_at, operator_mark, operator_in, level_of, loosest, Limits}
use Rattle.rule_terms.specs.declared.raw.RawNode.TheVariants as raw_nodes
use Rattle.rule_terms.specs.Grammar.{joined}
use Rattle.rule_terms.specs.TermReaders.{Reader}
use Rattle.rule_terms.proofs.Chains.{chain-more, chain-done}
use Rattle.rule_terms.proofs.Meanings.{operator_in-of, operator_at-of}
use Rattle.rule_terms.proofs.Readings.{Adds, join_made, unary_made, operand_shorter, operand_at-is, primary_at-is}
use Rattle.rule_terms.proofs.Starts.{mark_at-of, measured_at-of, start_at-of}

module _ (limits : Limits) where
  -- no operator of a level below this one is next
  abbrev NotTighter : ℕ → List Token → Type 0
  NotTighter level rest = (k : ℕ) → k < level → operator_at k rest ≡ None

  -- what is behind an operand: operators of this level alone
  abbrev goes_on_at : Reader → ℕ → Reader
  goes_on_at primary zero left tokens = Ok (left, tokens)
  goes_on_at primary (suc level) left tokens = whole_chain_at (operand_at primary level) (suc level) left tokens

  goes_on-done : (primary : Reader) (level : ℕ) (left : List RawNode) (tokens : List Token) → operator_at level tokens ≡ None → goes_on_at primary level left tokens ≡ Ok (left, tokens)
  goes_on-done primary zero left tokens none = refl
  goes_on-done primary (suc level) left tokens none = chain-done limits (operand_at primary level) (suc level) left tokens none

  bind_assoc : {A B C : Type 0} (r : Result A RuleFault) (f : A → Result B RuleFault) (g : B → Result C RuleFault) → (r >>= λ x. (f x >>= g)) ≡ ((r >>= f) >>= g)
  bind_assoc (Ok x) f g = refl
  bind_assoc (Err e) f g = refl

  operand_at-more : (primary : Reader) (level : ℕ) (before : List RawNode) (tokens : List Token) → operand_at primary (suc level) before tokens ≡ (operand_at primary level before tokens >>= λ x. whole_chain_at (operand_at primary level) (suc level) x.0 x.1)
  unfolding behind_at
  operand_at-more primary level before tokens = bind_assoc (primary before tokens) (λ x. behind_at primary level x.0 x.1) (λ x. whole_chain_at (operand_at primary level) (suc level) x.0 x.1)

  alone : (primary : Reader) (before : List RawNode) (tokens : List Token) → operand_at primary 0 before tokens ≡ primary before tokens
  unfolding behind_at
  alone primary before tokens = same (primary before tokens)
    where
      same : (r : Result (List RawNode × List Token) RuleFault) → (r >>= λ x. behind_at primary 0 x.0 x.1) ≡ r
      same (Ok x) = refl
      same (Err e) = refl

  -- an operator has one level only
  other_level : (level k : ℕ) (op : Opcode) (rest : List Token) → level_of op ≡ suc level → k < suc level → operator_at k (Mark (operator_mark op) ∷ rest) ≡ None
  unfolding operator_at
  other_level level k op rest is less = rw (operator_in-of level op is, ne_eqb (level_of op) k (λ same. omega (arith, same, is, less))) refl

  closed : (level : ℕ) (rest : List Token) → operator_at level (Mark (codes ")") ∷ rest) ≡ None
  unfolding operator_at operator_in
  closed level rest = refl

  ended : (level : ℕ) (rest : List Token) → EndsTerm rest → operator_at level rest ≡ None
  unfolding operator_at
  ended level (Mark mark ∷ rest) ends = rw ends refl
  ended level rest ends = refl

  -- ---- operands of level 0

  leaf_read : (place : TermPlace) (line nesting : ℕ) (before : List RawNode) (node : RawNode) (tokens rest : List Token) → start_at limits place line tokens ≡ Ok (Leaf node, rest) → primary_at limits place line nesting before tokens ≡ Ok (before ++ node ∷ [], rest)
  unfolding primary_at
  leaf_read place line zero before node tokens rest e = rw e refl
  leaf_read place line (suc nesting) before node tokens rest e = rw e refl

  inside_read : (line : ℕ) (primary : Reader) (before nodes : List RawNode) (tokens rest : List Token) → operand_at primary loosest before (tokens ++ Mark (codes ")") ∷ rest) ≡ Ok (before ++ nodes, Mark (codes ")") ∷ rest) → inside_at line primary before ((tokens ++ Mark (codes ")") ∷ []) ++ rest) ≡ Ok (before ++ nodes, rest)
  inside_read line primary before nodes tokens rest e = rw (append_assoc tokens (Mark (codes ")") ∷ []) rest, e, mark_at-of limits (codes ")") line rest refl) refl

  unary_as : (function : Function) (start : ℕ) (before nodes : List RawNode) → start ≡ length before → add_unary function (before ++ nodes) ≡ before ++ (nodes ++ raw_nodes.Unary function (last_place (start + length nodes)) ∷ [])
  unary_as function start before nodes e = rw e (unary_made limits function before nodes)

  join_as : (op : Opcode) (start : ℕ) (before left right : List RawNode) → start ≡ length before → join op (before ++ left) ((before ++ left) ++ right) ≡ before ++ (left ++ right ++ raw_nodes.Binary op (last_place (start + length left)) (last_place (start + length left + length right)) ∷ [])
  join_as op start before left right e = rw e (join_made limits op before left right)

  starts_behind : (start : ℕ) (before left : List RawNode) → start ≡ length before → start + length left ≡ length (before ++ left)
  starts_behind start before left e = omega (arith, e, length-append before left)

  -- ---- terms

  pub spelled_read : {place : TermPlace} {nesting start level : ℕ} {nodes : List RawNode} {own : List Token} → SpellsTerm limits place nesting start level nodes own → (line : ℕ) (before : List RawNode) (rest : List Token) → start ≡ length before → NotTighter level rest
      → operand_at (primary_at limits place line nesting) level before (own ++ rest) ≡ goes_on_at (primary_at limits place line nesting) level (before ++ nodes) rest
  unfolding primary_at
  spelled_read {place = place} {nesting = nesting} (leaf node own s) line before rest e next =
      alone (primary_at limits place line nesting) before (own ++ rest) ∙ leaf_read place line nesting before node (own ++ rest) rest (start_at-of limits place line (Leaf node) (own ++ rest) rest (own, s, refl))
  spelled_read {place = place} (width {nesting = nesting} name le) line before rest e next =
      alone (primary_at limits place line (suc nesting)) before _
      ∙ rw (start_at-of limits place line Width (Word (codes "width") ∷ Mark (codes "(") ∷ Register name ∷ Mark (codes ")") ∷ rest) (Register name ∷ Mark (codes ")") ∷ rest) refl, measured_at-of limits line name rest le) refl
  spelled_read {place = place} (parenthesised {nesting = nesting} {nodes = nodes} {tokens = tokens} s) line before rest e next =
      let inner = spelled_read s line before (Mark (codes ")") ∷ rest) e (λ k lt. closed k rest) ∙ goes_on-done (primary_at limits place line nesting) loosest (before ++ nodes) (Mark (codes ")") ∷ rest) (closed loosest rest) in
      alone (primary_at limits place line (suc nesting)) before _
      ∙ rw (start_at-of limits place line Parenthesis (Mark (codes "(") ∷ ((tokens ++ Mark (codes ")") ∷ []) ++ rest)) ((tokens ++ Mark (codes ")") ∷ []) ++ rest) refl) (inside_read line (primary_at limits place line nesting) before nodes tokens rest inner)
  spelled_read {place = place} (called {nesting = nesting} {start = start} {nodes = nodes} {tokens = tokens} function word is s) line before rest e next =
      let inner = spelled_read s line before (Mark (codes ")") ∷ rest) e (λ k lt. closed k rest) ∙ goes_on-done (primary_at limits place line nesting) loosest (before ++ nodes) (Mark (codes ")") ∷ rest) (closed loosest rest) in
      alone (primary_at limits place line (suc nesting)) before _
      ∙ rw (start_at-of limits place line (Call function) (Word word ∷ Mark (codes "(") ∷ ((tokens ++ Mark (codes ")") ∷ []) ++ rest)) ((tokens ++ Mark (codes ")") ∷ []) ++ rest) (word, is, refl), inside_read line (primary_at limits place line nesting) before nodes tokens rest inner)
      (ap (λ (ns : List RawNode). Ok (ns, rest)) (unary_as function start before nodes e))
  spelled_read {place = place} (prefixed {nesting = nesting} {start = start} {nodes = nodes} {tokens = tokens} function mark is s) line before rest e next =
      let inner = sym (alone (primary_at limits place line nesting) before (tokens ++ rest)) ∙ spelled_read s line before rest e (λ k lt. next k lt) in
      alone (primary_at limits place line (suc nesting)) before _
      ∙ rw (start_at-of limits place line (Prefix function) (Mark mark ∷ (tokens ++ rest)) (tokens ++ rest) (mark, is, refl), inner) (ap (λ (ns : List RawNode). Ok (ns, rest)) (unary_as function start before nodes e))
  spelled_read {place = place} (tighter {nesting = nesting} {level = level} {nodes = nodes} {tokens = tokens} s) line before rest e next =
      let inner = spelled_read s line before rest e (λ k lt. next k (omega arith)) ∙ goes_on-done (primary_at limits place line nesting) level (before ++ nodes) rest (next level (omega arith)) in
      operand_at-more (primary_at limits place line nesting) level before (tokens ++ rest) ∙ rw inner refl
  spelled_read {place = place} (joined {nesting = nesting} {start = start} {level = level} {left = left} {right = right} {front = front} {back = back} op is a b) line before rest e next =
      let first = spelled_read a line before (Mark (operator_mark op) ∷ (back ++ rest)) e (λ k lt. other_level level k op (back ++ rest) is lt) in
      let second = spelled_read b line (before ++ left) rest (starts_behind start before left e) (λ k lt. next k (omega arith)) ∙ goes_on-done (primary_at limits place line nesting) level ((before ++ left) ++ right) rest (next level (omega arith)) in
      rw (append_assoc front (Mark (operator_mark op) ∷ back) rest)
      (first
      ∙ chain-more limits (operand_at (primary_at limits place line nesting) level) (suc level) (before ++ left) (Mark (operator_mark op) ∷ (back ++ rest)) (op, back ++ rest) ((before ++ left) ++ right, rest) (operand_shorter limits place line nesting level) (operator_at-of level op (back ++ rest) is) second
      ∙ ap (λ (ns : List RawNode). whole_chain_at (operand_at (primary_at limits place line nesting) level) (suc level) ns rest) (join_as op start before left right e))

  -- ---- whole terms

  pub term_at-of : (place : TermPlace) (nesting line : ℕ) (nodes : List RawNode) (own rest : List Token) → SpellsWholeTerm limits place nesting nodes own → EndsTerm rest → term_at limits place nesting line (own ++ rest) ≡ Ok (nodes, rest)
  unfolding term_at
  term_at-of place nesting line nodes own rest s ends =
      spelled_read s line [] rest refl (λ k lt. ended k rest ends) ∙ goes_on-done (primary_at limits place line nesting) loosest nodes rest (ended loosest rest ends)

  -- the nodes that are read are those that the tokens that were taken spell
  pub record TakesTerm (place : TermPlace) (nesting : ℕ) (tokens : List Token) (x : List RawNode × List Token) : Type 0 where
    pub own : List Token
    pub is_own : SpellsWholeTerm limits place nesting x.0 own
    pub whole : tokens ≡ own ++ x.1

  takes_of : {place : TermPlace} {nesting : ℕ} {tokens : List Token} {x : List RawNode × List Token} → Adds limits place nesting loosest [] tokens x → TakesTerm place nesting tokens x
  takes_of {place} {nesting} {tokens} {x} a = record { own = a.own; is_own = subst (λ (ns : List RawNode). SpellsWholeTerm limits place nesting ns a.own) (sym a.made) a.is_own; whole = a.whole }

  pub term_at-is : (place : TermPlace) (nesting line : ℕ) (tokens : List Token) (x : List RawNode × List Token) → term_at limits place nesting line tokens ≡ Ok x → TakesTerm place nesting tokens x
  unfolding term_at
  term_at-is place nesting line tokens x e = takes_of (operand_at-is limits place nesting loosest (primary_at limits place line nesting) (primary_at-is limits place line nesting) [] tokens x e)
