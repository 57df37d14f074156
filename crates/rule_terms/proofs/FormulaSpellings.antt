-- What the grammar spells as a formula is read, where the token behind doesn't go on with a term.
use Rattle.rule_terms.proofs.Common.{◌≡◌, ℕ, zero, suc, ◌+◌, ◌≤◌, Bool, true, false, List, [], ◌∷◌, ◌++◌, length, Result, Ok, Err, refl, sym, ap, subst, ◌∙◌, ⊎_elim, append_assoc, length-append, arith, codes, list_any, bytes_eq, eqb-true, Opcode, Add, Sub, Mul, UDiv, SDiv, URem, SRem, Shl, LShr, AShr, And, Or, Xor, UMin, UMax, SMin, SMax, Pred, Eq, Ne, Ugt, Uge, Ult, Ule, Sgt, Sge, Slt, Sle, Function, Negate, Log2, Abs, is_digit, is_constant, and_left, list_all, ◌==◌, ◌>>=◌, line_end, Token, Line, Register, Word, Fact, Number, Mark, EndsLine, name_within-of, line_end-of, Constant, RawNode, RawFormula, Compares, Predicate, IsPowerOfTwo, IsSignBit, Sign, next_is, Standing, Outermost, Within, Level, Member, Members, Alternatives, SpellsFormula, SpellsWholeFormula, compares, tests, one_use, masked, non_zero, turns, encloses, member, both, members, either, sign_of, word_sign, opens_behind, opens_formula, comparison_at, compares_at, tests_at, one_use_at, masked_at, non_zero_at, joins, more_members, members_of, more_alternatives, alternatives_of, member_at, outer_member_at, is_outer, or_alternatives, formula_at, comparison_mark, comparison_in, predicate_word, predicate_node, predicate_in, last_place, EndsTerm, SpellsLeaf, SpellsTerm, SpellsWholeTerm, leaf, width, parenthesised, called, prefixed, tighter, operator_mark, operator_in, IsCalled, IsPrefix, zero-add, false≢true, list_any-append, which, same_word, RuleFault, Limits}
use Rattle.rule_core.specs.declared.rule.Function.TheVariants.{Not}
use Rattle.rule_tokens.specs.declared.fact.BitFact.TheVariants as facts
use Rattle.rule_terms.specs.declared.raw.RawNode.TheVariants as raw_nodes
use Rattle.rule_terms.specs.declared.raw.RawFormula.TheVariants as raw
use Rattle.rule_terms.specs.declared.formula_word.Sign.TheVariants as signs
use Rattle.rule_terms.specs.Chains.{Reader, chain_at}
use Rattle.rule_terms.specs.Formulas.{joined}
use Rattle.rule_terms.specs.FormulaReaders.{opening_at}
use Rattle.rule_terms.specs.Grammar.{joined as joined_term}
use Rattle.rule_terms.proofs.ChainLemmas.{Shortens, chain-more, chain-done}
use Rattle.rule_terms.proofs.FormulaReadings.{member_at-is, outer_member_at-is, members_of-is, joins_shortens, operator_made, turned_made, stands_outermost}
use Rattle.rule_terms.proofs.Readings.{spells_some}
use Rattle.rule_terms.proofs.Spellings.{term_at-of}
use Rattle.rule_terms.proofs.Starts.{mark_at-of}

module _ (limits : Limits) where
  -- ---- looking ahead

  opens_step : (depth : ℕ) (token : Token) (tokens : List Token) → opens_formula depth (token ∷ tokens) ≡ opens_behind (sign_of token) depth (λ more. opens_formula more tokens)
  unfolding opens_formula
  opens_step depth token tokens = refl

  -- a token that may stand in terms is skipped
  pub plain_passed : (depth : ℕ) (token : Token) (tokens : List Token) → sign_of token ≡ signs.Plain → opens_formula depth (token ∷ tokens) ≡ opens_formula depth tokens
  plain_passed depth token tokens plain = opens_step depth token tokens ∙ ap (λ (s : Sign). opens_behind s depth (λ more. opens_formula more tokens)) plain

  -- tokens with closed parentheses, none of which stands in formulas alone
  abbrev pub IsPlain : List Token → Type 0
  IsPlain own = (depth : ℕ) (rest : List Token) → opens_formula depth (own ++ rest) ≡ opens_formula depth rest

  plain_one : (token : Token) → sign_of token ≡ signs.Plain → IsPlain (token ∷ [])
  plain_one token plain depth rest = plain_passed depth token rest plain

  plain_more : (token : Token) (own : List Token) → sign_of token ≡ signs.Plain → IsPlain own → IsPlain (token ∷ own)
  plain_more token own plain is depth rest = plain_passed depth token (own ++ rest) plain ∙ is depth rest

  plain_both : (front back : List Token) → IsPlain front → IsPlain back → IsPlain (front ++ back)
  plain_both front back f b depth rest = rw (append_assoc front back rest) (f depth (back ++ rest) ∙ b depth rest)

  plain_enclosed : (own : List Token) → IsPlain own → IsPlain (Mark (codes "(") ∷ own ++ Mark (codes ")") ∷ [])
  unfolding opens_formula
  plain_enclosed own is depth rest = rw (append_assoc own (Mark (codes ")") ∷ []) rest) (is (suc depth) (Mark (codes ")") ∷ rest))

  constant_plain : (word : List ℕ) → is_constant word ≡ true → word_sign word ≡ signs.Plain
  unfolding is_constant
  constant_plain [] e = absurd cc
  constant_plain (b ∷ digits) e = rw (eqb-true b 67 (and_left (b == 67) (list_all is_digit digits) e)) refl

  leaf_plain : (node : RawNode) (own : List Token) → SpellsLeaf limits Constant node own → IsPlain own
  leaf_plain (raw_nodes.Literal z) own (text, value, is) = rw is (plain_one (Number text) refl)
  leaf_plain (raw_nodes.Constant name) own (c, le, is) = rw is (plain_one (Word name) (constant_plain name c))
  leaf_plain (raw_nodes.Register name) own (place, le, is) = absurd cc
  leaf_plain (raw_nodes.Choice k) own (word, place, choice, le, is) = absurd cc
  leaf_plain node own never = absurd never

  operator_plain : (op : Opcode) → sign_of (Mark (operator_mark op)) ≡ signs.Plain
  operator_plain Add = refl
  operator_plain Sub = refl
  operator_plain Mul = refl
  operator_plain UDiv = refl
  operator_plain SDiv = refl
  operator_plain URem = refl
  operator_plain SRem = refl
  operator_plain Shl = refl
  operator_plain LShr = refl
  operator_plain AShr = refl
  operator_plain And = refl
  operator_plain Or = refl
  operator_plain Xor = refl
  operator_plain UMin = refl
  operator_plain UMax = refl
  operator_plain SMin = refl
  operator_plain SMax = refl

  called_plain : (function : Function) (word : List ℕ) → IsCalled function word → sign_of (Word word) ≡ signs.Plain
  called_plain Log2 word is = rw is refl
  called_plain Abs word is = rw is refl
  called_plain Negate word is = absurd is
  called_plain Not word is = absurd is

  prefix_plain : (function : Function) (mark : List ℕ) → IsPrefix function mark → sign_of (Mark mark) ≡ signs.Plain
  prefix_plain Negate mark is = rw is refl
  prefix_plain Not mark is = rw is refl
  prefix_plain Log2 mark is = absurd is
  prefix_plain Abs mark is = absurd is

  pub term_plain : {nesting start level : ℕ} {nodes : List RawNode} {own : List Token} → SpellsTerm limits Constant nesting start level nodes own → IsPlain own
  term_plain (leaf node own is) = leaf_plain node own is
  term_plain (width name le) = plain_more (Word (codes "width")) (Mark (codes "(") ∷ Register name ∷ Mark (codes ")") ∷ []) refl (plain_enclosed (Register name ∷ []) (plain_one (Register name) refl))
  term_plain (parenthesised {tokens} inside) = plain_enclosed tokens (term_plain inside)
  term_plain (called {tokens} function word is inside) = plain_more (Word word) (Mark (codes "(") ∷ tokens ++ Mark (codes ")") ∷ []) (called_plain function word is) (plain_enclosed tokens (term_plain inside))
  term_plain (prefixed {tokens} function mark is operand) = plain_more (Mark mark) tokens (prefix_plain function mark is) (term_plain operand)
  term_plain (tighter term) = term_plain term
  term_plain (joined_term {front} {back} op level left right) = plain_both front (Mark (operator_mark op) ∷ back) (term_plain left) (plain_more (Mark (operator_mark op)) back (operator_plain op) (term_plain right))

  constant_compares : (word : List ℕ) (rest : List Token) → is_constant word ≡ true → opening_at (Word word ∷ rest) ≡ Compares
  unfolding opening_at predicate_in is_constant
  constant_compares [] rest e = absurd cc
  constant_compares (b ∷ digits) rest e = rw (eqb-true b 67 (and_left (b == 67) (list_all is_digit digits) e)) refl

  leaf_compares : (node : RawNode) (own rest : List Token) → SpellsLeaf limits Constant node own → opening_at (own ++ rest) ≡ Compares
  unfolding opening_at predicate_in
  leaf_compares (raw_nodes.Literal z) own rest (text, value, is) = rw is refl
  leaf_compares (raw_nodes.Constant name) own rest (c, le, is) = rw is (constant_compares name rest c)
  leaf_compares (raw_nodes.Register name) own rest (place, le, is) = absurd cc
  leaf_compares (raw_nodes.Choice k) own rest (word, place, choice, le, is) = absurd cc
  leaf_compares node own rest never = absurd never

  called_compares : (function : Function) (word : List ℕ) (rest : List Token) → IsCalled function word → opening_at (Word word ∷ rest) ≡ Compares
  unfolding opening_at predicate_in
  called_compares Log2 word rest is = rw is refl
  called_compares Abs word rest is = rw is refl
  called_compares Negate word rest is = absurd is
  called_compares Not word rest is = absurd is

  prefix_compares : (function : Function) (mark : List ℕ) (rest : List Token) → IsPrefix function mark → opening_at (Mark mark ∷ rest) ≡ Compares
  unfolding opening_at
  prefix_compares Negate mark rest is = rw is refl
  prefix_compares Not mark rest is = rw is refl
  prefix_compares Log2 mark rest is = absurd is
  prefix_compares Abs mark rest is = absurd is

  parenthesis_compares : (own rest : List Token) → IsPlain own → opening_at (Mark (codes "(") ∷ (own ++ Mark (codes ")") ∷ []) ++ rest) ≡ Compares
  unfolding opening_at opens_formula
  parenthesis_compares own rest is =
      let closes : opens_formula 0 ((own ++ Mark (codes ")") ∷ []) ++ rest) ≡ false = rw (append_assoc own (Mark (codes ")") ∷ []) rest) (is 0 (Mark (codes ")") ∷ rest)) in
      rw closes refl

  pub term_compares : {nesting start level : ℕ} {nodes : List RawNode} {own : List Token} → SpellsTerm limits Constant nesting start level nodes own → (rest : List Token) → opening_at (own ++ rest) ≡ Compares
  unfolding opening_at predicate_in
  term_compares (leaf node own is) rest = leaf_compares node own rest is
  term_compares (width name le) rest = refl
  term_compares (parenthesised {tokens} inside) rest = parenthesis_compares tokens rest (term_plain inside)
  term_compares (called {tokens} function word is inside) rest = called_compares function word ((Mark (codes "(") ∷ tokens ++ Mark (codes ")") ∷ []) ++ rest) is
  term_compares (prefixed {tokens} function mark is operand) rest = prefix_compares function mark (tokens ++ rest) is
  term_compares (tighter term) rest = term_compares term rest
  term_compares (joined_term {front} {back} op level left right) rest = rw (append_assoc front (Mark (operator_mark op) ∷ back) rest) (term_compares left (Mark (operator_mark op) ∷ back ++ rest))

  pub comparison_says : (pred : Pred) → sign_of (Mark (comparison_mark pred)) ≡ signs.InFormula
  comparison_says Eq = refl
  comparison_says Ne = refl
  comparison_says Ugt = refl
  comparison_says Uge = refl
  comparison_says Ult = refl
  comparison_says Ule = refl
  comparison_says Sgt = refl
  comparison_says Sge = refl
  comparison_says Slt = refl
  comparison_says Sle = refl

  pub predicate_says : (predicate : Predicate) → sign_of (Word (predicate_word predicate)) ≡ signs.InFormula
  predicate_says IsPowerOfTwo = refl
  predicate_says IsSignBit = refl

  says_now : (depth : ℕ) (token : Token) (tokens : List Token) → sign_of token ≡ signs.InFormula → opens_formula depth (token ∷ tokens) ≡ true
  says_now depth token tokens says = opens_step depth token tokens ∙ ap (λ (s : Sign). opens_behind s depth (λ more. opens_formula more tokens)) says

  pub formula_says : {standing : Standing} {level : Level} {nesting start : ℕ} {nodes : List RawFormula} {own : List Token} → SpellsFormula limits standing level nesting start nodes own → (depth : ℕ) (rest : List Token) → opens_formula depth (own ++ rest) ≡ true
  unfolding opens_formula
  formula_says (compares {front} {back} pred left right) depth rest =
      rw (append_assoc front (Mark (comparison_mark pred) ∷ back) rest) (term_plain left depth (Mark (comparison_mark pred) ∷ back ++ rest) ∙ says_now depth (Mark (comparison_mark pred)) (back ++ rest) (comparison_says pred))
  formula_says (tests {own = own} predicate term) depth rest = says_now depth (Word (predicate_word predicate)) ((Mark (codes "(") ∷ own ++ Mark (codes ")") ∷ []) ++ rest) (predicate_says predicate)
  formula_says (one_use le) depth rest = refl
  formula_says (masked le term) depth rest = refl
  formula_says (non_zero le) depth rest = refl
  formula_says (turns inside) depth rest = refl
  formula_says (encloses {own} inside) depth rest = rw (append_assoc own (Mark (codes ")") ∷ []) rest) (formula_says inside (suc depth) (Mark (codes ")") ∷ rest))
  formula_says (member one) depth rest = formula_says one depth rest
  formula_says (both {front} {back} left right) depth rest = rw (append_assoc front (Mark (codes "&&") ∷ back) rest) (formula_says left depth (Mark (codes "&&") ∷ back ++ rest))
  formula_says (members all) depth rest = formula_says all depth rest
  formula_says (either {front} {back} left right) depth rest = rw (append_assoc front (Mark (codes "||") ∷ back) rest) (formula_says left depth (Mark (codes "||") ∷ back ++ rest))

  -- ---- members

  member_compares : (nesting line : ℕ) (before : List RawFormula) (tokens : List Token) → opening_at tokens ≡ Compares → member_at limits nesting line before tokens ≡ compares_at limits nesting line before tokens
  unfolding member_at
  member_compares zero line before tokens e = rw e refl
  member_compares (suc nesting) line before tokens e = rw e refl

  comparison_ends : (pred : Pred) (rest : List Token) → EndsTerm (Mark (comparison_mark pred) ∷ rest)
  unfolding operator_in
  comparison_ends Eq rest = refl
  comparison_ends Ne rest = refl
  comparison_ends Ugt rest = refl
  comparison_ends Uge rest = refl
  comparison_ends Ult rest = refl
  comparison_ends Ule rest = refl
  comparison_ends Sgt rest = refl
  comparison_ends Sge rest = refl
  comparison_ends Slt rest = refl
  comparison_ends Sle rest = refl

  pub comparison_at-of : (line : ℕ) (pred : Pred) (rest : List Token) → comparison_at line (Mark (comparison_mark pred) ∷ rest) ≡ Ok (pred, rest)
  unfolding comparison_at comparison_in
  comparison_at-of line Eq rest = refl
  comparison_at-of line Ne rest = refl
  comparison_at-of line Ugt rest = refl
  comparison_at-of line Uge rest = refl
  comparison_at-of line Ult rest = refl
  comparison_at-of line Ule rest = refl
  comparison_at-of line Sgt rest = refl
  comparison_at-of line Sge rest = refl
  comparison_at-of line Slt rest = refl
  comparison_at-of line Sle rest = refl

  mark_ends : (rest : List Token) → EndsTerm (Mark (codes ")") ∷ rest) × EndsTerm (Mark (codes "&&") ∷ rest) × EndsTerm (Mark (codes "||") ∷ rest)
  unfolding operator_in
  mark_ends rest = (refl, refl, refl)

  compares_read : (nesting line : ℕ) (before : List RawFormula) (pred : Pred) (left right : List RawNode) (front back rest : List Token) → SpellsWholeTerm limits Constant nesting left front → SpellsWholeTerm limits Constant nesting right back → EndsTerm rest
      → member_at limits nesting line before ((front ++ Mark (comparison_mark pred) ∷ back) ++ rest) ≡ Ok (before ++ raw.Compare pred left right ∷ [], rest)
  unfolding compares_at
  compares_read nesting line before pred left right front back rest l r ends =
      rw (append_assoc front (Mark (comparison_mark pred) ∷ back) rest)
      (member_compares nesting line before (front ++ (Mark (comparison_mark pred) ∷ back ++ rest)) (term_compares l (Mark (comparison_mark pred) ∷ back ++ rest))
      ∙ rw (term_at-of limits Constant nesting line left front (Mark (comparison_mark pred) ∷ back ++ rest) l (comparison_ends pred (back ++ rest)), comparison_at-of line pred (back ++ rest), term_at-of limits Constant nesting line right back rest r ends) refl)

  tests_read : (predicate : Predicate) (nesting line : ℕ) (before : List RawFormula) (term : List RawNode) (own rest : List Token) → SpellsWholeTerm limits Constant nesting term own
      → member_at limits (suc nesting) line before (Word (predicate_word predicate) ∷ Mark (codes "(") ∷ (own ++ Mark (codes ")") ∷ []) ++ rest) ≡ Ok (before ++ predicate_node predicate term ∷ [], rest)
  unfolding member_at opening_at predicate_in tests_at
  tests_read IsPowerOfTwo nesting line before term own rest is =
      rw (append_assoc own (Mark (codes ")") ∷ []) rest, mark_at-of limits (codes "(") line (own ++ Mark (codes ")") ∷ rest) refl, term_at-of limits Constant nesting line term own (Mark (codes ")") ∷ rest) is (mark_ends rest).0, mark_at-of limits (codes ")") line rest refl) refl
  tests_read IsSignBit nesting line before term own rest is =
      rw (append_assoc own (Mark (codes ")") ∷ []) rest, mark_at-of limits (codes "(") line (own ++ Mark (codes ")") ∷ rest) refl, term_at-of limits Constant nesting line term own (Mark (codes ")") ∷ rest) is (mark_ends rest).0, mark_at-of limits (codes ")") line rest refl) refl

  turns_read : (nesting line : ℕ) (before nodes : List RawFormula) (tokens rest : List Token) → member_at limits nesting line before tokens ≡ Ok (before ++ nodes, rest)
      → member_at limits (suc nesting) line before (Mark (codes "!") ∷ tokens) ≡ Ok (before ++ (nodes ++ raw.Not (last_place (length before + length nodes)) ∷ []), rest)
  unfolding member_at opening_at
  turns_read nesting line before nodes tokens rest is = rw is (ap (λ (ns : List RawFormula). Ok (ns, rest)) (turned_made limits before nodes))

  encloses_read : (nesting line : ℕ) (before after : List RawFormula) (own rest : List Token) → opens_formula 0 ((own ++ Mark (codes ")") ∷ []) ++ rest) ≡ true → alternatives_of (member_at limits nesting line) before ((own ++ Mark (codes ")") ∷ []) ++ rest) ≡ Ok (after, Mark (codes ")") ∷ rest)
      → member_at limits (suc nesting) line before (Mark (codes "(") ∷ (own ++ Mark (codes ")") ∷ []) ++ rest) ≡ Ok (after, rest)
  unfolding member_at opening_at
  encloses_read nesting line before after own rest opens is = rw (opens, is, mark_at-of limits (codes ")") line rest refl) refl

  -- ---- chains

  start_behind : (start : ℕ) (before left : List RawFormula) → start ≡ length before → start + length left ≡ length (before ++ left)
  start_behind start before left e = omega (arith, e, length-append before left)

  made_as : (operator : ℕ → ℕ → RawFormula) (start : ℕ) (before left right : List RawFormula) → start ≡ length before →
      ((before ++ left) ++ right) ++ operator (last_place (length (before ++ left))) (last_place (length ((before ++ left) ++ right))) ∷ []
      ≡ before ++ joined operator start left right
  made_as operator start before left right e = operator_made limits operator before left right ∙ ap (λ (k : ℕ). before ++ joined operator k left right) (sym e)

  joined_read : (operator : ℕ → ℕ → RawFormula) (part : Reader (List RawFormula)) (start : ℕ) (before left right : List RawFormula) (tokens rest : List Token) → start ≡ length before → part (before ++ left) tokens ≡ Ok ((before ++ left) ++ right, rest)
      → joins operator part (before ++ left) tokens ≡ Ok (before ++ joined operator start left right, rest)
  joined_read operator part start before left right tokens rest e is = rw is (ap (λ (ns : List RawFormula). Ok (ns, rest)) (made_as operator start before left right e))

  no_mark : (mark : List ℕ) (part : Reader (List RawFormula)) (before : List RawFormula) (rest : List Token) → next_is mark rest ≡ false → chain_at mark part before rest ≡ Ok (before, rest)
  no_mark mark part before rest none = chain-done part mark before rest none

  -- what conjunctions one behind the other read
  members_more : (part : Reader (List RawFormula)) (start : ℕ) (before left right : List RawFormula) (tokens rest : List Token) → Shortens (joins raw.And part) → start ≡ length before → part (before ++ left) tokens ≡ Ok ((before ++ left) ++ right, rest)
      → more_members part (before ++ left) (Mark (codes "&&") ∷ tokens) ≡ more_members part (before ++ joined raw.And start left right) rest
  members_more part start before left right tokens rest short e is =
      chain-more (joins raw.And part) short (codes "&&") (before ++ left) (Mark (codes "&&") ∷ tokens) (before ++ joined raw.And start left right, rest) refl (joined_read raw.And part start before left right tokens rest e is)

  alternatives_more : (part : Reader (List RawFormula)) (start : ℕ) (before left right : List RawFormula) (tokens rest : List Token) → Shortens (joins raw.Or (members_of part)) → start ≡ length before → members_of part (before ++ left) tokens ≡ Ok ((before ++ left) ++ right, rest)
      → more_alternatives part (before ++ left) (Mark (codes "||") ∷ tokens) ≡ more_alternatives part (before ++ joined raw.Or start left right) rest
  alternatives_more part start before left right tokens rest short e is =
      chain-more (joins raw.Or (members_of part)) short (codes "||") (before ++ left) (Mark (codes "||") ∷ tokens) (before ++ joined raw.Or start left right, rest) refl (joined_read raw.Or (members_of part) start before left right tokens rest e is)

  -- ---- formulas

  -- what a formula inside another reads, up to a token that goes on with it
  abbrev pub ReadsTo : Level → ℕ → ℕ → List RawFormula → List Token → List Token → List RawFormula → Type 0
  ReadsTo Member nesting line before own rest after = member_at limits nesting line before (own ++ rest) ≡ Ok (after, rest)
  ReadsTo Members nesting line before own rest after = members_of (member_at limits nesting line) before (own ++ rest) ≡ more_members (member_at limits nesting line) after rest
  ReadsTo Alternatives nesting line before own rest after = next_is (codes "&&") rest ≡ false → alternatives_of (member_at limits nesting line) before (own ++ rest) ≡ more_alternatives (member_at limits nesting line) after rest

  pub within_read : {standing : Standing} {level : Level} {nesting start : ℕ} {nodes : List RawFormula} {own : List Token} → SpellsFormula limits standing level nesting start nodes own → standing ≡ Within → (line : ℕ) (before : List RawFormula) (rest : List Token) → start ≡ length before → EndsTerm rest → ReadsTo level nesting line before own rest (before ++ nodes)
  within_read (compares {nesting} {left = left} {right = right} {front} {back} pred l r) w line before rest e ends = compares_read nesting line before pred left right front back rest l r ends
  within_read (tests {nesting = nesting} {term = term} {own = own} predicate is) w line before rest e ends = tests_read predicate nesting line before term own rest is
  within_read (one_use le) w line before rest e ends = absurd cc
  within_read (masked le is) w line before rest e ends = absurd cc
  within_read (non_zero le) w line before rest e ends = absurd cc
  within_read (turns {nesting = nesting} {start = start} {nodes = nodes} {own = own} inside) w line before rest e ends =
      subst (λ (k : ℕ). member_at limits (suc nesting) line before (Mark (codes "!") ∷ own ++ rest) ≡ Ok (before ++ (nodes ++ raw.Not (last_place (k + length nodes)) ∷ []), rest)) (sym e)
      (turns_read nesting line before nodes (own ++ rest) rest (within_read inside refl line before rest e ends))
  within_read (encloses {nesting = nesting} {nodes = nodes} {own = own} inside) w line before rest e ends =
      let behind : List Token = Mark (codes ")") ∷ rest in
      let read : alternatives_of (member_at limits nesting line) before (own ++ behind) ≡ Ok (before ++ nodes, behind) =
      within_read inside refl line before behind e (mark_ends rest).0 refl ∙ no_mark (codes "||") (joins raw.Or (members_of (member_at limits nesting line))) (before ++ nodes) behind refl in
      encloses_read nesting line before (before ++ nodes) own rest (rw (append_assoc own (Mark (codes ")") ∷ []) rest) (formula_says inside 0 behind)) (rw (append_assoc own (Mark (codes ")") ∷ []) rest) read)
  within_read (member one) w line before rest e ends = rw (within_read one w line before rest e ends) refl
  within_read (both {nesting = nesting} {start = start} {left = left} {right = right} {front = front} {back = back} l r) w line before rest e ends =
      let first = within_read l w line before (Mark (codes "&&") ∷ (back ++ rest)) e (mark_ends (back ++ rest)).1 in
      let second = within_read r w line (before ++ left) rest (start_behind start before left e) ends in
      rw (append_assoc front (Mark (codes "&&") ∷ back) rest)
      (first ∙ members_more (member_at limits nesting line) start before left right (back ++ rest) rest (joins_shortens limits raw.And Within Member nesting (member_at limits nesting line) (member_at-is limits Within nesting line)) e second)
  within_read (members {nesting = nesting} {nodes = nodes} all) w line before rest e ends = λ none.
      rw (within_read all w line before rest e ends, no_mark (codes "&&") (joins raw.And (member_at limits nesting line)) (before ++ nodes) rest none) refl
  within_read (either {nesting = nesting} {start = start} {left = left} {right = right} {front = front} {back = back} l r) w line before rest e ends = λ none.
      let first = within_read l refl line before (Mark (codes "||") ∷ (back ++ rest)) e (mark_ends (back ++ rest)).2 refl in
      let second = within_read r refl line (before ++ left) rest (start_behind start before left e) ends ∙ no_mark (codes "&&") (joins raw.And (member_at limits nesting line)) ((before ++ left) ++ right) rest none in
      rw (append_assoc front (Mark (codes "||") ∷ back) rest)
      (first ∙ alternatives_more (member_at limits nesting line) start before left right (back ++ rest) rest (joins_shortens limits raw.Or Within Members nesting (members_of (member_at limits nesting line)) (members_of-is limits Within nesting (member_at limits nesting line) (member_at-is limits Within nesting line))) e second)

  -- ---- the whole formula

  -- a member that may stand within another is none of those that may not
  ended : opens_formula 0 [] ≡ false
  unfolding opens_formula
  ended = refl

  skips_outer : (line : ℕ) (before : List RawFormula) (own rest : List Token) → IsPlain own → 1 ≤ length own → outer_member_at limits line before (own ++ rest) ≡ member_at limits limits.nested line before (own ++ rest)
  unfolding outer_member_at
  skips_outer line before [] rest plain some = absurd (omega arith)
  skips_outer line before (Word word ∷ own) rest plain some = ⊎_elim
      (λ (is : bytes_eq word (codes "hasOneUse") ≡ true).
      let says : sign_of (Word word) ≡ signs.InFormula = rw (same_word word (codes "hasOneUse") is) refl in
      let opens : opens_formula 0 ((Word word ∷ own) ++ []) ≡ true = says_now 0 (Word word) (own ++ []) says in
      let shut : opens_formula 0 ((Word word ∷ own) ++ []) ≡ false = plain 0 [] ∙ ended in
      absurd (false≢true (sym shut ∙ opens)))
      (λ (no : bytes_eq word (codes "hasOneUse") ≡ false). rw no refl)
      (which (bytes_eq word (codes "hasOneUse")))
  skips_outer line before (Fact fact ∷ own) rest plain some =
      let opens : opens_formula 0 ((Fact fact ∷ own) ++ []) ≡ true = says_now 0 (Fact fact) (own ++ []) refl in
      let shut : opens_formula 0 ((Fact fact ∷ own) ++ []) ≡ false = plain 0 [] ∙ ended in
      absurd (false≢true (sym shut ∙ opens))
  skips_outer line before (token ∷ own) rest plain some = refl

  outer_compares : (line : ℕ) (before : List RawFormula) (nesting : ℕ) (left : List RawNode) (front behind : List Token) → SpellsWholeTerm limits Constant nesting left front → outer_member_at limits line before (front ++ behind) ≡ member_at limits limits.nested line before (front ++ behind)
  outer_compares line before nesting left front behind l = skips_outer line before front behind (term_plain l) (spells_some limits l)

  outer_tests : (line : ℕ) (before : List RawFormula) (predicate : Predicate) (tokens : List Token) → outer_member_at limits line before (Word (predicate_word predicate) ∷ tokens) ≡ member_at limits limits.nested line before (Word (predicate_word predicate) ∷ tokens)
  unfolding outer_member_at
  outer_tests line before IsPowerOfTwo tokens = refl
  outer_tests line before IsSignBit tokens = refl

  outer_mark : (line : ℕ) (before : List RawFormula) (mark : List ℕ) (tokens : List Token) → outer_member_at limits line before (Mark mark ∷ tokens) ≡ member_at limits limits.nested line before (Mark mark ∷ tokens)
  unfolding outer_member_at
  outer_mark line before mark tokens = refl

  one_use_read : (line : ℕ) (before : List RawFormula) (name : List ℕ) (rest : List Token) → length name ≤ limits.name_bytes → outer_member_at limits line before (Word (codes "hasOneUse") ∷ Mark (codes "(") ∷ Register name ∷ Mark (codes ")") ∷ rest) ≡ Ok (before ++ raw.HasOneUse name ∷ [], rest)
  unfolding outer_member_at one_use_at
  one_use_read line before name rest le = rw (mark_at-of limits (codes "(") line (Register name ∷ Mark (codes ")") ∷ rest) refl, name_within-of limits line name le, mark_at-of limits (codes ")") line rest refl) refl

  abbrev masked_tokens : List ℕ → List Token → List Token → List Token
  masked_tokens name own rest = Mark (codes "(") ∷ Register name ∷ Mark (codes ",") ∷ (own ++ Mark (codes ")") ∷ []) ++ rest

  masked_behind : (nesting line : ℕ) (before : List RawFormula) (name : List ℕ) (term : List RawNode) (own rest : List Token) → length name ≤ limits.name_bytes → SpellsWholeTerm limits Constant nesting term own
      → masked_at limits (suc nesting) line before (masked_tokens name own rest) ≡ Ok (before ++ raw.MaskedValueIsZero name term ∷ [], rest)
  unfolding masked_at
  masked_behind nesting line before name term own rest le is =
      let behind : List Token = own ++ Mark (codes ")") ∷ rest in
      rw (
        append_assoc own (Mark (codes ")") ∷ []) rest,
        mark_at-of limits (codes "(") line (Register name ∷ Mark (codes ",") ∷ behind) refl,
        name_within-of limits line name le,
        mark_at-of limits (codes ",") line behind refl,
        term_at-of limits Constant nesting line term own (Mark (codes ")") ∷ rest) is (mark_ends rest).0,
        mark_at-of limits (codes ")") line rest refl,
      ) refl

  masked_read : (nesting line : ℕ) (before : List RawFormula) (name : List ℕ) (term : List RawNode) (own rest : List Token) → suc nesting ≡ limits.nested → length name ≤ limits.name_bytes → SpellsWholeTerm limits Constant nesting term own
      → outer_member_at limits line before (Fact facts.MaskedValueIsZero ∷ masked_tokens name own rest) ≡ Ok (before ++ raw.MaskedValueIsZero name term ∷ [], rest)
  unfolding outer_member_at
  masked_read nesting line before name term own rest deepest le is =
      subst (λ (n : ℕ). masked_at limits n line before (masked_tokens name own rest) ≡ Ok (before ++ raw.MaskedValueIsZero name term ∷ [], rest)) deepest (masked_behind nesting line before name term own rest le is)

  non_zero_read : (line : ℕ) (before : List RawFormula) (name : List ℕ) (rest : List Token) → length name ≤ limits.name_bytes → outer_member_at limits line before (Fact facts.IsKnownNonZero ∷ Mark (codes "(") ∷ Register name ∷ Mark (codes ")") ∷ rest) ≡ Ok (before ++ raw.IsKnownNonZero name ∷ [], rest)
  unfolding outer_member_at non_zero_at
  non_zero_read line before name rest le = rw (mark_at-of limits (codes "(") line (Register name ∷ Mark (codes ")") ∷ rest) refl, name_within-of limits line name le, mark_at-of limits (codes ")") line rest refl) refl

  deep : (nesting line : ℕ) (before : List RawFormula) (tokens : List Token) (x : List RawFormula × List Token) → nesting ≡ limits.nested → member_at limits nesting line before tokens ≡ Ok x → member_at limits limits.nested line before tokens ≡ Ok x
  deep nesting line before tokens x e is = subst (λ (n : ℕ). member_at limits n line before tokens ≡ Ok x) e is

  -- what a formula at the outermost level reads
  abbrev pub OuterReadsTo : Level → ℕ → List RawFormula → List Token → List Token → List RawFormula → Type 0
  OuterReadsTo Member line before own rest after = outer_member_at limits line before (own ++ rest) ≡ Ok (after, rest)
  OuterReadsTo Members line before own rest after = members_of (outer_member_at limits line) before (own ++ rest) ≡ more_members (outer_member_at limits line) after rest
  OuterReadsTo Alternatives line before own rest after = Unit {0}

  pub outer_read : {standing : Standing} {level : Level} {nesting start : ℕ} {nodes : List RawFormula} {own : List Token} → SpellsFormula limits standing level nesting start nodes own → nesting ≡ limits.nested → (line : ℕ) (before : List RawFormula) (rest : List Token) → start ≡ length before → EndsTerm rest → OuterReadsTo level line before own rest (before ++ nodes)
  outer_read (compares {nesting = nesting} {left = left} {right = right} {front = front} {back = back} pred l r) deepest line before rest e ends =
      rw (append_assoc front (Mark (comparison_mark pred) ∷ back) rest)
      (outer_compares line before nesting left front ((Mark (comparison_mark pred) ∷ back) ++ rest) l
      ∙ deep nesting line before (front ++ ((Mark (comparison_mark pred) ∷ back) ++ rest)) (before ++ raw.Compare pred left right ∷ [], rest) deepest (subst (λ (ts : List Token). member_at limits nesting line before ts ≡ Ok (before ++ raw.Compare pred left right ∷ [], rest)) (append_assoc front (Mark (comparison_mark pred) ∷ back) rest) (compares_read nesting line before pred left right front back rest l r ends)))
  outer_read (tests {nesting = nesting} {term = term} {own = own} predicate is) deepest line before rest e ends =
      let behind : List Token = (Mark (codes "(") ∷ own ++ Mark (codes ")") ∷ []) ++ rest in
      outer_tests line before predicate behind ∙ deep (suc nesting) line before (Word (predicate_word predicate) ∷ behind) (before ++ predicate_node predicate term ∷ [], rest) deepest (tests_read predicate nesting line before term own rest is)
  outer_read (one_use {name = name} le) deepest line before rest e ends = one_use_read line before name rest le
  outer_read (masked {nesting = nesting} {name = name} {term = term} {own = own} le is) deepest line before rest e ends = masked_read nesting line before name term own rest deepest le is
  outer_read (non_zero {name = name} le) deepest line before rest e ends = non_zero_read line before name rest le
  outer_read (turns {nesting = nesting} {start = start} {nodes = nodes} {own = own} inside) deepest line before rest e ends =
      outer_mark line before (codes "!") (own ++ rest)
      ∙ deep (suc nesting) line before (Mark (codes "!") ∷ (own ++ rest)) (before ++ (nodes ++ raw.Not (last_place (start + length nodes)) ∷ []), rest) deepest (within_read (turns {standing = Within} inside) refl line before rest e ends)
  outer_read (encloses {nesting = nesting} {nodes = nodes} {own = own} inside) deepest line before rest e ends =
      let behind : List Token = (own ++ Mark (codes ")") ∷ []) ++ rest in
      outer_mark line before (codes "(") behind ∙ deep (suc nesting) line before (Mark (codes "(") ∷ behind) (before ++ nodes, rest) deepest (within_read (encloses {standing = Within} inside) refl line before rest e ends)
  outer_read (member one) deepest line before rest e ends = rw (outer_read one deepest line before rest e ends) refl
  outer_read (both {start = start} {left = left} {right = right} {front = front} {back = back} l r) deepest line before rest e ends =
      let first = outer_read l deepest line before (Mark (codes "&&") ∷ (back ++ rest)) e (mark_ends (back ++ rest)).1 in
      let second = outer_read r deepest line (before ++ left) rest (start_behind start before left e) ends in
      rw (append_assoc front (Mark (codes "&&") ∷ back) rest)
      (first ∙ members_more (outer_member_at limits line) start before left right (back ++ rest) rest (joins_shortens limits raw.And Outermost Member limits.nested (outer_member_at limits line) (outer_member_at-is limits line)) e second)
  outer_read (members all) deepest line before rest e ends = tt
  outer_read (either l r) deepest line before rest e ends = tt

  none_joined : (left right : List RawFormula) (operator : ℕ → ℕ → RawFormula) (start : ℕ) → ((a b : ℕ) → is_outer (operator a b) ≡ false) → list_any is_outer left ≡ false → list_any is_outer right ≡ false → list_any is_outer (joined operator start left right) ≡ false
  none_joined left right operator start node l r =
      let end : List RawFormula = operator (last_place (start + length left)) (last_place (start + length left + length right)) ∷ [] in
      list_any-append is_outer (left ++ right) end ∙ rw (list_any-append is_outer left right, l, r, node (last_place (start + length left)) (last_place (start + length left + length right))) refl

  -- a formula that may stand within another has none of those that may not
  pub none_within : {standing : Standing} {level : Level} {nesting start : ℕ} {nodes : List RawFormula} {own : List Token} → SpellsFormula limits standing level nesting start nodes own → standing ≡ Within → list_any is_outer nodes ≡ false
  none_within (compares pred l r) w = refl
  none_within (tests IsPowerOfTwo is) w = refl
  none_within (tests IsSignBit is) w = refl
  none_within (one_use le) w = absurd cc
  none_within (masked le is) w = absurd cc
  none_within (non_zero le) w = absurd cc
  none_within (turns {start = start} {nodes = nodes} inside) w =
      let end : List RawFormula = raw.Not (last_place (start + length nodes)) ∷ [] in
      list_any-append is_outer nodes end ∙ rw (none_within inside refl) refl
  none_within (encloses inside) w = none_within inside refl
  none_within (member one) w = none_within one w
  none_within (both {start = start} {left = left} {right = right} l r) w = none_joined left right raw.And start (λ a b. refl) (none_within l w) (none_within r w)
  none_within (members all) w = none_within all w
  none_within (either {start = start} {left = left} {right = right} l r) w = none_joined left right raw.Or start (λ a b. refl) (none_within l refl) (none_within r refl)

  -- the members of the outermost `&&`, and what may follow them
  abbrev whole_at : ℕ → List Token → Result (List RawFormula × List Token) RuleFault
  whole_at line tokens = members_of (outer_member_at limits line) [] tokens >>= λ first. or_alternatives limits line (list_any is_outer first.0) first.0 first.1

  no_more : (line : ℕ) (asks : Bool) (nodes : List RawFormula) (rest : List Token) → next_is (codes "||") rest ≡ false → or_alternatives limits line asks nodes rest ≡ Ok (nodes, rest)
  no_more line true nodes rest none = refl
  no_more line false nodes rest none = no_mark (codes "||") (joins raw.Or (members_of (member_at limits limits.nested line))) nodes rest none

  outer_members : (line nesting : ℕ) (nodes : List RawFormula) (own rest : List Token) → SpellsFormula limits Outermost Members nesting 0 nodes own → nesting ≡ limits.nested → EndsTerm rest → next_is (codes "&&") rest ≡ false → members_of (outer_member_at limits line) [] (own ++ rest) ≡ Ok (nodes, rest)
  outer_members line nesting nodes own rest is deepest ends none = outer_read is deepest line [] rest refl ends ∙ no_mark (codes "&&") (joins raw.And (outer_member_at limits line)) nodes rest none

  whole_within : {level : Level} {standing : Standing} {nesting start : ℕ} {nodes : List RawFormula} {own : List Token} → SpellsFormula limits standing level nesting start nodes own → standing ≡ Within → level ≡ Alternatives → start ≡ 0 → nesting ≡ limits.nested → (line : ℕ) (rest : List Token) → EndsTerm rest → next_is (codes "&&") rest ≡ false → whole_at line (own ++ rest) ≡ more_alternatives (member_at limits limits.nested line) nodes rest
  whole_within (members {nesting = nesting} {start = start} {nodes = nodes} {own = own} all) w a s deepest line rest ends none =
      let outer : SpellsFormula limits Outermost Members nesting 0 nodes own = subst (λ (k : ℕ). SpellsFormula limits Outermost Members nesting k nodes own) s (stands_outermost limits all) in
      rw (outer_members line nesting nodes own rest outer deepest ends none, none_within all w) refl
  whole_within (either {nesting = nesting} {start = start} {left = left} {right = right} {front = front} {back = back} l r) w a s deepest line rest ends none =
      let first = whole_within l refl refl s deepest line (Mark (codes "||") ∷ (back ++ rest)) (mark_ends (back ++ rest)).2 refl in
      let read = within_read r refl line left rest (ap (λ (k : ℕ). k + length left) s ∙ zero-add (length left)) ends ∙ no_mark (codes "&&") (joins raw.And (member_at limits nesting line)) (left ++ right) rest none in
      let second : members_of (member_at limits limits.nested line) left (back ++ rest) ≡ Ok (left ++ right, rest) = subst (λ (n : ℕ). members_of (member_at limits n line) left (back ++ rest) ≡ Ok (left ++ right, rest)) deepest read in
      rw (append_assoc front (Mark (codes "||") ∷ back) rest)
      (first ∙ alternatives_more (member_at limits limits.nested line) start [] left right (back ++ rest) rest (joins_shortens limits raw.Or Within Members limits.nested (members_of (member_at limits limits.nested line)) (members_of-is limits Within limits.nested (member_at limits limits.nested line) (member_at-is limits Within limits.nested line))) s second)
  whole_within (compares pred l r) w a s deepest line rest ends none = absurd cc
  whole_within (tests predicate is) w a s deepest line rest ends none = absurd cc
  whole_within (one_use le) w a s deepest line rest ends none = absurd cc
  whole_within (masked le is) w a s deepest line rest ends none = absurd cc
  whole_within (non_zero le) w a s deepest line rest ends none = absurd cc
  whole_within (turns inside) w a s deepest line rest ends none = absurd cc
  whole_within (encloses inside) w a s deepest line rest ends none = absurd cc
  whole_within (member one) w a s deepest line rest ends none = absurd cc
  whole_within (both l r) w a s deepest line rest ends none = absurd cc

  line_behind : (rest : List Token) → EndsLine rest → EndsTerm rest × (next_is (codes "&&") rest ≡ false) × (next_is (codes "||") rest ≡ false)
  line_behind [] ends = (tt, refl, refl)
  line_behind (Line next ∷ rest) ends = (tt, refl, refl)
  line_behind tokens ends = absurd ends

  whole_outer : {standing : Standing} {level : Level} {nesting start : ℕ} {nodes : List RawFormula} {own : List Token} → SpellsFormula limits standing level nesting start nodes own → level ≡ Alternatives → start ≡ 0 → nesting ≡ limits.nested → (line : ℕ) (rest : List Token) → EndsLine rest → whole_at line (own ++ rest) ≡ Ok (nodes, rest)
  whole_outer (members {nesting = nesting} {nodes = nodes} {own = own} all) a s deepest line rest ends =
      let outer : SpellsFormula limits Outermost Members nesting 0 nodes own = subst (λ (k : ℕ). SpellsFormula limits Outermost Members nesting k nodes own) s (stands_outermost limits all) in
      let line_is = line_behind rest ends in
      rw (outer_members line nesting nodes own rest outer deepest line_is.0 line_is.1) (no_more line (list_any is_outer nodes) nodes rest line_is.2)
  whole_outer (either {start = start} {left = left} {right = right} l r) a s deepest line rest ends =
      let line_is = line_behind rest ends in
      whole_within (either {standing = Within} l r) refl refl s deepest line rest line_is.0 line_is.1 ∙ no_mark (codes "||") (joins raw.Or (members_of (member_at limits limits.nested line))) (joined raw.Or start left right) rest line_is.2
  whole_outer (compares pred l r) a s deepest line rest ends = absurd cc
  whole_outer (tests predicate is) a s deepest line rest ends = absurd cc
  whole_outer (one_use le) a s deepest line rest ends = absurd cc
  whole_outer (masked le is) a s deepest line rest ends = absurd cc
  whole_outer (non_zero le) a s deepest line rest ends = absurd cc
  whole_outer (turns inside) a s deepest line rest ends = absurd cc
  whole_outer (encloses inside) a s deepest line rest ends = absurd cc
  whole_outer (member one) a s deepest line rest ends = absurd cc
  whole_outer (both l r) a s deepest line rest ends = absurd cc

  pub formula_at-of : (line : ℕ) (nodes : List RawFormula) (own rest : List Token) → SpellsWholeFormula limits nodes own → EndsLine rest → formula_at limits line (own ++ rest) ≡ Ok (nodes, rest)
  unfolding formula_at
  formula_at-of line nodes own rest is ends =
      through (members_of (outer_member_at limits line) [] (own ++ rest)) (λ first. or_alternatives limits line (list_any is_outer first.0) first.0 first.1) (λ whole. line_end line whole.1 >>= λ behind. Ok (whole.0, behind)) (nodes, rest) (whole_outer is refl refl refl line rest ends)
      ∙ rw (line_end-of line rest ends) refl
    where
      through : {A B C : Type 0} (r : Result A RuleFault) (f : A → Result B RuleFault) (g : B → Result C RuleFault) (y : B) → (r >>= f) ≡ Ok y → (r >>= λ x. (f x >>= g)) ≡ g y
      through (Ok x) f g y e = ap (λ (s : Result _ RuleFault). s >>= g) e
      through (Err d) f g y e = absurd cc
