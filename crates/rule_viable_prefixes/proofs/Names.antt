-- In a rule file another line begins behind a rule's name.
use Rattle.rule_viable_prefixes.proofs.Common.{◌≡◌, ℕ, Bool, true, false, List, [], ◌∷◌, ◌++◌, map, Option, Some, None, refl, sym, ap, subst, ◌∙◌, append_assoc, ◌⊎◌, inl, inr, codes, Flag, flag_keyword, Version, Limits, Part, Comma, ◌⨾◌, Maybe, SpellsType, Token, Line, Name, Register, Word, Number, Arrow, Mark, TermPlace, RawNode, RawFormula, Standing, Level, SpellsFormula, compares, tests, masked, non_zero, turns, encloses, member, both, members, either, SpellsLeaf, SpellsTerm, leaf, width, parenthesised, called, prefixed, tighter, joined, Half, Source, Target, RawRule, RawStatement, RawPrecondition, RawWitness, RawOp, Binary, Unary, Select, Convert, Freeze, Copy, RawOperand, RawArgument, Operation, SpellsArgument, SpellsOperand, SpellsPair, SpellsTruth, SpellsOpcode, SpellsTo, SpellsOp, SpellsStatements, SpellsPrecondition, SpellsMoreExpressions, SpellsExpressions, SpellsWitness, SpellsRule, SpellsRules, SpellsVersion, SpellsFile, opcode_token, operation_word, is_apart, token_with}
use Rattle.ops.specs.declared.opcode.Unary.{Unary as Intrinsic}
use Rattle.rule_terms.specs.declared.raw.RawNode.TheVariants as raw_nodes
use Rattle.rule_terms.specs.Formulas.{one_use}
use Rattle.rule_parse.specs.declared.raw.RawOp.TheVariants.{Compare}
use Rattle.rule_parse.specs.declared.raw.RawArgument.TheVariants as arguments
use Rattle.rule_parse.specs.declared.word.Operation.TheVariants as operations

-- none of the tokens is a rule's name
abbrev Nameless : List Token → Type 0
Nameless [] = Unit {0}
Nameless (Name text ∷ tokens) = ⊥
Nameless (token ∷ tokens) = Nameless tokens

both_nameless : (front back : List Token) → Nameless front → Nameless back → Nameless (front ++ back)
both_nameless [] back one two = two
both_nameless (Name text ∷ front) back one two = absurd one
both_nameless (token ∷ front) back one two = both_nameless front back one two

as_nameless : (tokens own : List Token) → tokens ≡ own → Nameless own → Nameless tokens
as_nameless tokens own is names = subst Nameless (sym is) names

abbrev Plain : Part → Type 0
Plain P = (tokens : List Token) → P tokens → Nameless tokens

seq_plain : (P Q : Part) → Plain P → Plain Q → Plain (P ⨾ Q)
seq_plain P Q one two tokens (front, back, p, q, whole) = as_nameless tokens (front ++ back) whole (both_nameless front back (one front p) (two back q))

-- ---- terms and formulas

module _ (limits : Limits) where
  leaf_plain : (place : TermPlace) (node : RawNode) → Plain (SpellsLeaf limits place node)
  leaf_plain place (raw_nodes.Literal z) tokens (text, value, is) = as_nameless tokens (Number text ∷ []) is tt
  leaf_plain place (raw_nodes.Constant name) tokens (constant, le, is) = as_nameless tokens (Word name ∷ []) is tt
  leaf_plain place (raw_nodes.Register name) tokens (witness, le, is) = as_nameless tokens (Register name ∷ []) is tt
  leaf_plain place (raw_nodes.Choice k) tokens (word, witness, choice, le, is) = as_nameless tokens (Word word ∷ []) is tt
  leaf_plain place node tokens is = absurd is

  term_plain : {place : TermPlace} {nesting start level : ℕ} {nodes : List RawNode} {tokens : List Token} → SpellsTerm limits place nesting start level nodes tokens → Nameless tokens
  term_plain {place = place} (leaf node tokens is) = leaf_plain place node tokens is
  term_plain (width name le) = tt
  term_plain (parenthesised {tokens = own} is) = both_nameless own (Mark (codes ")") ∷ []) (term_plain is) tt
  term_plain (called {tokens = own} function word calls is) = both_nameless own (Mark (codes ")") ∷ []) (term_plain is) tt
  term_plain (prefixed function mark is_prefix is) = term_plain is
  term_plain (tighter is) = term_plain is
  term_plain (joined {front = front} {back = back} op of l r) = both_nameless front (Mark _ ∷ back) (term_plain l) (term_plain r)

  formula_plain : {standing : Standing} {level : Level} {nesting start : ℕ} {nodes : List RawFormula} {own : List Token} → SpellsFormula limits standing level nesting start nodes own → Nameless own
  formula_plain (compares {front = front} {back = back} pred l r) = both_nameless front (Mark _ ∷ back) (term_plain l) (term_plain r)
  formula_plain (tests {own = own} predicate is) = both_nameless own (Mark (codes ")") ∷ []) (term_plain is) tt
  formula_plain (one_use le) = tt
  formula_plain (masked {own = own} le is) = both_nameless own (Mark (codes ")") ∷ []) (term_plain is) tt
  formula_plain (non_zero le) = tt
  formula_plain (turns is) = formula_plain is
  formula_plain (encloses {own = own} is) = both_nameless own (Mark (codes ")") ∷ []) (formula_plain is) tt
  formula_plain (member is) = formula_plain is
  formula_plain (members is) = formula_plain is
  formula_plain (both {front = front} {back = back} l r) = both_nameless front (Mark _ ∷ back) (formula_plain l) (formula_plain r)
  formula_plain (either {front = front} {back = back} l r) = both_nameless front (Mark _ ∷ back) (formula_plain l) (formula_plain r)

  -- ---- statements

  argument_plain : (half : Half) (a : RawArgument) → Plain (SpellsArgument limits half a)
  argument_plain half (arguments.Register name) tokens (le, is) = as_nameless tokens (Register name ∷ []) is tt
  argument_plain half arguments.Undef tokens is = as_nameless tokens (Word (codes "undef") ∷ []) is tt
  argument_plain Source (arguments.Literal z) tokens (text, value, is) = as_nameless tokens (Number text ∷ []) is tt
  argument_plain Source (arguments.Constant name) tokens (constant, le, is) = as_nameless tokens (Word name ∷ []) is tt
  argument_plain Source (arguments.Truth truth) tokens is = as_nameless tokens (Word _ ∷ []) is tt
  argument_plain Source (arguments.Term nodes) tokens is = absurd is
  argument_plain Target (arguments.Literal z) tokens (nodes, is, value) = term_plain is
  argument_plain Target (arguments.Constant name) tokens (nodes, is, value) = term_plain is
  argument_plain Target (arguments.Truth truth) tokens is = absurd is
  argument_plain Target (arguments.Term ns) tokens (nodes, is, value) = term_plain is

  type_plain : (written : Option ℕ) → Plain (Maybe SpellsType written)
  type_plain None tokens is = as_nameless tokens [] is tt
  type_plain (Some w) tokens (word, type, is) = as_nameless tokens (Word word ∷ []) is tt

  operand_plain : (half : Half) (a : RawOperand) → Plain (SpellsOperand limits half a)
  operand_plain half a = seq_plain (Maybe SpellsType a.written) (SpellsArgument limits half a.value) (type_plain a.written) (argument_plain half a.value)

  comma_plain : Plain Comma
  comma_plain tokens is = as_nameless tokens (Mark (codes ",") ∷ []) is tt

  pair_plain : (half : Half) (a b : RawOperand) → Plain (SpellsPair limits half a b)
  pair_plain half a b tokens (front, back, l, (comma, last, c, (untyped, r), whole), all) =
      as_nameless tokens (front ++ back) all (both_nameless front back (operand_plain half a front l) (as_nameless back (comma ++ last) whole (both_nameless comma last (comma_plain comma c) (argument_plain half b.value last r))))

  words_plain : (written : List Flag) → Nameless (map (λ flag. Word (flag_keyword flag)) written)
  words_plain [] = tt
  words_plain (flag ∷ written) = words_plain written

  opcode_plain : (version : Version) (operation : Operation) → Plain (SpellsOpcode version operation)
  opcode_plain version operation tokens (known, is) = as_nameless tokens (opcode_token operation ∷ []) is (by (is_apart operation))
    where
      by : (apart : Bool) → Nameless (token_with apart (operation_word operation) ∷ [])
      by true = tt
      by false = tt

  truth_plain : (op : Intrinsic) (truth : Bool) → Plain (SpellsTruth op truth)
  truth_plain op false tokens is = as_nameless tokens [] is tt
  truth_plain op true tokens (word, flag, is) = as_nameless tokens (Word word ∷ []) is tt

  to_plain : (to : Option ℕ) → Plain (Maybe SpellsTo to)
  to_plain None tokens is = as_nameless tokens [] is tt
  to_plain (Some w) tokens (front, back, word, (text, type, is), whole) = as_nameless tokens (front ++ back) whole (both_nameless front back (as_nameless front (Word (codes "to") ∷ []) word tt) (as_nameless back (Word text ∷ []) is tt))

  op_plain : (version : Version) (half : Half) (op : RawOp) → Plain (SpellsOp limits version half op)
  op_plain version half (Binary op flags a b) = seq_plain _ _ (opcode_plain version (operations.Binary op)) (seq_plain _ _ (λ tokens is. as_nameless tokens _ is.2 (words_plain is.0)) (pair_plain half a b))
  op_plain version half (Compare pred samesign a b) =
      seq_plain _ _ (opcode_plain version operations.Compare) (seq_plain _ _ (λ tokens is. as_nameless tokens _ is.2 (words_plain is.0)) (seq_plain _ _ (λ tokens is. as_nameless tokens (Word _ ∷ []) is tt) (pair_plain half a b)))
  op_plain version half (Unary op truth a) = seq_plain _ _ (opcode_plain version (operations.Unary op)) (seq_plain _ _ (truth_plain op truth) (operand_plain half a))
  op_plain version half (Select condition if_true if_false) =
      seq_plain _ _ (opcode_plain version operations.Select) (seq_plain _ _ (operand_plain half condition) (seq_plain _ _ comma_plain (seq_plain _ _ (operand_plain half if_true) (seq_plain _ _ comma_plain (operand_plain half if_false)))))
  op_plain version half (Convert cast flags a to) =
      seq_plain _ _ (opcode_plain version (operations.Convert cast)) (seq_plain _ _ (λ tokens is. as_nameless tokens _ is.2 (words_plain is.0)) (seq_plain _ _ (operand_plain half a) (to_plain to)))
  op_plain version half (Freeze a) = seq_plain _ _ (opcode_plain version operations.Freeze) (operand_plain half a)
  op_plain version Source (Copy a) = λ tokens is. absurd is
  op_plain version Target (Copy a) = operand_plain Target a

  statements_plain : (version : Version) (half : Half) (statements : List RawStatement) → Plain (SpellsStatements limits version half statements)
  statements_plain version half [] tokens is = as_nameless tokens [] is tt
  statements_plain version half (s ∷ statements) tokens (own, rest, one, more, whole) =
      as_nameless tokens (own ++ rest) whole (both_nameless own rest (as_nameless own _ one.spelled (op_plain version half s.op one.op one.is_op)) (statements_plain version half statements rest more))

  precondition_plain : (p : Option RawPrecondition) → Plain (Maybe (SpellsPrecondition limits) p)
  precondition_plain None tokens is = as_nameless tokens [] is tt
  precondition_plain (Some p) tokens (own, is, whole) = as_nameless tokens _ whole (formula_plain is)

  more_plain : (expressions : List (List RawNode)) → Plain (SpellsMoreExpressions limits expressions)
  more_plain [] tokens is = as_nameless tokens [] is tt
  more_plain (nodes ∷ expressions) tokens (own, rest, one, more, whole) = as_nameless tokens (Mark (codes ",") ∷ own ++ rest) whole (both_nameless own rest (term_plain one) (more_plain expressions rest more))

  expressions_plain : (expressions : List (List RawNode)) → Plain (SpellsExpressions limits expressions)
  expressions_plain [] tokens is = absurd is
  expressions_plain (nodes ∷ expressions) tokens (own, rest, one, more, whole) = as_nameless tokens (own ++ rest) whole (both_nameless own rest (term_plain one) (more_plain expressions rest more))

  witness_plain : (w : Option RawWitness) → Plain (Maybe (SpellsWitness limits) w)
  witness_plain None tokens is = as_nameless tokens [] is tt
  witness_plain (Some w) tokens (own, is, whole) = as_nameless tokens _ whole (expressions_plain w.expressions own is)

  -- ---- behind the name

  abbrev pub BeginsLine : List Token → Type 0
  BeginsLine tokens = (number : ℕ) × ((rest : List Token) × (tokens ≡ Line number ∷ rest))

  abbrev Followed : List Token → Type 0
  Followed [] = Unit {0}
  Followed (Name text ∷ tokens) = BeginsLine tokens × Followed tokens
  Followed (token ∷ tokens) = Followed tokens

  followed_behind : (own rest : List Token) → Nameless own → Followed rest → Followed (own ++ rest)
  followed_behind [] rest plain more = more
  followed_behind (Name text ∷ own) rest plain more = absurd plain
  followed_behind (token ∷ own) rest plain more = followed_behind own rest plain more

  -- nothing, or tokens that begin a line
  begins_both : (own rest : List Token) → (own ≡ []) ⊎ BeginsLine own → BeginsLine rest → BeginsLine (own ++ rest)
  begins_both own rest (inl none_) more = subst (λ (ts : List Token). BeginsLine (ts ++ rest)) (sym none_) more
  begins_both own rest (inr (number, (tokens, is))) more = (number, (tokens ++ rest, ap (λ (ts : List Token). ts ++ rest) is))

  precondition_begins : (p : Option RawPrecondition) (tokens : List Token) → Maybe (SpellsPrecondition limits) p tokens → (tokens ≡ []) ⊎ BeginsLine tokens
  precondition_begins None tokens is = inl is
  precondition_begins (Some p) tokens (own, is, whole) = inr (p.line, (_, whole))

  witness_begins : (w : Option RawWitness) (tokens : List Token) → Maybe (SpellsWitness limits) w tokens → (tokens ≡ []) ⊎ BeginsLine tokens
  witness_begins None tokens is = inl is
  witness_begins (Some w) tokens (own, is, whole) = inr (w.line, (_, whole))

  statements_begin : (version : Version) (half : Half) (statements : List RawStatement) (tokens : List Token) → SpellsStatements limits version half statements tokens → (tokens ≡ []) ⊎ BeginsLine tokens
  statements_begin version half [] tokens is = inl is
  statements_begin version half (s ∷ statements) tokens (own, rest, one, more, whole) = inr (s.line, (_, whole ∙ ap (λ (ts : List Token). ts ++ rest) one.spelled))

  rule_followed : (version : Version) (rule : RawRule) (tokens rest : List Token) → SpellsRule limits version rule tokens → Followed rest → Followed (tokens ++ rest)
  rule_followed version rule tokens rest is more =
      subst (λ (ts : List Token). Followed (ts ++ rest)) (sym is.spelled)
      (subst (λ (ts : List Token). BeginsLine ts × Followed ts) (sym (parts is.precondition is.witness is.source is.target)) (begins, followed))
    where
      arrow : List Token
      arrow = Line is.arrow_line ∷ Arrow ∷ []

      parts : (p w s t : List Token) → (p ++ (w ++ (s ++ Line is.arrow_line ∷ Arrow ∷ t))) ++ rest ≡ p ++ (w ++ (s ++ (Line is.arrow_line ∷ Arrow ∷ (t ++ rest))))
      parts p w s t = append_assoc p (w ++ (s ++ Line is.arrow_line ∷ Arrow ∷ t)) rest ∙ ap (λ (ts : List Token). p ++ ts) (append_assoc w (s ++ Line is.arrow_line ∷ Arrow ∷ t) rest ∙ ap (λ (ts : List Token). w ++ ts) (append_assoc s (Line is.arrow_line ∷ Arrow ∷ t) rest))

      begins : BeginsLine (is.precondition ++ (is.witness ++ (is.source ++ (Line is.arrow_line ∷ Arrow ∷ (is.target ++ rest)))))
      begins =
          begins_both is.precondition _ (precondition_begins rule.precondition is.precondition is.is_precondition)
          (begins_both is.witness _ (witness_begins rule.witness is.witness is.is_witness)
          (begins_both is.source _ (statements_begin version Source rule.source is.source is.is_source.spelled) (is.arrow_line, (Arrow ∷ (is.target ++ rest), refl))))

      followed : Followed (is.precondition ++ (is.witness ++ (is.source ++ (Line is.arrow_line ∷ Arrow ∷ (is.target ++ rest)))))
      followed =
          followed_behind is.precondition _ (precondition_plain rule.precondition is.precondition is.is_precondition)
          (followed_behind is.witness _ (witness_plain rule.witness is.witness is.is_witness)
          (followed_behind is.source _ (statements_plain version Source rule.source is.source is.is_source.spelled)
          (followed_behind is.target rest (statements_plain version Target rule.target is.target is.is_target.spelled) more)))

  rules_followed : (version : Version) (rules : List RawRule) (tokens : List Token) → SpellsRules limits version rules tokens → Followed tokens
  rules_followed version [] tokens is = subst Followed (sym is) tt
  rules_followed version (rule ∷ rules) tokens (own, rest, one, more, whole) = subst Followed (sym whole) (rule_followed version rule own rest one (rules_followed version rules rest more))

  version_plain : (version : Version) → Plain (SpellsVersion version)
  version_plain version tokens (inl line) = as_nameless tokens _ line.spelled tt
  version_plain version tokens (inr (one, none_)) = as_nameless tokens [] none_ tt

  file_followed : (rules : List RawRule) (tokens : List Token) → SpellsFile limits rules tokens → Followed tokens
  file_followed rules tokens (version, (front, back, is_version, is, whole)) = subst Followed (sym whole) (followed_behind front back (version_plain version front is_version) (rules_followed version rules back is))

  followed_line : (front : List Token) (text : List ℕ) (rest : List Token) → Followed (front ++ Name text ∷ rest) → BeginsLine rest
  followed_line [] text rest is = is.0
  followed_line (Name other ∷ front) text rest is = followed_line front text rest is.1
  followed_line (token ∷ front) text rest is = followed_line front text rest is

  -- behind a rule's name in a rule file another line begins
  pub line_behind_name : (rules : List RawRule) (front : List Token) (text : List ℕ) (rest : List Token) → SpellsFile limits rules (front ++ Name text ∷ rest) → BeginsLine rest
  line_behind_name rules front text rest is = followed_line front text rest (file_followed rules (front ++ Name text ∷ rest) is)
