-- A rule has no more operands, literals, names, operators and functions than tokens that count.
use Rattle.rule_parse.proofs.Common.{◌≡◌, ℕ, zero, suc, inl, inr, ◌+◌, ◌≤◌, Bool, true, false, List, [], ◌∷◌, ◌++◌, map, Option, Some, None, refl, sym, ap, subst, ◌∙◌, arith, codes, sum_by, flat_map, slice_get, option_map_or, sum_by-cons, sum_by-append, flat_map-append, Flag, predicate_keyword, flag_keyword, is_digit, is_constant, is_choice, ends_primary, Maybe, SpellsType, Token, Line, Head, Name, Word, Number, Arrow, Mark, RawNode, Half, Source, Target, RawRule, RawStatement, RawPrecondition, RawWitness, RawOp, Copy, RawOperand, RawArgument, SpellsTermOperand, SpellsArgument, SpellsOperand, SpellsPair, SpellsTruth, SpellsOpcode, SpellsTo, SpellsOp, SpellsStatements, SpellsPrecondition, SpellsMoreExpressions, SpellsExpressions, SpellsWitness, SpellsRule, SpellsRules, SpellsFile, arguments_of, arguments_among, terms_of_argument, terms_of_formula, target_terms, terms_of, expressions_of, formula_of, WrittenRulesAreSmall, is_node_word, ends_before_line, room_behind, or_excess, limited_to, limited, most_nodes, argument_weight, node_weight, raw_weight, operation_word, is_apart, token_with, truth_word, argument_of, Operation, Version, Limits, rule_limits}
use Rattle.ops.specs.declared.opcode.Unary.{Unary as Intrinsic}
use Rattle.rule_terms.specs.declared.raw.RawNode.TheVariants as nodes
use Rattle.rule_parse.specs.declared.raw.RawOp.TheVariants.{Binary, Compare, Unary, Select, Convert, Freeze}
use Rattle.rule_parse.specs.declared.raw.RawArgument.TheVariants as arguments
use Rattle.rule_parse.specs.declared.word.Operation.TheVariants as operations
use Rattle.rule_parse.proofs.Cuts.{step, AreOfText, of_both, first_of, begins_of, Weighs, nothing, join, light, at_least, word, opcode, mark, number, register, node_word, assigned, behind_one, precondition_led, witness_led, arrow_led}
use Rattle.rule_parse.proofs.TermWeights.{constant_counts, nodes_weight, nodes_weight-is, term_weighs, formulas_weight, formulas_weight-is, formula_weighs}

module _ (limits : Limits) where
  -- ---- operands

  abbrev one_weight : RawArgument → ℕ
  one_weight (arguments.Term t) = nodes_weight limits t
  one_weight argument = 1

  term_operand : (own : List RawNode) → one_weight (argument_of own) ≤ (nodes_weight limits) own
  unfolding argument_of
  term_operand (nodes.Literal z ∷ []) = omega arith
  term_operand (nodes.Constant name ∷ []) = omega arith
  term_operand own = omega arith

  truth_weighs : (truth : Bool) → Weighs 1 (Word (truth_word truth) ∷ [])
  unfolding is_node_word ends_primary is_constant is_choice is_digit
  truth_weighs true = node_word (codes "true") refl
  truth_weighs false = node_word (codes "false") refl

  undef_weighs : Weighs 1 (Word (codes "undef") ∷ [])
  unfolding is_node_word ends_primary is_constant is_choice
  undef_weighs = node_word (codes "undef") refl

  term_operand_weighs : (a : RawArgument) (own : List Token) → SpellsTermOperand limits a own → Weighs (one_weight a) own
  term_operand_weighs a own (t, is, same) = at_least (one_weight a) (nodes_weight limits t) own (rw same (term_operand t)) (term_weighs limits is)

  argument_weighs : (half : Half) (a : RawArgument) (own : List Token) → SpellsArgument limits half a own → Weighs (one_weight a) own
  argument_weighs Source (arguments.Register name) own (le, is) = rw is (register name)
  argument_weighs Target (arguments.Register name) own (le, is) = rw is (register name)
  argument_weighs Source arguments.Undef own is = rw is undef_weighs
  argument_weighs Target arguments.Undef own is = rw is undef_weighs
  argument_weighs Source (arguments.Literal z) own (text, value, is) = rw is (number text)
  argument_weighs Source (arguments.Constant name) own (c, le, is) = rw is (node_word name (constant_counts limits name c))
  argument_weighs Source (arguments.Truth truth) own is = rw is (truth_weighs truth)
  argument_weighs Source (arguments.Term t) own is = absurd is
  argument_weighs Target (arguments.Literal z) own is = term_operand_weighs (arguments.Literal z) own is
  argument_weighs Target (arguments.Constant name) own is = term_operand_weighs (arguments.Constant name) own is
  argument_weighs Target (arguments.Truth truth) own is = absurd is
  argument_weighs Target (arguments.Term t) own is = term_operand_weighs (arguments.Term t) own is

  type_weighs : (written : Option ℕ) (own : List Token) → Maybe SpellsType written own → Weighs 0 own
  type_weighs None own is = rw is nothing
  type_weighs (Some width) own (text, type, is) = rw is (word text)

  operand_weighs : (half : Half) (a : RawOperand) (own : List Token) → SpellsOperand limits half a own → Weighs (one_weight a.value) own
  operand_weighs half a own (front, back, type, value, whole) = rw whole (light (one_weight a.value) front back (type_weighs a.written front type) (argument_weighs half a.value back value))

  -- behind a `,`
  behind_comma : (v w : ℕ) (own front back : List Token) → Weighs v front → Weighs w back → own ≡ front ++ Mark (codes ",") ∷ back → Weighs (v + w) own
  behind_comma v w own front back a b whole = rw whole (join v w front (Mark (codes ",") ∷ back) a (light w (Mark (codes ",") ∷ []) back (mark (codes ",")) b))

  pair_weighs : (half : Half) (a b : RawOperand) (own : List Token) → SpellsPair limits half a b own → Weighs (one_weight a.value + one_weight b.value) own
  pair_weighs half a b own (front, behind, left, (comma, back, is_comma, right, at), whole) =
      behind_comma (one_weight a.value) (one_weight b.value) own front back (operand_weighs half a front left) (argument_weighs half b.value back right.1)
      (whole ∙ ap (λ (ts : List Token). front ++ ts) (at ∙ ap (λ (ts : List Token). ts ++ back) is_comma))

  -- ---- operations

  flags_weigh : (flags : List Flag) → Weighs 0 (map (λ (flag : Flag). Word (flag_keyword flag)) flags)
  flags_weigh [] = nothing
  flags_weigh (flag ∷ flags) = join 0 0 (Word (flag_keyword flag) ∷ []) (map (λ (flag : Flag). Word (flag_keyword flag)) flags) (word (flag_keyword flag)) (flags_weigh flags)

  behind_word : (w : ℕ) (text : List ℕ) (own front back : List Token) → front ≡ Word text ∷ [] → Weighs w back → own ≡ front ++ back → Weighs w own
  behind_word w text own front back is b whole = rw (whole, is) (light w (Word text ∷ []) back (word text) b)

  -- an opcode doesn't count
  token_weighs : (apart : Bool) (text : List ℕ) → Weighs 0 (token_with apart text ∷ [])
  token_weighs true text = opcode text
  token_weighs false text = word text

  behind_opcode : (version : Version) (operation : Operation) (w : ℕ) (own front back : List Token) → SpellsOpcode version operation front → Weighs w back → own ≡ front ++ back → Weighs w own
  behind_opcode version operation w own front back (known, is) b whole =
      rw (whole, is) (light w (token_with (is_apart operation) (operation_word operation) ∷ []) back (token_weighs (is_apart operation) (operation_word operation)) b)

  truth_weighs_none : (op : Intrinsic) (truth : Bool) (own : List Token) → SpellsTruth op truth own → Weighs 0 own
  truth_weighs_none op false own is = rw is nothing
  truth_weighs_none op true own (text, flag, is) = rw is (word text)

  behind_flags : (w : ℕ) (flags : List Flag) (own front back : List Token) → front ≡ map (λ (flag : Flag). Word (flag_keyword flag)) flags → Weighs w back → own ≡ front ++ back → Weighs w own
  behind_flags w flags own front back is b whole = rw (whole, is) (light w (map (λ (flag : Flag). Word (flag_keyword flag)) flags) back (flags_weigh flags) b)

  to_weighs : (to : Option ℕ) (own : List Token) → Maybe SpellsTo to own → Weighs 0 own
  to_weighs None own is = rw is nothing
  to_weighs (Some width) own (front, back, is, (text, type, at), whole) = behind_word 0 (codes "to") own front back is (rw at (word text)) whole

  abbrev arguments_weight : List RawArgument → ℕ
  arguments_weight [] = 0
  arguments_weight (a ∷ more) = one_weight a + arguments_weight more

  op_weighs : (version : Version) (half : Half) (op : RawOp) (own : List Token) → SpellsOp limits version half op own → Weighs (arguments_weight (arguments_of op)) own
  op_weighs version half (Binary op flags a b) own (f, k, is, (g, h, (written, adds, spelled), pair, at), whole) =
      at_least _ (one_weight a.value + one_weight b.value) own (omega arith)
      (behind_opcode version (operations.Binary op) _ own f k is (behind_flags _ written k g h spelled (pair_weighs half a b h pair) at) whole)
  op_weighs version half (Compare pred samesign a b) own (f, k, is, (g, h, (written, adds, spelled), (m, n, is_pred, pair, at'), at), whole) =
      at_least _ (one_weight a.value + one_weight b.value) own (omega arith)
      (behind_opcode version operations.Compare _ own f k is (behind_flags _ written k g h spelled (behind_word _ (predicate_keyword pred) h m n is_pred (pair_weighs half a b n pair) at') at) whole)
  op_weighs version half (Unary op truth a) own (f, k, is, (x, y, is_truth, operand, at), whole) =
      at_least _ (one_weight a.value) own (omega arith)
      (behind_opcode version (operations.Unary op) _ own f k is (rw at (light (one_weight a.value) x y (truth_weighs_none op truth x is_truth) (operand_weighs half a y operand))) whole)
  op_weighs version half (Select c a b) own (f, k, is, (x, k1, is_c, (m1, k2, comma1, (y, k3, is_a, (m2, z, comma2, is_b, w4), w3), w2), w1), whole) =
      at_least _ (one_weight c.value + (one_weight a.value + one_weight b.value)) own (omega arith)
      (behind_opcode version operations.Select _ own f k is
      (behind_comma (one_weight c.value) (one_weight a.value + one_weight b.value) k x k2 (operand_weighs half c x is_c)
      (behind_comma (one_weight a.value) (one_weight b.value) k2 y z (operand_weighs half a y is_a) (operand_weighs half b z is_b)
      (w3 ∙ ap (λ (ts : List Token). y ++ ts) (w4 ∙ ap (λ (ts : List Token). ts ++ z) comma2)))
      (w1 ∙ ap (λ (ts : List Token). x ++ ts) (w2 ∙ ap (λ (ts : List Token). ts ++ k2) comma1)))
      whole)
  op_weighs version half (Convert cast flags a to) own (f, k, is, (g, h, (written, adds, spelled), (x, y, is_a, is_to, at'), at), whole) =
      at_least _ (one_weight a.value + 0) own (omega arith)
      (behind_opcode version (operations.Convert cast) _ own f k is (behind_flags _ written k g h spelled (rw at' (join (one_weight a.value) 0 x y (operand_weighs half a x is_a) (to_weighs to y is_to))) at) whole)
  op_weighs version half (Freeze a) own (f, k, is, operand, whole) = at_least _ (one_weight a.value) own (omega arith) (behind_opcode version operations.Freeze _ own f k is (operand_weighs half a k operand) whole)
  op_weighs version Source (Copy a) own is = absurd is
  op_weighs version Target (Copy a) own is = at_least _ (one_weight a.value) own (omega arith) (operand_weighs Target a own is)

  -- ---- statements

  arguments_append : (xs ys : List RawArgument) → arguments_weight (xs ++ ys) ≡ arguments_weight xs + arguments_weight ys
  arguments_append [] ys = omega arith
  arguments_append (x ∷ xs) ys = omega (arith, arguments_append xs ys)

  statements_weigh : (version : Version) (half : Half) (statements : List RawStatement) (own : List Token) → SpellsStatements limits version half statements own → Weighs (arguments_weight (arguments_among statements)) own
  statements_weigh version half [] own is = rw is nothing
  statements_weigh version half (s ∷ statements) own (front, back, one, more, whole) =
      let w = arguments_weight (arguments_of s.op) in
      let first : Weighs w front = rw one.spelled (assigned w s.line s.name one.op (op_weighs version half s.op one.op one.is_op)) in
      rw whole (at_least _ (w + arguments_weight (arguments_among statements)) (front ++ back) (omega (arith, arguments_append (arguments_of s.op) (arguments_among statements)))
      (join w (arguments_weight (arguments_among statements)) front back first (statements_weigh version half statements back more)))

  -- ---- preconditions and witnesses

  precondition_weighs : (p : Option RawPrecondition) (own : List Token) → Maybe (SpellsPrecondition limits) p own → Weighs (formulas_weight limits (option_map_or (λ p. p.formula) p [])) own
  precondition_weighs None own is = rw is nothing
  precondition_weighs (Some p) own (tokens, is, whole) = rw whole (precondition_led (formulas_weight limits p.formula) p.line tokens (formula_weighs limits is))

  abbrev terms_weight : List (List RawNode) → ℕ
  terms_weight [] = 0
  terms_weight (t ∷ ts) = nodes_weight limits t + terms_weight ts

  more_weigh : (more : List (List RawNode)) (own : List Token) → SpellsMoreExpressions limits more own → Weighs (terms_weight more) own
  more_weigh [] own is = rw is nothing
  more_weigh (t ∷ more) own (front, back, one, others, whole) =
      rw whole (light (nodes_weight limits t + terms_weight more) (Mark (codes ",") ∷ []) (front ++ back) (mark (codes ",")) (join (nodes_weight limits t) (terms_weight more) front back (term_weighs limits one) (more_weigh more back others)))

  expressions_weigh : (all : List (List RawNode)) (own : List Token) → SpellsExpressions limits all own → Weighs (terms_weight all) own
  expressions_weigh [] own is = absurd is
  expressions_weigh (t ∷ more) own (front, back, one, others, whole) = rw whole (join (nodes_weight limits t) (terms_weight more) front back (term_weighs limits one) (more_weigh more back others))

  witness_weighs : (w : Option RawWitness) (own : List Token) → Maybe (SpellsWitness limits) w own → Weighs (terms_weight (option_map_or (λ w. w.expressions) w [])) own
  witness_weighs None own is = rw is nothing
  witness_weighs (Some w) own (tokens, is, whole) = rw whole (witness_led (terms_weight w.expressions) w.line tokens (expressions_weigh w.expressions tokens is))

  -- ---- rules

  abbrev body_weight : RawRule → ℕ
  body_weight raw = formulas_weight limits (formula_of raw) + (terms_weight (expressions_of raw) + (arguments_weight (arguments_among raw.source) + arguments_weight (arguments_among raw.target)))

  body_weighs : (version : Version) (raw : RawRule) (own : List Token) (s : SpellsRule limits version raw own) → Weighs (body_weight raw) (s.precondition ++ (s.witness ++ (s.source ++ Line s.arrow_line ∷ Arrow ∷ s.target)))
  body_weighs version raw own s =
      join _ _ s.precondition _ (precondition_weighs raw.precondition s.precondition s.is_precondition)
      (join _ _ s.witness _ (witness_weighs raw.witness s.witness s.is_witness)
      (join _ _ s.source _ (statements_weigh version Source raw.source s.source s.is_source.spelled)
      (arrow_led _ s.arrow_line s.target (statements_weigh version Target raw.target s.target s.is_target.spelled))))

  -- ---- the same counts, sorted by kinds

  argument_weight-is : (a : RawArgument) → one_weight a ≡ argument_weight a + sum_by (λ t. sum_by node_weight t) (terms_of_argument a)
  argument_weight-is (arguments.Register name) = refl
  argument_weight-is (arguments.Literal z) = refl
  argument_weight-is (arguments.Truth b) = refl
  argument_weight-is (arguments.Constant name) = refl
  argument_weight-is arguments.Undef = refl
  argument_weight-is (arguments.Term t) = omega (arith, nodes_weight-is limits t)

  arguments_weight-is : (more : List RawArgument) → arguments_weight more ≡ sum_by argument_weight more + sum_by (λ t. sum_by node_weight t) (flat_map terms_of_argument more)
  arguments_weight-is [] = refl
  arguments_weight-is (a ∷ more) =
      omega (arith, argument_weight-is a, arguments_weight-is more, sum_by-cons argument_weight a more, sum_by-append (λ (t : List RawNode). sum_by node_weight t) (terms_of_argument a) (flat_map terms_of_argument more))

  terms_weight-is : (ts : List (List RawNode)) → terms_weight ts ≡ sum_by (λ t. sum_by node_weight t) ts
  terms_weight-is [] = refl
  terms_weight-is (t ∷ ts) = omega (arith, nodes_weight-is limits t, terms_weight-is ts, sum_by-cons (λ (t : List RawNode). sum_by node_weight t) t ts)

  raw_within : (raw : RawRule) → raw_weight raw ≤ body_weight raw
  raw_within raw =
      let g : List RawNode → ℕ = λ t. sum_by node_weight t in
      let halves : sum_by argument_weight (arguments_among (raw.source ++ raw.target)) ≡ sum_by argument_weight (arguments_among raw.source) + sum_by argument_weight (arguments_among raw.target) =
      ap (sum_by argument_weight) (flat_map-append (λ (s : RawStatement). arguments_of s.op) raw.source raw.target) ∙ sum_by-append argument_weight (arguments_among raw.source) (arguments_among raw.target) in
      let terms = sum_by-append g (terms_of raw) (expressions_of raw) in
      let constant = sum_by-append g (target_terms raw) (flat_map terms_of_formula (formula_of raw)) in
      omega (arith, halves, terms, constant, arguments_weight-is (arguments_among raw.source), arguments_weight-is (arguments_among raw.target), terms_weight-is (expressions_of raw), formulas_weight-is limits (formula_of raw))

-- ---- texts

none_limited : (room : ℕ) (tokens : List Token) → [] ≡ limited_to room false tokens → tokens ≡ []
unfolding limited_to
none_limited room [] e = refl
none_limited room (t ∷ tokens) e = absurd (never (room_behind room false t) e)
  where
    never : (found : Option ℕ) → [] ≡ or_excess t found (λ left. limited_to left (ends_before_line t) tokens) → ⊥
    never None e = absurd cc
    never (Some left) e = absurd cc

-- where tokens with the limit spell rules, they are all tokens of the text, and no rule passes the limit
record AreSmall (raws : List RawRule) (own tokens : List Token) : Type 0 where
  same : tokens ≡ own
  small : (k : ℕ) (raw : RawRule) → slice_get raws k ≡ Some raw → raw_weight raw ≤ most_nodes

number_same : (a b : ℕ) → Some a ≡ Some b → a ≡ b
number_same a b e = cc

one_more : (first : RawRule) (raws : List RawRule) → raw_weight first ≤ most_nodes → ((k : ℕ) (raw : RawRule) → slice_get raws k ≡ Some raw → raw_weight raw ≤ most_nodes) → (k : ℕ) (raw : RawRule) → slice_get (first ∷ raws) k ≡ Some raw → raw_weight raw ≤ most_nodes
one_more first raws small others zero raw at = let same : first ≡ raw = cc in subst (λ (r : RawRule). raw_weight r ≤ most_nodes) same small
one_more first raws small others (suc k) raw at = others k raw at

-- tokens that the grammar spells rules with are tokens of texts: `Excess` isn't among them
pub spelled_of_text : (limits : Limits) (version : Version) (raws : List RawRule) (tokens : List Token) → SpellsRules limits version raws tokens → AreOfText tokens
spelled_of_text limits version [] tokens is = subst AreOfText (sym is) tt
spelled_of_text limits version (raw ∷ raws) tokens (front, back, s, more, whole) =
    let own : AreOfText front = subst AreOfText (sym s.spelled) (tt, (tt, (tt, (body_weighs limits version raw front s).of_text))) in
    subst AreOfText (sym whole) (of_both front back own (spelled_of_text limits version raws back more))

rules_small : (version : Version) (raws : List RawRule) (own tokens : List Token) (room : ℕ) → SpellsRules rule_limits version raws own → own ≡ limited_to room false tokens → AreSmall raws own tokens
rules_small version [] own tokens room is e = record { same = none_limited room tokens (sym is ∙ e) ∙ sym is; small = λ k raw at. absurd cc }
rules_small version (raw ∷ raws) own tokens room (front, back, s, more, whole) e =
    let body = s.precondition ++ (s.witness ++ (s.source ++ Line s.arrow_line ∷ Arrow ∷ s.target)) in
    let spelled : own ≡ Line raw.line ∷ Head (codes "Name:") ∷ Name raw.name ∷ body ++ back = whole ∙ ap (λ (ts : List Token). ts ++ back) s.spelled in
    let weighs = body_weighs rule_limits version raw front s in
    let begins = begins_of back (spelled_of_text rule_limits version raws back more) in
    let a = step room false (Line raw.line) (Head (codes "Name:") ∷ Name raw.name ∷ body ++ back) tokens tt (sym spelled ∙ e) in
    let b = step a.left true (Head (codes "Name:")) (Name raw.name ∷ body ++ back) a.others tt a.limited in
    let c = step b.left false (Name raw.name) (body ++ back) b.others (first_of body back weighs.of_text begins) b.limited in
    let d = weighs.cut c.left back c.others begins c.limited in
    let rest = rules_small version raws back d.others d.left more d.limited in
    let most = d.most in
    let two : most_nodes ≡ b.left = number_same _ _ b.kept in
    let three : b.left ≡ c.left = number_same _ _ c.kept in
    record {
      same = behind_one (Line raw.line) tokens a.others _ a.is (behind_one (Head (codes "Name:")) a.others b.others _ b.is (behind_one (Name raw.name) b.others c.others _ c.is (d.is ∙ ap (λ (ts : List Token). body ++ ts) rest.same))) ∙ sym spelled;
      small = one_more raw raws (omega (arith, raw_within rule_limits raw, most, two, three)) rest.small;
    }

-- the same for a whole file
pub file_of_text : (limits : Limits) (raws : List RawRule) (tokens : List Token) → SpellsFile limits raws tokens → AreOfText tokens
file_of_text limits raws tokens (version, (front, back, is_version, is, whole)) = elim is_version [
  | inl line ↦ subst AreOfText (sym (whole ∙ ap (λ (ts : List Token). ts ++ back) line.spelled)) (tt, (tt, (tt, spelled_of_text limits version raws back is)))
  | inr (one, none) ↦ subst AreOfText (sym (whole ∙ ap (λ (ts : List Token). ts ++ back) none)) (spelled_of_text limits version raws back is)
]

file_small : (raws : List RawRule) (own tokens : List Token) → SpellsFile rule_limits raws own → own ≡ limited_to most_nodes false tokens → AreSmall raws own tokens
file_small raws own tokens (version, (front, back, is_version, is, whole)) e = elim is_version [
  | inl line ↦
      let spelled : own ≡ Line line.line ∷ Head (codes "Version:") ∷ Number line.digits ∷ back = whole ∙ ap (λ (ts : List Token). ts ++ back) line.spelled in
      let begins = begins_of back (spelled_of_text rule_limits version raws back is) in
      let a = step most_nodes false (Line line.line) (Head (codes "Version:") ∷ Number line.digits ∷ back) tokens tt (sym spelled ∙ e) in
      let b = step a.left true (Head (codes "Version:")) (Number line.digits ∷ back) a.others tt a.limited in
      let c = step b.left false (Number line.digits) back b.others begins b.limited in
      let rest = rules_small version raws back c.others c.left is c.limited in
      record {
        same = behind_one (Line line.line) tokens a.others _ a.is (behind_one (Head (codes "Version:")) a.others b.others _ b.is (behind_one (Number line.digits) b.others c.others _ c.is rest.same)) ∙ sym spelled;
        small = rest.small;
      }
  | inr (one, none) ↦
      let all : own ≡ back = whole ∙ ap (λ (ts : List Token). ts ++ back) none in
      let rest = rules_small version raws back tokens most_nodes is (sym all ∙ e) in
      record { same = rest.same ∙ sym all; small = rest.small }
]

pub spelled_whole : (raws : List RawRule) (tokens : List Token) → SpellsFile rule_limits raws (limited tokens) → limited tokens ≡ tokens
spelled_whole raws tokens is = let a = file_small raws (limited tokens) tokens is refl in sym a.same

pub small_rules : WrittenRulesAreSmall
small_rules text raws written k raw at = let a = file_small raws written.tokens written.tokens written.spelled (sym written.few) in a.small k raw at
