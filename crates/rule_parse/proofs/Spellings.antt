-- What the grammar spells is read, where the line of its last token ends behind it.
use Rattle.rule_parse.proofs.Common.{◌≡◌, ℕ, zero, suc, ◌<◌, ◌≤◌, List, [], ◌∷◌, ◌++◌, length, Option, Some, None, Ok, refl, ap, ◌∙◌, append_assoc, length-append, arith, codes, Half, Source, Target, RawRule, RawStatement, RawPrecondition, RawWitness, mark_at-of, Maybe, SpellsOp, SpellsStatements, SpellsHalf, SpellsPrecondition, SpellsWitness, SpellsRule, SpellsRules, statement_at, statements_at, IsNoStatement, name_text, name_at, precondition_at, witness_at, source_at, arrow_at, target_at, rule_at, rules_at, Token, Line, Head, Name, Register, Arrow, Mark, EndsLine, name_within-of, line_end-of, formula_at-of, Version, Limits}
use Rattle.rule_parse.proofs.Expressions.{expressions_at-of}
use Rattle.rule_parse.proofs.OpSpellings.{op_at-of}

module _ (limits : Limits) (version : Version) where
  -- ---- statements

  statement_at-of : (half : Half) (s : RawStatement) (op rest : List Token) → length s.name ≤ limits.name_bytes → SpellsOp limits version half s.op op → EndsLine rest → statement_at limits version half s.line s.name (Mark (codes "=") ∷ op ++ rest) ≡ Ok (s, rest)
  unfolding statement_at
  statement_at-of half s op rest le is ends = rw (name_within-of limits s.line s.name le, mark_at-of limits (codes "=") s.line (op ++ rest) refl, op_at-of limits version half s.line s.op op rest is ends) refl

  statements_end : (half : Half) (statements : List RawStatement) (own rest : List Token) → SpellsStatements limits version half statements own → EndsLine rest → EndsLine (own ++ rest)
  statements_end half [] own rest is ends = rw is ends
  statements_end half (s ∷ statements) own rest (first, others, one, more, whole) ends = rw (whole, one.spelled) tt

  none_left : (room : ℕ) (half : Half) (tokens : List Token) → IsNoStatement tokens → statements_at limits version room half tokens ≡ Ok ([], tokens)
  unfolding statements_at
  none_left zero half (Line line ∷ Register name ∷ rest) none = absurd none
  none_left (suc room) half (Line line ∷ Register name ∷ rest) none = absurd none
  none_left zero half tokens none = refl
  none_left (suc room) half tokens none = refl

  statements_at-of : (room : ℕ) (half : Half) (statements : List RawStatement) (own rest : List Token) → SpellsStatements limits version half statements own → length statements ≤ room → EndsLine rest → IsNoStatement rest → statements_at limits version room half (own ++ rest) ≡ Ok (statements, rest)
  unfolding statements_at
  statements_at-of room half [] own rest is le ends none = rw is (none_left room half rest none)
  statements_at-of zero half (s ∷ statements) own rest is le ends none = absurd (omega arith)
  statements_at-of (suc room) half (s ∷ statements) own rest (first, others, one, more, whole) le ends none =
      let next : statement_at limits version half s.line s.name (Mark (codes "=") ∷ one.op ++ (others ++ rest)) ≡ Ok (s, others ++ rest) = statement_at-of half s one.op (others ++ rest) one.name one.is_op (statements_end half statements others rest more ends) in
      let rest_read : statements_at limits version room half (others ++ rest) ≡ Ok (statements, rest) = statements_at-of room half statements others rest more (omega arith) ends none in
      rw (whole, one.spelled, append_assoc one.op others rest, next, rest_read) refl

  -- a half begins with a register on a line
  record Begins (tokens : List Token) : Type 0 where
    line : ℕ
    name : List ℕ
    behind : List Token
    is : tokens ≡ Line line ∷ Register name ∷ behind

  half_begins : (half : Half) (statements : List RawStatement) (own rest : List Token) → SpellsHalf limits version half statements own → Begins (own ++ rest)
  half_begins half [] own rest h = let some = h.some in absurd (omega arith)
  half_begins half (s ∷ statements) own rest h =
      let one = h.spelled.2 in
      record { line = s.line; name = s.name; behind = (Mark (codes "=") ∷ one.op ++ h.spelled.1) ++ rest; is = rw (h.spelled.4, one.spelled) refl }

  source_same : (last : ℕ) (tokens : List Token) → Begins tokens → source_at limits version last tokens ≡ statements_at limits version limits.statements Source tokens
  unfolding source_at
  source_same last tokens b = rw b.is refl

  target_same : (last : ℕ) (tokens : List Token) → Begins tokens → target_at limits version last tokens ≡ statements_at limits version limits.statements Target tokens
  unfolding target_at
  target_same last tokens b = rw b.is refl

  source_at-of : (last : ℕ) (statements : List RawStatement) (own rest : List Token) → SpellsHalf limits version Source statements own → EndsLine rest → IsNoStatement rest → source_at limits version last (own ++ rest) ≡ Ok (statements, rest)
  source_at-of last statements own rest h ends none = source_same last (own ++ rest) (half_begins Source statements own rest h) ∙ statements_at-of limits.statements Source statements own rest h.spelled h.most ends none

  target_at-of : (last : ℕ) (statements : List RawStatement) (own rest : List Token) → SpellsHalf limits version Target statements own → EndsLine rest → IsNoStatement rest → target_at limits version last (own ++ rest) ≡ Ok (statements, rest)
  target_at-of last statements own rest h ends none = target_same last (own ++ rest) (half_begins Target statements own rest h) ∙ statements_at-of limits.statements Target statements own rest h.spelled h.most ends none

  -- ---- the parts of a rule

  name_text-of : (line : ℕ) (name : List ℕ) (rest : List Token) → 1 ≤ length name → length name ≤ limits.name_bytes → name_text limits line (Name name ∷ rest) ≡ Ok (name, rest)
  name_text-of line [] rest some le = absurd (omega arith)
  name_text-of line (b ∷ text) rest some le = rw (name_within-of limits line (b ∷ text) le) refl

  name_at-of : (last line : ℕ) (name : List ℕ) (rest : List Token) → 1 ≤ length name → length name ≤ limits.name_bytes → name_at limits last (Line line ∷ Head (codes "Name:") ∷ Name name ∷ rest) ≡ Ok ((line, name), rest)
  unfolding name_at
  name_at-of last line name rest some le = rw (name_text-of line name rest some le) refl

  half_ends : (half : Half) (statements : List RawStatement) (own rest : List Token) → SpellsHalf limits version half statements own → EndsLine (own ++ rest)
  half_ends half statements own rest h = let b = half_begins half statements own rest h in rw b.is tt

  arrow_at-of : (last line : ℕ) (rest : List Token) → EndsLine rest → arrow_at last (Line line ∷ Arrow ∷ rest) ≡ Ok rest
  unfolding arrow_at
  arrow_at-of last line rest ends = line_end-of line rest ends

  -- what follows a rule's name, or its precondition: no `Pre:` is next
  record GoesOn (tokens : List Token) : Type 0 where
    ends : EndsLine tokens
    no_precondition : precondition_at limits tokens ≡ Ok (None, tokens)

  record GoesOnToSource (tokens : List Token) : Type 0 where
    goes_on : GoesOn tokens
    no_witness : witness_at limits tokens ≡ Ok (None, tokens)

  source_goes_on : (tokens : List Token) → Begins tokens → GoesOnToSource tokens
  unfolding precondition_at witness_at
  source_goes_on tokens b = rw b.is (record { goes_on = record { ends = tt; no_precondition = refl }; no_witness = refl })

  witness_goes_on : (w : Option RawWitness) (own rest : List Token) → Maybe (SpellsWitness limits) w own → GoesOn rest → GoesOn (own ++ rest)
  unfolding precondition_at
  witness_goes_on None own rest is next = rw is next
  witness_goes_on (Some w) own rest (o, all, whole) next = rw whole (record { ends = tt; no_precondition = refl })

  precondition_at-of : (p : Option RawPrecondition) (own rest : List Token) → Maybe (SpellsPrecondition limits) p own → GoesOn rest → precondition_at limits (own ++ rest) ≡ Ok (p, rest)
  unfolding precondition_at
  precondition_at-of None own rest is next = rw is next.no_precondition
  precondition_at-of (Some p) own rest (o, formula, whole) next = rw (whole, formula_at-of limits p.line p.formula o rest formula next.ends) refl

  witness_at-of : (w : Option RawWitness) (own rest : List Token) → Maybe (SpellsWitness limits) w own → GoesOnToSource rest → witness_at limits (own ++ rest) ≡ Ok (w, rest)
  unfolding witness_at
  witness_at-of None own rest is next = rw is next.no_witness
  witness_at-of (Some w) own rest (o, all, whole) next = rw (whole, expressions_at-of limits w.line w.expressions o rest all next.goes_on.ends) refl

  rule_at-of : (last : ℕ) (rule : RawRule) (own rest : List Token) → SpellsRule limits version rule own → EndsLine rest → IsNoStatement rest → rule_at limits version last (own ++ rest) ≡ Ok (rule, rest)
  unfolding rule_at
  rule_at-of last rule own rest h ends none =
      let behind : List Token = Line h.arrow_line ∷ Arrow ∷ (h.target ++ rest) in
      let source = source_goes_on (h.source ++ behind) (half_begins Source rule.source h.source behind h.is_source) in
      let witness = witness_goes_on rule.witness h.witness (h.source ++ behind) h.is_witness source.goes_on in
      rw (
        h.spelled,
        append_assoc h.precondition (h.witness ++ (h.source ++ Line h.arrow_line ∷ Arrow ∷ h.target)) rest,
        append_assoc h.witness (h.source ++ Line h.arrow_line ∷ Arrow ∷ h.target) rest,
        append_assoc h.source (Line h.arrow_line ∷ Arrow ∷ h.target) rest,
        name_at-of last rule.line rule.name (h.precondition ++ (h.witness ++ (h.source ++ behind))) h.name.0 h.name.1,
        precondition_at-of rule.precondition h.precondition (h.witness ++ (h.source ++ behind)) h.is_precondition witness,
        witness_at-of rule.witness h.witness (h.source ++ behind) h.is_witness source,
        source_at-of last rule.source h.source behind h.is_source tt tt,
        arrow_at-of last h.arrow_line (h.target ++ rest) (half_ends Target rule.target h.target rest h.is_target),
        target_at-of last rule.target h.target rest h.is_target ends none,
      ) refl

  -- ---- rules

  rules_end : (raws : List RawRule) (tokens : List Token) → SpellsRules limits version raws tokens → EndsLine tokens × IsNoStatement tokens
  rules_end [] tokens is = rw is (tt, tt)
  rules_end (rule ∷ rules) tokens (own, rest, one, more, whole) = rw (whole, one.spelled) (tt, tt)

  pub rules_at-of : (n last : ℕ) (raws : List RawRule) (tokens : List Token) → SpellsRules limits version raws tokens → length tokens ≤ n → rules_at limits version n last tokens ≡ Ok raws
  unfolding rules_at
  rules_at-of n last [] tokens is le = rw is refl
  rules_at-of zero last (rule ∷ rules) tokens (own, rest, one, more, whole) le = absurd (omega (arith, ap length whole, length-append own rest, ap length one.spelled))
  rules_at-of (suc n) last (rule ∷ rules) tokens (own, rest, one, more, whole) le =
      let ends = rules_end rules rest more in
      let first : rule_at limits version last (own ++ rest) ≡ Ok (rule, rest) = rule_at-of last rule own rest one ends.0 ends.1 in
      let short : length rest ≤ n = omega (arith, ap length whole, length-append own rest, ap length one.spelled) in
      let others : rules_at limits version n last rest ≡ Ok rules = rules_at-of n last rules rest more short in
      rw whole (stepped n last (own ++ rest) rule rules rest first others (omega (arith, length-append own rest, ap length one.spelled)))
    where
      stepped : (n last : ℕ) (tokens : List Token) (rule : RawRule) (rules : List RawRule) (rest : List Token) → rule_at limits version last tokens ≡ Ok (rule, rest) → rules_at limits version n last rest ≡ Ok rules → 0 < length tokens → rules_at limits version (suc n) last tokens ≡ Ok (rule ∷ rules)
      stepped n last [] rule rules rest first others some = absurd (omega arith)
      stepped n last (token ∷ tokens) rule rules rest first others some = rw (first, others) refl
