-- What the parser reads is what the grammar spells with the tokens that it takes.
use Rattle.rule_parse.proofs.Common.{◌≡◌, ℕ, zero, suc, ◌<◌, ◌≤◌, Bool, true, false, cond, List, [], ◌∷◌, ◌++◌, length, Option, Some, None, Ok, Err, refl, sym, ap, subst, ◌∙◌, ⊎_elim, append_assoc, length-append, arith, codes, bytes_eq, same_word, Syntax, Half, Source, Target, RawRule, RawStatement, RawPrecondition, RawWitness, formula_at, mark_at, mark_at-is, Maybe, ◌>>=◌, SpellsStatement, SpellsStatements, SpellsHalf, SpellsPrecondition, SpellsWitness, SpellsRule, SpellsRules, fault, name_within, op_at, statement_at, statements_at, name_text, name_at, behind_precondition, precondition_at, expressions_at, behind_witness, witness_at, source_at, arrow_at, target_at, rule_at, rules_at, Token, Line, Head, Name, Register, Arrow, Mark, Takes, name_within-is, line_end-is, formula_at-is, done, bind_ok, bound, read_as, chosen, Version, Limits}
use Rattle.rule_tokens.proofs.Takes.{nothing}
use Rattle.rule_parse.proofs.Expressions.{expressions_at-is}
use Rattle.rule_parse.proofs.OpReadings.{op_at-is}

module _ (limits : Limits) (version : Version) where
  -- ---- statements

  pub statement_at-is : (half : Half) (line : ℕ) (register : List ℕ) (tokens : List Token) (x : RawStatement × List Token) → statement_at limits version half line register tokens ≡ Ok x → Takes (SpellsStatement limits version half x.0) (Line line ∷ Register register ∷ tokens) x.1
  unfolding statement_at
  statement_at-is half line register tokens x e =
      bound (name_within limits line register) _ _ e (λ held n e1.
      bound (mark_at (codes "=") line tokens) _ _ e1 (λ behind q e2.
      bound (op_at limits version half line behind) _ _ e2 (λ computed o e3.
      let name = name_within-is limits line register held n in
      let op = op_at-is limits version half line behind computed o in
      read_as (λ (y : RawStatement × List Token). Takes (SpellsStatement limits version half y.0) (Line line ∷ Register register ∷ tokens) y.1) (record { line = line; name = held; op = computed.0 }, computed.1) x e3
      (record {
        own = Line line ∷ Register held ∷ Mark (codes "=") ∷ op.own;
        is_own = record { name = name.0; op = op.own; is_op = op.is_own; spelled = refl };
        whole = ap (λ (r : List ℕ). Line line ∷ Register r ∷ tokens) name.1 ∙ ap (λ (ts : List Token). Line line ∷ Register held ∷ ts) (mark_at-is limits (codes "=") line tokens behind q ∙ ap (λ (ts : List Token). Mark (codes "=") ∷ ts) op.whole);
      }))))

  -- the statements that are read are spelled so, and are no more than there is room for
  pub record TakesStatements (room : ℕ) (half : Half) (statements : List RawStatement) (tokens rest : List Token) : Type 0 where
    pub taken : Takes (SpellsStatements limits version half statements) tokens rest
    pub most : length statements ≤ room

  no_statements : (room : ℕ) (half : Half) (tokens : List Token) → TakesStatements room half [] tokens tokens
  no_statements room half tokens = record { taken = record { own = []; is_own = refl; whole = refl }; most = omega arith }

  none_taken : (room : ℕ) (half : Half) (tokens : List Token) (x : List RawStatement × List Token) → done ([], tokens) ≡ Ok x → TakesStatements room half x.0 tokens x.1
  none_taken room half tokens x e = read_as (λ (y : List RawStatement × List Token). TakesStatements room half y.0 tokens y.1) ([], tokens) x e (no_statements room half tokens)

  one_taken : (room : ℕ) (half : Half) (line : ℕ) (name : List ℕ) (rest : List Token) (x : List RawStatement × List Token) (first : RawStatement × List Token) (others : List RawStatement × List Token) → statement_at limits version half line name rest ≡ Ok first → TakesStatements room half others.0 first.1 others.1 → done (first.0 ∷ others.0, others.1) ≡ Ok x
      → TakesStatements (suc room) half x.0 (Line line ∷ Register name ∷ rest) x.1
  one_taken room half line name rest x first others one more e =
      let s = statement_at-is half line name rest first one in
      read_as (λ (y : List RawStatement × List Token). TakesStatements (suc room) half y.0 (Line line ∷ Register name ∷ rest) y.1) (first.0 ∷ others.0, others.1) x e
      (record {
        taken = record {
          own = s.own ++ more.taken.own;
          is_own = (s.own, more.taken.own, s.is_own, more.taken.is_own, refl);
          whole = s.whole ∙ ap (λ (ts : List Token). s.own ++ ts) more.taken.whole ∙ sym (append_assoc s.own more.taken.own others.1);
        };
        most = omega (arith, more.most);
      })

  pub statements_at-is : (room : ℕ) (half : Half) (tokens : List Token) (x : List RawStatement × List Token) → statements_at limits version room half tokens ≡ Ok x → TakesStatements room half x.0 tokens x.1
  unfolding statements_at
  statements_at-is zero half (Line line ∷ Register name ∷ rest) x e = absurd cc
  statements_at-is (suc room) half (Line line ∷ Register name ∷ rest) x e =
      let a = bind_ok (statement_at limits version half line name rest) _ _ e in
      let b = bind_ok (statements_at limits version room half a.0.1) _ _ a.2 in
      one_taken room half line name rest x a.0 b.0 a.1 (statements_at-is room half a.0.1 b.0 b.1) b.2
  statements_at-is zero half tokens x e = none_taken zero half tokens x e
  statements_at-is (suc room) half tokens x e = none_taken (suc room) half tokens x e

  -- where a statement is next, one at least is read
  some_read : (room : ℕ) (half : Half) (line : ℕ) (name : List ℕ) (rest : List Token) (x : List RawStatement × List Token) → statements_at limits version room half (Line line ∷ Register name ∷ rest) ≡ Ok x → 1 ≤ length x.0
  unfolding statements_at
  some_read zero half line name rest x e = absurd cc
  some_read (suc room) half line name rest x e =
      let a = bind_ok (statement_at limits version half line name rest) _ _ e in
      let b = bind_ok (statements_at limits version room half a.0.1) _ _ a.2 in
      read_as (λ (y : List RawStatement × List Token). 1 ≤ length y.0) (a.0.0 ∷ b.0.0, b.0.1) x b.2 (omega arith)

  half_read : (half : Half) (line : ℕ) (name : List ℕ) (rest : List Token) (x : List RawStatement × List Token) → statements_at limits version limits.statements half (Line line ∷ Register name ∷ rest) ≡ Ok x → Takes (SpellsHalf limits version half x.0) (Line line ∷ Register name ∷ rest) x.1
  half_read half line name rest x e =
      let s = statements_at-is limits.statements half (Line line ∷ Register name ∷ rest) x e in
      record {
        own = s.taken.own;
        is_own = record { some = some_read limits.statements half line name rest x e; most = s.most; spelled = s.taken.is_own };
        whole = s.taken.whole;
      }

  -- ---- the parts of a rule

  pub source_at-is : (last : ℕ) (tokens : List Token) (x : List RawStatement × List Token) → source_at limits version last tokens ≡ Ok x → Takes (SpellsHalf limits version Source x.0) tokens x.1
  unfolding source_at
  source_at-is last (Line line ∷ Register name ∷ rest) x e = half_read Source line name rest x e
  source_at-is last tokens x e = absurd cc

  pub target_at-is : (last : ℕ) (tokens : List Token) (x : List RawStatement × List Token) → target_at limits version last tokens ≡ Ok x → Takes (SpellsHalf limits version Target x.0) tokens x.1
  unfolding target_at
  target_at-is last (Line line ∷ Register name ∷ rest) x e = half_read Target line name rest x e
  target_at-is last tokens x e = absurd cc

  pub arrow_at-is : (last : ℕ) (tokens rest : List Token) → arrow_at last tokens ≡ Ok rest → (line : ℕ) × (tokens ≡ Line line ∷ Arrow ∷ rest)
  unfolding arrow_at
  arrow_at-is last (Line line ∷ Arrow ∷ behind) rest e = (line, ap (λ (ts : List Token). Line line ∷ Arrow ∷ ts) (line_end-is line behind rest e))
  arrow_at-is last tokens rest e = absurd cc

  name_text-is : (line : ℕ) (tokens : List Token) (x : List ℕ × List Token) → name_text limits line tokens ≡ Ok x → (1 ≤ length x.0) × (length x.0 ≤ limits.name_bytes) × (tokens ≡ Name x.0 ∷ x.1)
  name_text-is line (Name [] ∷ rest) x e = absurd cc
  name_text-is line (Name (b ∷ text) ∷ rest) x e =
      let n = bind_ok (name_within limits line (b ∷ text)) _ _ e in
      let w = name_within-is limits line (b ∷ text) n.0 n.1 in
      read_as (λ (y : List ℕ × List Token). (1 ≤ length y.0) × (length y.0 ≤ limits.name_bytes) × (Name (b ∷ text) ∷ rest ≡ Name y.0 ∷ y.1)) (n.0, rest) x n.2
      (subst (λ (name : List ℕ). 1 ≤ length name) w.1 (omega arith), w.0, ap (λ (name : List ℕ). Name name ∷ rest) w.1)
  name_text-is line tokens x e = absurd cc

  abbrev pub IsNamed : List Token → (ℕ × List ℕ) × List Token → Type 0
  IsNamed tokens x = (1 ≤ length x.0.1) × (length x.0.1 ≤ limits.name_bytes) × (tokens ≡ Line x.0.0 ∷ Head (codes "Name:") ∷ Name x.0.1 ∷ x.1)

  pub name_at-is : (last : ℕ) (tokens : List Token) (x : (ℕ × List ℕ) × List Token) → name_at limits last tokens ≡ Ok x → IsNamed tokens x
  unfolding name_at
  name_at-is last (Line line ∷ Head head ∷ rest) x e = headed (bytes_eq head (codes "Name:")) refl e
    where
      headed : (b : Bool) → bytes_eq head (codes "Name:") ≡ b → cond b (name_text limits line rest >>= λ name. Ok ((line, name.0), name.1)) (Err (fault line Syntax)) ≡ Ok x → IsNamed (Line line ∷ Head head ∷ rest) x
      headed true h e =
          let n = bind_ok (name_text limits line rest) _ _ e in
          let t = name_text-is line rest n.0 n.1 in
          read_as (IsNamed (Line line ∷ Head head ∷ rest)) ((line, n.0.0), n.0.1) x n.2
          (t.0, t.1, ap (λ (text : List ℕ). Line line ∷ Head text ∷ rest) (same_word head (codes "Name:") h) ∙ ap (λ (ts : List Token). Line line ∷ Head (codes "Name:") ∷ ts) t.2)
      headed false h e = absurd cc
  name_at-is last tokens x e = absurd cc

  precondition_read : (line : ℕ) (head : List ℕ) (rest : List Token) (x : Option RawPrecondition × List Token) → head ≡ codes "Pre:" → behind_precondition limits line rest ≡ Ok x → Takes (Maybe (SpellsPrecondition limits) x.0) (Line line ∷ Head head ∷ rest) x.1
  precondition_read line head rest x is e =
      let f = bind_ok (formula_at limits line rest) _ _ e in
      let s = formula_at-is limits line rest f.0 f.1 in
      read_as (λ (y : Option RawPrecondition × List Token). Takes (Maybe (SpellsPrecondition limits) y.0) (Line line ∷ Head head ∷ rest) y.1) (Some (record { line = line; formula = f.0.0 }), f.0.1) x f.2
      (record {
        own = Line line ∷ Head (codes "Pre:") ∷ s.own;
        is_own = (s.own, s.is_own, refl);
        whole = ap (λ (h : List ℕ). Line line ∷ Head h ∷ rest) is ∙ ap (λ (ts : List Token). Line line ∷ Head (codes "Pre:") ∷ ts) s.whole;
      })

  no_precondition : (tokens : List Token) (x : Option RawPrecondition × List Token) → done (None, tokens) ≡ Ok x → Takes (Maybe (SpellsPrecondition limits) x.0) tokens x.1
  no_precondition tokens x e = read_as (λ (y : Option RawPrecondition × List Token). Takes (Maybe (SpellsPrecondition limits) y.0) tokens y.1) (None, tokens) x e (nothing tokens)

  pub precondition_at-is : (tokens : List Token) (x : Option RawPrecondition × List Token) → precondition_at limits tokens ≡ Ok x → Takes (Maybe (SpellsPrecondition limits) x.0) tokens x.1
  unfolding precondition_at
  precondition_at-is (Line line ∷ Head head ∷ rest) x e = ⊎_elim
      (λ (h : (bytes_eq head (codes "Pre:") ≡ true) × (behind_precondition limits line rest ≡ Ok x)). precondition_read line head rest x (same_word head (codes "Pre:") h.0) h.1)
      (λ (h : (bytes_eq head (codes "Pre:") ≡ false) × (done (None, Line line ∷ Head head ∷ rest) ≡ Ok x)). no_precondition (Line line ∷ Head head ∷ rest) x h.1)
      (chosen (bytes_eq head (codes "Pre:")) (behind_precondition limits line rest) (done (None, Line line ∷ Head head ∷ rest)) (Ok x) e)
  precondition_at-is tokens x e = no_precondition tokens x e

  witness_read : (line : ℕ) (head : List ℕ) (rest : List Token) (x : Option RawWitness × List Token) → head ≡ codes "Wit:" → behind_witness limits line rest ≡ Ok x → Takes (Maybe (SpellsWitness limits) x.0) (Line line ∷ Head head ∷ rest) x.1
  witness_read line head rest x is e =
      let f = bind_ok (expressions_at limits line rest) _ _ e in
      let s = expressions_at-is limits line rest f.0 f.1 in
      read_as (λ (y : Option RawWitness × List Token). Takes (Maybe (SpellsWitness limits) y.0) (Line line ∷ Head head ∷ rest) y.1) (Some (record { line = line; expressions = f.0.0 }), f.0.1) x f.2
      (record {
        own = Line line ∷ Head (codes "Wit:") ∷ s.own;
        is_own = (s.own, s.is_own, refl);
        whole = ap (λ (h : List ℕ). Line line ∷ Head h ∷ rest) is ∙ ap (λ (ts : List Token). Line line ∷ Head (codes "Wit:") ∷ ts) s.whole;
      })

  no_witness : (tokens : List Token) (x : Option RawWitness × List Token) → done (None, tokens) ≡ Ok x → Takes (Maybe (SpellsWitness limits) x.0) tokens x.1
  no_witness tokens x e = read_as (λ (y : Option RawWitness × List Token). Takes (Maybe (SpellsWitness limits) y.0) tokens y.1) (None, tokens) x e (nothing tokens)

  pub witness_at-is : (tokens : List Token) (x : Option RawWitness × List Token) → witness_at limits tokens ≡ Ok x → Takes (Maybe (SpellsWitness limits) x.0) tokens x.1
  unfolding witness_at
  witness_at-is (Line line ∷ Head head ∷ rest) x e = ⊎_elim
      (λ (h : (bytes_eq head (codes "Wit:") ≡ true) × (behind_witness limits line rest ≡ Ok x)). witness_read line head rest x (same_word head (codes "Wit:") h.0) h.1)
      (λ (h : (bytes_eq head (codes "Wit:") ≡ false) × (done (None, Line line ∷ Head head ∷ rest) ≡ Ok x)). no_witness (Line line ∷ Head head ∷ rest) x h.1)
      (chosen (bytes_eq head (codes "Wit:")) (behind_witness limits line rest) (done (None, Line line ∷ Head head ∷ rest)) (Ok x) e)
  witness_at-is tokens x e = no_witness tokens x e

  pub rule_at-is : (last : ℕ) (tokens : List Token) (x : RawRule × List Token) → rule_at limits version last tokens ≡ Ok x → Takes (SpellsRule limits version x.0) tokens x.1
  unfolding rule_at
  rule_at-is last tokens x e =
      bound (name_at limits last tokens) _ _ e (λ named n e1.
      bound (precondition_at limits named.1) _ _ e1 (λ pre p e2.
      bound (witness_at limits pre.1) _ _ e2 (λ wit q e3.
      bound (source_at limits version last wit.1) _ _ e3 (λ from s e4.
      bound (arrow_at last from.1) _ _ e4 (λ behind w e5.
      bound (target_at limits version last behind) _ _ e5 (λ to t e6.
      let name = name_at-is last tokens named n in
      let precondition = precondition_at-is named.1 pre p in
      let witness = witness_at-is pre.1 wit q in
      let source = source_at-is last wit.1 from s in
      let arrow = arrow_at-is last from.1 behind w in
      let target = target_at-is last behind to t in
      let front : List Token → List Token = λ ts. Line named.0.0 ∷ Head (codes "Name:") ∷ Name named.0.1 ∷ ts in
      let back : List Token → List Token = λ ts. Line arrow.0 ∷ Arrow ∷ ts in
      let halves : wit.1 ≡ (source.own ++ back target.own) ++ to.1 =
      source.whole ∙ ap (λ (ts : List Token). source.own ++ ts) (arrow.1 ∙ ap back target.whole) ∙ sym (append_assoc source.own (back target.own) to.1) in
      let behind_pre : pre.1 ≡ (witness.own ++ (source.own ++ back target.own)) ++ to.1 =
      witness.whole ∙ ap (λ (ts : List Token). witness.own ++ ts) halves ∙ sym (append_assoc witness.own (source.own ++ back target.own) to.1) in
      read_as (λ (y : RawRule × List Token). Takes (SpellsRule limits version y.0) tokens y.1) (record { line = named.0.0; name = named.0.1; precondition = pre.0; witness = wit.0; source = from.0; target = to.0 }, to.1) x e6
      (record {
        own = front (precondition.own ++ (witness.own ++ (source.own ++ back target.own)));
        is_own = record {
          name = (name.0, name.1);
          precondition = precondition.own;
          is_precondition = precondition.is_own;
          witness = witness.own;
          is_witness = witness.is_own;
          source = source.own;
          is_source = source.is_own;
          arrow_line = arrow.0;
          target = target.own;
          is_target = target.is_own;
          spelled = refl;
        };
        whole = name.2 ∙ ap front (precondition.whole ∙ ap (λ (ts : List Token). precondition.own ++ ts) behind_pre ∙ sym (append_assoc precondition.own (witness.own ++ (source.own ++ back target.own)) to.1));
      })))))))

  -- ---- rules

  pub rule_at-shorter : (last : ℕ) (tokens : List Token) (x : RawRule × List Token) → rule_at limits version last tokens ≡ Ok x → length x.1 < length tokens
  rule_at-shorter last tokens x e =
      let t = rule_at-is last tokens x e in
      omega (arith, ap length t.whole, length-append t.own x.1, ap length t.is_own.spelled)

  pub rules_at-is : (n last : ℕ) (tokens : List Token) (raws : List RawRule) → rules_at limits version n last tokens ≡ Ok raws → SpellsRules limits version raws tokens
  unfolding rules_at
  rules_at-is n last [] raws e = read_as (λ (rs : List RawRule). SpellsRules limits version rs []) [] raws e refl
  rules_at-is zero last (token ∷ tokens) raws e = absurd cc
  rules_at-is (suc n) last (token ∷ tokens) raws e =
      let a = bind_ok (rule_at limits version last (token ∷ tokens)) _ _ e in
      let b = bind_ok (rules_at limits version n last a.0.1) _ _ a.2 in
      let one = rule_at-is last (token ∷ tokens) a.0 a.1 in
      read_as (λ (rs : List RawRule). SpellsRules limits version rs (token ∷ tokens)) (a.0.0 ∷ b.0) raws b.2
      (one.own, a.0.1, one.is_own, rules_at-is n last a.0.1 b.0 b.1, one.whole)
