-- What the parsers of the parts of a rule do, line by line.
use Rattle.rule_viable_prefixes.proofs.Common.{◌≡◌, ℕ, zero, suc, ◌≤◌, Bool, true, false, List, [], ◌∷◌, ◌++◌, length, Option, Some, None, Result, Ok, Err, refl, sym, ap, subst, ◌∙◌, inl, inr, arith, drop, codes, bytes_eq, append-nil, same_word, no_flags, flags_of, flags_of_cast, flags_of_icmp, Syntax, TooMany, RuleFault, ◌>>=◌, Part, ◌⨾◌, Maybe, fault, unexpected, name_within, type_at, line_end, Token, Line, Head, Name, Register, Word, Arrow, EndsLine, name_within-of, bound, read_as, Witness, RawNode, loosest, mark_at, members_of, outer_member_at, is_outer, or_alternatives, formula_at, Half, Source, Target, RawStatement, RawPrecondition, RawWitness, Operation, SpellsStatement, SpellsStatements, SpellsHalf, SpellsPrecondition, SpellsExpression, SpellsMoreExpressions, SpellsExpressions, SpellsWitness, typed_at, to_at, flags_at, pair_at, binary_at, pred_at, compare_at, truth_at, unary_at, select_at, convert_at, freeze_at, copy_at, operation_at, next_operation, operation_or_other, op_at, statement_at, statements_at, name_text, name_at, behind_precondition, precondition_at, expression_at, more_expressions, expressions_at, behind_witness, witness_at, source_at, arrow_at, target_at, expression_shortens, name_at-is, Version, Limits}
use Rattle.rule_parse.specs.declared.word.Operation.TheVariants as operations
use Rattle.rule_parse.specs.RuleReaders.{operand_at}
use Rattle.rule_viable_prefixes.proofs.Formulas.{IsWholeFormula, formula_good}
use Rattle.rule_viable_prefixes.proofs.Reasons as kinds
use Rattle.rule_viable_prefixes.proofs.Reasons.{openings_on_line, HalfEnds}
use Rattle.rule_viable_prefixes.proofs.FlagRuns.{none_new}
use Rattle.rule_viable_prefixes.proofs.Outcomes.{lack_wider, Lack, Akin, same_next, noun_next, ended_next, akin, akin_behind, akin_noun, Alike, same, ended, alike_itself, Shape, pair, bare, Reader, IsErrOn, Good, then, led, widen, Branch, takes, refuses, by_token, then_done, none_behind, widened}
use Rattle.rule_viable_prefixes.proofs.Tolds.{says_wider, says_syntax, says_too_many, says_unexpected}
use Rattle.rule_viable_prefixes.proofs.Parts.{Spelled, then_end, chain_good, line_end_good}
use Rattle.rule_viable_prefixes.proofs.Rules.{Completes, GoesOn, Opens, Verdict, verdict_both, on_a_line, verdict_wider}
use Rattle.rule_viable_prefixes.proofs.Statements.{IsAssigned, statement_good}
use Rattle.rule_viable_prefixes.proofs.Terms.{Named, is_short, is_long, named, Term, term_good}
use Rattle.rule_viable_prefixes.proofs.Roomy.{roomy}

-- behind a rule's name its line ends
abbrev pub NamesEndLines : List Token → Type 0
NamesEndLines [] = Unit {0}
NamesEndLines (Name name ∷ tokens) = EndsLine tokens × NamesEndLines tokens
NamesEndLines (token ∷ tokens) = NamesEndLines tokens

pub names_behind : (own rest : List Token) → NamesEndLines (own ++ rest) → NamesEndLines rest
names_behind [] rest n = n
names_behind (Name name ∷ own) rest n = names_behind own rest n.1
names_behind (token ∷ own) rest n = names_behind own rest n

module _ (spare_bytes deepest spare_statements : ℕ) (version : Version) where
  abbrev limits : Limits
  limits = roomy spare_bytes deepest spare_statements

  -- ---- parsers that end at the end of a line

  line_end_ends : (line : ℕ) (tokens rest : List Token) → line_end line tokens ≡ Ok rest → EndsLine rest
  line_end_ends line [] rest e = subst EndsLine (Rattle.rule_tokens.proofs.Steps.ok_is _ _ e) tt
  line_end_ends line (Line number ∷ tokens) rest e = subst EndsLine (Rattle.rule_tokens.proofs.Steps.ok_is _ _ e) tt
  line_end_ends line tokens rest e = absurd cc

  -- whatever value is read
  abbrev Ends : {A : Type 0} → Result (A × List Token) RuleFault → Type 0
  Ends {A} r = (x : A) (rest : List Token) → r ≡ Ok (x, rest) → EndsLine rest

  ends_behind : {A B : Type 0} (r : Result A RuleFault) (f : A → Result (B × List Token) RuleFault) → ((x : A) → Ends (f x)) → Ends (r >>= f)
  ends_behind r f h x rest e = bound r f (x, rest) e (λ y p e1. h y x rest e1)

  ends_made : {A B : Type 0} (r : Result (A × List Token) RuleFault) (f : A → B) → Ends r → Ends (r >>= λ x. Ok (f x.0, x.1))
  ends_made r f h x rest e = bound r _ (x, rest) e (λ y p e1. read_as (λ z. EndsLine z.1) (f y.0, y.1) (x, rest) e1 (h y.0 y.1 p))

  ends_line : {B : Type 0} (line : ℕ) (tokens : List Token) (y : B) → Ends (line_end line tokens >>= λ behind. Ok (y, behind))
  ends_line line tokens y x rest e = bound (line_end line tokens) _ (x, rest) e (λ behind p e1. read_as (λ z. EndsLine z.1) (y, behind) (x, rest) e1 (line_end_ends line tokens behind p))

  pair_ends : (half : Half) (line : ℕ) (tokens : List Token) → Ends (pair_at limits half line tokens)
  unfolding pair_at
  pair_ends half line tokens =
      ends_behind (operand_at limits half line tokens) _ (λ left. ends_behind (mark_at (codes ",") line left.1) _ (λ behind. ends_behind (typed_at limits half line None behind) _ (λ right. ends_line line right.1 (left.0, right.0))))

  to_ends_line : (line : ℕ) (tokens : List Token) → Ends (to_at line tokens)
  unfolding to_at
  to_ends_line line (Word word ∷ rest) = by (bytes_eq word (codes "to")) refl
    where
      by : (b : Bool) → bytes_eq word (codes "to") ≡ b → Ends (to_at line (Word word ∷ rest))
      by true h = subst Ends (sym (rw h refl)) (ends_behind (type_at line rest) _ (λ width. ends_line line width.1 (Some width.0)))
      by false h = λ x r e. let err : to_at line (Word word ∷ rest) ≡ Err (fault line Syntax) = rw h refl in let no_ok = sym err ∙ e in absurd cc
  to_ends_line line tokens = ends_line line tokens None

  operation_ends : (half : Half) (line : ℕ) (operation : Operation) (tokens : List Token) → Ends (operation_at limits half line operation tokens)
  unfolding binary_at compare_at unary_at select_at convert_at freeze_at
  operation_ends half line (operations.Binary op) tokens = ends_behind (flags_at (flags_of op) line no_flags tokens) _ (λ flags. λ x rest e. bound (pair_at limits half line flags.1) _ (x, rest) e (λ y p e1. read_as (λ z. EndsLine z.1) _ (x, rest) e1 (pair_ends half line flags.1 y.0 y.1 p)))
  operation_ends half line operations.Compare tokens =
      ends_behind (flags_at flags_of_icmp line no_flags tokens) _ (λ flags. ends_behind (pred_at line flags.1) _ (λ pred. λ x rest e. bound (pair_at limits half line pred.1) _ (x, rest) e (λ y p e1. read_as (λ z. EndsLine z.1) _ (x, rest) e1 (pair_ends half line pred.1 y.0 y.1 p))))
  operation_ends half line (operations.Unary op) tokens = ends_behind (truth_at op line tokens) _ (λ truth. ends_behind (operand_at limits half line truth.1) _ (λ operand. ends_line line operand.1 _))
  operation_ends half line operations.Select tokens =
      ends_behind (operand_at limits half line tokens) _ (λ condition. ends_behind (mark_at (codes ",") line condition.1) _ (λ first. ends_behind (operand_at limits half line first) _ (λ if_true. ends_behind (mark_at (codes ",") line if_true.1) _ (λ second.
      ends_behind (operand_at limits half line second) _ (λ if_false. ends_line line if_false.1 _)))))
  operation_ends half line (operations.Convert cast) tokens =
      ends_behind (flags_at (flags_of_cast cast) line no_flags tokens) _ (λ flags. ends_behind (operand_at limits half line flags.1) _ (λ from. λ x rest e. bound (to_at line from.1) _ (x, rest) e (λ y p e1. read_as (λ z. EndsLine z.1) _ (x, rest) e1 (to_ends_line line from.1 y.0 y.1 p))))
  operation_ends half line operations.Freeze tokens = ends_behind (operand_at limits half line tokens) _ (λ operand. ends_line line operand.1 _)

  copy_ends : (line : ℕ) (tokens : List Token) → Ends (copy_at limits line tokens)
  unfolding copy_at
  copy_ends line tokens = ends_behind (operand_at limits Target line tokens) _ (λ operand. ends_line line operand.1 _)

  other_ends : (half : Half) (line : ℕ) (tokens : List Token) → Ends (Rattle.rule_parse.specs.RuleReaders.other_at limits half line tokens)
  other_ends Source line tokens = λ x rest e. absurd cc
  other_ends Target line tokens = copy_ends line tokens

  operation_or_other_ends : (half : Half) (line : ℕ) (found : Option Operation) (tokens : List Token) → Ends (operation_or_other limits half line found tokens)
  operation_or_other_ends half line (Some operation) tokens = operation_ends half line operation (drop 1 tokens)
  operation_or_other_ends half line None tokens = other_ends half line tokens

  op_ends : (half : Half) (line : ℕ) (tokens : List Token) → Ends (op_at limits version half line tokens)
  unfolding op_at
  op_ends half line tokens = operation_or_other_ends half line (next_operation version tokens) tokens

  statement_ends : (half : Half) (line : ℕ) (name : List ℕ) (tokens : List Token) → Ends (statement_at limits version half line name tokens)
  unfolding statement_at
  statement_ends half line name tokens =
      ends_behind (name_within limits line name) _ (λ held. ends_behind (mark_at (codes "=") line tokens) _ (λ behind. λ x rest e. bound (op_at limits version half line behind) _ (x, rest) e (λ y p e1. read_as (λ z. EndsLine z.1) _ (x, rest) e1 (op_ends half line behind y.0 y.1 p))))

  -- ---- what a parser does is what an equal one does, and one that makes another value of what is read

  pub verdict_as : {A X : Type 0} (shape : Shape limits A X) (R S : Reader limits X) (L F : Part) (last number : ℕ) (a : List Token) → ((b : List Token) → Akin a b → R (Line number ∷ b) ≡ S (Line number ∷ b))
      → Verdict limits shape S L F last (Line number ∷ a) (S (Line number ∷ a)) → Verdict limits shape R L F last (Line number ∷ a) (R (Line number ∷ a))
  verdict_as {A} {X} shape R S L F last number a h v = subst (Verdict limits shape R L F last (Line number ∷ a)) (sym (h a (akin (alike_itself a)))) (by (S (Line number ∷ a)) v)
    where
      by : (r : Result X RuleFault) → Verdict limits shape S L F last (Line number ∷ a) r → Verdict limits shape R L F last (Line number ∷ a) r
      by (Ok x) o = record { value = o.value; own = o.own; rest = o.rest; is_own = o.is_own; there = o.there; ends = o.ends; is = o.is; kept = λ n c d e alike. equal o.own n c d (o.there ∙ ap (λ (ts : List Token). o.own ++ ts) e) alike ∙ o.kept n c d e alike }
        where
          equal : (own : List Token) (n : ℕ) (c d : List Token) → Line number ∷ a ≡ own ++ Line n ∷ c → Akin c d → R (own ++ Line n ∷ d) ≡ S (own ++ Line n ∷ d)
          equal [] n c d e alike =
              let first : number ≡ n = let f = e in cc in
              let rest : a ≡ c = let f = e in cc in
              subst (λ (k : ℕ). R (Line k ∷ d) ≡ S (Line k ∷ d)) first (h d (subst (λ (ts : List Token). Akin ts d) (sym rest) alike))
          equal (t ∷ own) n c d e alike =
              let first : Line number ≡ t = let f = e in cc in
              let rest : a ≡ own ++ Line n ∷ c = let f = e in cc in
              subst (λ (u : Token). R (u ∷ own ++ Line n ∷ d) ≡ S (u ∷ own ++ Line n ∷ d)) first
              (h (own ++ Line n ∷ d) (subst (λ (ts : List Token). Akin ts (own ++ Line n ∷ d)) (sym rest) (akin_behind own (Line n ∷ c) (Line n ∷ d) (same_next (Line n) c d))))
      by (Err e) (inl w) =
          let first : number ≡ w.number = let f = w.there in cc in
          let rest : a ≡ w.front ++ w.behind = let f = w.there in cc in
          inl (record {
            number = w.number;
            front = w.front;
            behind = w.behind;
            there = w.there;
            begins = w.begins;
            refused = λ more alike.
                let f = w.refused more alike in
                (f.0, subst (λ (k : ℕ). R (Line k ∷ w.front ++ more) ≡ S (Line k ∷ w.front ++ more)) first (h (w.front ++ more) (subst (λ (ts : List Token). Akin ts (w.front ++ more)) (sym rest) (akin_behind w.front w.behind more (akin alike)))) ∙ f.1);
            here = w.here;
            says = says_wider limits (openings_on_line w.front) (openings_on_line w.front) (omega arith) (GoesOn limits L F w.number w.front) (GoesOn limits L F w.number w.front) (λ t fits. fits) w.behind
                (λ word r is_word. lack_wider limits [] w.front w.front word refl (λ n noun is_noun more.
                let f = n noun is_noun more in (
                  f.0,
                  subst (λ (k : ℕ). R (Line k ∷ w.front ++ Word noun ∷ more) ≡ S (Line k ∷ w.front ++ Word noun ∷ more)) first
                      (h (w.front ++ Word noun ∷ more) (subst (λ (ts : List Token). Akin ts (w.front ++ Word noun ∷ more)) (sym rest) (akin_noun w.front w.behind word r is_word noun is_noun more))) ∙ f.1,
                ))) e.kind w.says;
            new = w.new;
          })
      by (Err e) (inr m) = inr m

  pub verdict_made : {A B : Type 0} (R : Reader limits (A × List Token)) (f : A → B) (L F : Part) (last : ℕ) (tokens : List Token) → Verdict limits (pair limits) R L F last tokens (R tokens) → Verdict limits (pair limits) (λ ts. R ts >>= λ x. Ok (f x.0, x.1)) L F last tokens (R tokens >>= λ x. Ok (f x.0, x.1))
  verdict_made {A} {B} R f L F last tokens v = by (R tokens) v
    where
      by : (r : Result (A × List Token) RuleFault) → Verdict limits (pair limits) R L F last tokens r → Verdict limits (pair limits) (λ ts. R ts >>= λ x. Ok (f x.0, x.1)) L F last tokens (r >>= λ x. Ok (f x.0, x.1))
      by (Ok x) o = record { value = f o.value; own = o.own; rest = o.rest; is_own = o.is_own; there = o.there; ends = o.ends; is = ap (λ (y : A × List Token). (f y.0, y.1)) o.is; kept = λ n a b e alike. rw (o.kept n a b e alike) refl }
      by (Err e) (inl w) = inl (record { number = w.number; front = w.front; behind = w.behind; there = w.there; begins = w.begins; refused = λ more alike. let g = w.refused more alike in (g.0, rw g.1 refl); here = w.here; says = says_wider limits (openings_on_line w.front) (openings_on_line w.front) (omega arith) (GoesOn limits L F w.number w.front) (GoesOn limits L F w.number w.front) (λ t fits. fits) w.behind (λ word r is_word. lack_wider limits [] w.front w.front word refl (λ n noun is_noun more. let g = n noun is_noun more in (g.0, rw g.1 refl))) e.kind w.says; new = w.new })
      by (Err e) (inr m) = inr (record { begins = m.begins; here = m.here; says = m.says })

  -- ---- an optional part

  -- the part is absent, whatever comes behind the next token
  absent : {A : Type 0} (R : Reader limits (A × List Token)) (x : A) (L F : Part) (last : ℕ) (tokens : List Token) → L [] → EndsLine tokens → ((number : ℕ) (a b : List Token) → tokens ≡ Line number ∷ a → Akin a b → R (Line number ∷ b) ≡ Ok (x, Line number ∷ b)) → R tokens ≡ Ok (x, tokens)
      → Verdict limits (pair limits) R L F last tokens (R tokens)
  absent {A} R x L F last tokens none ends h e = subst (Verdict limits (pair limits) R L F last tokens) (sym e) (record { value = x; own = []; rest = tokens; is_own = none; there = refl; ends = ends; is = refl; kept = h })

  absent_line : {A : Type 0} (R : Reader limits (A × List Token)) (x : A) (L F : Part) (last line : ℕ) (tokens : List Token) → L [] → ((b : List Token) → Akin tokens b → R (Line line ∷ b) ≡ Ok (x, Line line ∷ b)) → Verdict limits (pair limits) R L F last (Line line ∷ tokens) (R (Line line ∷ tokens))
  absent_line {A} R x L F last line tokens none h =
      absent R x L F last (Line line ∷ tokens) none tt
      (λ number a b e alike.
      let first : line ≡ number = let f = e in cc in
      let rest : tokens ≡ a = let f = e in cc in
      subst (λ (k : ℕ). R (Line k ∷ b) ≡ Ok (x, Line k ∷ b)) first (h b (subst (λ (ts : List Token). Akin ts b) (sym rest) alike)))
      (h tokens (akin (alike_itself tokens)))

  -- the first token decides, or the end of the line
  pub decided : (Q : List Token → Type 0) (token : Token) (rest : List Token) → ((more : List Token) → Q (token ∷ more)) → Q [] → ((number : ℕ) (more : List Token) → Q (Line number ∷ more)) → (b : List Token) → Alike (token ∷ rest) b → Q b
  decided Q token rest h none new b (same t c d) = h d
  decided Q token rest h none new b (ended c [] p q) = none
  decided Q token rest h none new b (ended c (Line number ∷ d) p q) = new number d
  decided Q token rest h none new b (ended c d p q) = absurd q

  -- the same where a noun may be in the place of a word
  decided_next : (Q : List Token → Type 0) (token : Token) (rest : List Token) → ((more : List Token) → Q (token ∷ more)) → Q [] → ((number : ℕ) (more : List Token) → Q (Line number ∷ more)) → ((word : List ℕ) (more : List Token) → Q (Word word ∷ more)) → (b : List Token) → Akin (token ∷ rest) b → Q b
  decided_next Q token rest h none new word b (same_next t c d) = h d
  decided_next Q token rest h none new word b (noun_next w noun c d is) = word noun d
  decided_next Q token rest h none new word b (ended_next c [] p q) = none
  decided_next Q token rest h none new word b (ended_next c (Line number ∷ d) p q) = new number d
  decided_next Q token rest h none new word b (ended_next c d p q) = absurd q

  pub decided_end : (Q : List Token → Type 0) → Q [] → ((number : ℕ) (more : List Token) → Q (Line number ∷ more)) → (b : List Token) → EndsLine b → Q b
  decided_end Q none new [] ends = none
  decided_end Q none new (Line number ∷ b) ends = new number b
  decided_end Q none new b ends = absurd ends

  -- ---- the name

  abbrev pub IsNameLine : Part
  IsNameLine own = (number : ℕ) × (name : List ℕ) × (1 ≤ length name) × (length name ≤ limits.name_bytes) × (own ≡ Line number ∷ Head (codes "Name:") ∷ Name name ∷ [])

  abbrev IsNameText : Part
  IsNameText own = (name : List ℕ) × (1 ≤ length name) × (length name ≤ limits.name_bytes) × (own ≡ Name name ∷ [])

  text_branch : (line : ℕ) (token : Token) → Branch limits (pair limits) (name_text limits line) (Spelled limits IsNameText) line token
  text_branch line (Name []) = refuses (λ more. (fault line Syntax, refl, refl, says_syntax limits (Name []) more tt))
  text_branch line (Name (b ∷ text)) = by (named limits line (b ∷ text))
    where
      by : Named limits line (b ∷ text) → Branch limits (pair limits) (name_text limits line) (Spelled limits IsNameText) line (Name (b ∷ text))
      by (is_short le n) = takes (b ∷ text) tt (b ∷ text, omega arith, le, refl) (λ more. rw n refl)
      by (is_long long n) =
          refuses (λ more. (fault line TooMany, rw n refl, refl, says_too_many limits (Name (b ∷ text)) more (kinds.name (b ∷ text) (65 ∷ [], long, omega arith, omega arith, omega arith, (65 ∷ [], [], (65 ∷ [], omega arith, omega arith, refl))))))
  text_branch line token = refuses (λ more. (unexpected line (token ∷ more), refl, refl, says_unexpected limits line token more (λ word is. inr (inr (λ noun is_noun others. (unexpected line (Word noun ∷ others), refl))))))

  text_good : (line : ℕ) → Good limits (pair limits) (name_text limits line) (Spelled limits IsNameText) line
  text_good line = by_token limits (65 ∷ [], Name (65 ∷ []) ∷ [], (65 ∷ [], omega arith, omega arith, refl)) (text_branch line) (fault line Syntax, refl, refl, refl)

  name_branch : (last line : ℕ) (token : Token) → Branch limits (pair limits) (λ ts. name_at limits last (Line line ∷ ts)) (Spelled limits (λ own. IsNameLine (Line line ∷ own))) line token
  unfolding name_at
  name_branch last line (Head head) = by (bytes_eq head (codes "Name:")) refl
    where
      made : (own : List Token) → head ≡ codes "Name:" → IsNameText own → IsNameLine (Line line ∷ Head head ∷ own)
      made own is (name, some, le, whole) = (line, name, some, le, ap (λ (h : List ℕ). Line line ∷ Head h ∷ own) is ∙ ap (λ (ts : List Token). Line line ∷ Head (codes "Name:") ∷ ts) whole)

      by : (b : Bool) → bytes_eq head (codes "Name:") ≡ b → Branch limits (pair limits) (λ ts. name_at limits last (Line line ∷ ts)) (Spelled limits (λ own. IsNameLine (Line line ∷ own))) line (Head head)
      by true h = Rattle.rule_viable_prefixes.proofs.Outcomes.goes (λ ts. name_text limits line ts >>= λ name. Ok ((line, name.0), name.1)) tt (λ more. rw h refl)
          (then_done limits {s = (pair limits)} {L = Spelled limits IsNameText} (λ name. (line, name)) _ (λ x rest. refl) (λ x own is. made own (same_word head (codes "Name:") h) is) (text_good line))
      by false h = refuses (λ more. (fault line Syntax, rw h refl, refl, says_syntax limits (Head head) more tt))
  name_branch last line token = refuses (λ more. (unexpected line (token ∷ more), refl, refl, says_unexpected limits line token more (λ word is. inr (inr (λ noun is_noun others. (unexpected line (Word noun ∷ others), refl))))))

  name_good : (last line : ℕ) → Good limits (pair limits) (λ ts. name_at limits last (Line line ∷ ts)) (Spelled limits (λ own. IsNameLine (Line line ∷ own))) line
  unfolding name_at
  name_good last line = by_token limits ((line, 65 ∷ []), Head (codes "Name:") ∷ Name (65 ∷ []) ∷ [], (line, 65 ∷ [], omega arith, omega arith, refl)) (name_branch last line) (fault line Syntax, refl, refl, refl)

  pub name_follows : (F : Part) → (more : List Token) × F more → (number : ℕ) → (rest : List Token) × (IsNameLine ⨾ F) (Line number ∷ Head (codes "Name:") ∷ rest)
  name_follows F (more, f) number = (
    Name (65 ∷ []) ∷ more,
    (Line number ∷ Head (codes "Name:") ∷ Name (65 ∷ []) ∷ [], more, (number, 65 ∷ [], omega arith, omega arith, refl), f, refl),
  )

  name_opens : (F : Part) → (more : List Token) × F more → Opens limits (IsNameLine ⨾ F)
  name_opens F sample number = let o = name_follows F sample number in (Head (codes "Name:") ∷ o.0, o.1)

  pub name_verdict : (F : Part) (last : ℕ) (tokens : List Token) → (more : List Token) × F more → EndsLine tokens → NamesEndLines tokens → Verdict limits (pair limits) (name_at limits last) IsNameLine F last tokens (name_at limits last tokens)
  unfolding name_at
  name_verdict F last [] sample ends names = inr (record { begins = λ number. name_opens F sample number; here = refl; says = refl })
  name_verdict F last (Line line ∷ tokens) sample ends names =
      on_a_line limits (pair limits) (name_at limits last) IsNameLine F last line tokens sample
      (λ x rest e. let n = name_at-is limits version last (Line line ∷ tokens) (x, rest) e in let all = subst NamesEndLines n.2 names in all.0)
      ((name_good last line).outcome tokens)
  name_verdict F last tokens sample ends names = absurd ends

  -- ---- the precondition and the witness

  abbrev pub IsPrecondition : Part
  IsPrecondition own = (p : Option RawPrecondition) × Maybe (SpellsPrecondition limits) p own

  formula_ends : (line : ℕ) (tokens : List Token) → Ends (formula_at limits line tokens)
  unfolding formula_at
  formula_ends line tokens = ends_behind (members_of (outer_member_at limits line) [] tokens) _ (λ first. ends_behind (or_alternatives limits line (Rattle.std.specs.List.list_any is_outer first.0) first.0 first.1) _ (λ whole. ends_line line whole.1 whole.0))

  behind_precondition_good : (line : ℕ) → Good limits (pair limits) (behind_precondition limits line) (Spelled limits (IsWholeFormula spare_bytes deepest spare_statements)) line
  behind_precondition_good line = then_done limits {s = (pair limits)} {L = Spelled limits (IsWholeFormula spare_bytes deepest spare_statements)} (λ f. Some (record { line = line; formula = f })) (λ formula. Ok (Some (record { line = line; formula = formula.0 }), formula.1)) (λ x rest. refl) (λ x own is. is) (formula_good spare_bytes deepest spare_statements line)

  pub precondition_verdict : (F : Part) (last : ℕ) (tokens : List Token) → (more : List Token) × F more → EndsLine tokens → Verdict limits (pair limits) (precondition_at limits) IsPrecondition F last tokens (precondition_at limits tokens)
  unfolding precondition_at
  precondition_verdict F last [] sample ends = absent (precondition_at limits) None IsPrecondition F last [] (None, refl) tt (λ number a b e alike. absurd cc) refl
  precondition_verdict F last (Line line ∷ []) sample ends = absent_line (precondition_at limits) None IsPrecondition F last line [] (None, refl)
      (λ b alike. decided_end (λ ts. precondition_at limits (Line line ∷ ts) ≡ Ok (None, Line line ∷ ts)) refl (λ number more. refl) b (Rattle.rule_viable_prefixes.proofs.Parts.ends_akin limits [] b alike tt))
  precondition_verdict F last (Line line ∷ Head head ∷ rest) sample ends = by (bytes_eq head (codes "Pre:")) refl
    where
      made : (own : List Token) → head ≡ codes "Pre:" → IsWholeFormula spare_bytes deepest spare_statements own → IsPrecondition (Line line ∷ Head head ∷ own)
      made own is f = (Some (record { line = line; formula = f.0 }), (own, f.1, ap (λ (h : List ℕ). Line line ∷ Head h ∷ own) is))

      by : (b : Bool) → bytes_eq head (codes "Pre:") ≡ b → Verdict limits (pair limits) (precondition_at limits) IsPrecondition F last (Line line ∷ Head head ∷ rest) (precondition_at limits (Line line ∷ Head head ∷ rest))
      by true h =
          on_a_line limits (pair limits) (precondition_at limits) IsPrecondition F last line (Head head ∷ rest) sample
          (λ x r e. ends_made (formula_at limits line rest) (λ f. Some (record { line = line; formula = f })) (formula_ends line rest) x r (let is : precondition_at limits (Line line ∷ Head head ∷ rest) ≡ behind_precondition limits line rest = rw h refl in sym is ∙ e))
          (led limits (pair limits) (λ ts. precondition_at limits (Line line ∷ ts)) (behind_precondition limits line) (Spelled limits (λ own. IsPrecondition (Line line ∷ own))) line (Head head) rest tt (λ more. rw h refl)
          (widen limits (pair limits) (behind_precondition limits line) (Spelled limits (IsWholeFormula spare_bytes deepest spare_statements)) (λ x own. IsPrecondition (Line line ∷ Head head ∷ own)) line rest (λ x own is. made own (same_word head (codes "Pre:") h) is) (behind_precondition limits line rest) ((behind_precondition_good line).outcome rest)))
      by false h = absent_line (precondition_at limits) None IsPrecondition F last line (Head head ∷ rest) (None, refl)
          (decided_next (λ ts. precondition_at limits (Line line ∷ ts) ≡ Ok (None, Line line ∷ ts)) (Head head) rest (λ more. rw h refl) refl (λ number more. refl) (λ word more. refl))
  precondition_verdict F last (Line line ∷ token ∷ rest) sample ends = absent_line (precondition_at limits) None IsPrecondition F last line (token ∷ rest) (None, refl)
      (decided_next (λ ts. precondition_at limits (Line line ∷ ts) ≡ Ok (None, Line line ∷ ts)) token rest (λ more. refl) refl (λ number more. refl) (λ word more. refl))
  precondition_verdict F last tokens sample ends = absurd ends

  abbrev IsExpression : Part
  IsExpression own = (nodes : List RawNode) × SpellsExpression limits nodes own

  abbrev AreMore : Part
  AreMore own = (all : List (List RawNode)) × SpellsMoreExpressions limits all own

  abbrev AreExpressions : Part
  AreExpressions own = (all : List (List RawNode)) × SpellsExpressions limits all own

  expression_good : (line : ℕ) (before : List (List RawNode)) → Good limits (pair limits) (expression_at limits line before) (Spelled limits IsExpression) line
  expression_good line before = then_done limits {s = (pair limits)} {L = Term spare_bytes deepest spare_statements Witness limits.nested loosest} (λ t. before ++ t ∷ []) (λ term. Ok (before ++ term.0 ∷ [], term.1)) (λ x rest. refl) (λ x own is. is 0) (term_good spare_bytes deepest spare_statements Witness limits.nested line)

  more_good : (line : ℕ) (before : List (List RawNode)) → Good limits (pair limits) (more_expressions limits line before) (Spelled limits AreMore) line
  more_good line before =
      chain_good limits (codes ",") (expression_at limits line) IsExpression AreMore line refl (expression_shortens limits line)
      (record { none = ([], refl); more = λ front back one others. (one.0 ∷ others.0, (front, back, one.1, others.1, refl)) }) (expression_good line) before

  expressions_good : (line : ℕ) → Good limits (pair limits) (expressions_at limits line) (Spelled limits AreExpressions) line
  unfolding expressions_at
  expressions_good line =
      then limits {s = (pair limits)} {t = (pair limits)} _ {L = Spelled limits IsExpression} {M = λ x. Spelled limits AreMore} (λ x y front back one others. (one.0 ∷ others.0, (front, back, one.1, others.1, refl))) (expression_good line [])
      (λ first. then_end limits _ (λ all. all) (λ all rest. refl) (more_good line first))

  expressions_end : (line : ℕ) (tokens : List Token) → Ends (expressions_at limits line tokens)
  unfolding expressions_at
  expressions_end line tokens = ends_behind (expression_at limits line [] tokens) _ (λ first. ends_behind (more_expressions limits line first.0 first.1) _ (λ all. ends_line line all.1 all.0))

  abbrev pub IsWitness : Part
  IsWitness own = (w : Option RawWitness) × Maybe (SpellsWitness limits) w own

  behind_witness_good : (line : ℕ) → Good limits (pair limits) (behind_witness limits line) (Spelled limits AreExpressions) line
  behind_witness_good line = then_done limits {s = (pair limits)} {L = Spelled limits AreExpressions} (λ all. Some (record { line = line; expressions = all })) (λ all. Ok (Some (record { line = line; expressions = all.0 }), all.1)) (λ x rest. refl) (λ x own is. is) (expressions_good line)

  pub witness_verdict : (F : Part) (last : ℕ) (tokens : List Token) → (more : List Token) × F more → EndsLine tokens → Verdict limits (pair limits) (witness_at limits) IsWitness F last tokens (witness_at limits tokens)
  unfolding witness_at
  witness_verdict F last [] sample ends = absent (witness_at limits) None IsWitness F last [] (None, refl) tt (λ number a b e alike. absurd cc) refl
  witness_verdict F last (Line line ∷ []) sample ends = absent_line (witness_at limits) None IsWitness F last line [] (None, refl)
      (λ b alike. decided_end (λ ts. witness_at limits (Line line ∷ ts) ≡ Ok (None, Line line ∷ ts)) refl (λ number more. refl) b (Rattle.rule_viable_prefixes.proofs.Parts.ends_akin limits [] b alike tt))
  witness_verdict F last (Line line ∷ Head head ∷ rest) sample ends = by (bytes_eq head (codes "Wit:")) refl
    where
      made : (own : List Token) → head ≡ codes "Wit:" → AreExpressions own → IsWitness (Line line ∷ Head head ∷ own)
      made own is all = (Some (record { line = line; expressions = all.0 }), (own, all.1, ap (λ (h : List ℕ). Line line ∷ Head h ∷ own) is))

      by : (b : Bool) → bytes_eq head (codes "Wit:") ≡ b → Verdict limits (pair limits) (witness_at limits) IsWitness F last (Line line ∷ Head head ∷ rest) (witness_at limits (Line line ∷ Head head ∷ rest))
      by true h =
          on_a_line limits (pair limits) (witness_at limits) IsWitness F last line (Head head ∷ rest) sample
          (λ x r e. ends_made (expressions_at limits line rest) (λ all. Some (record { line = line; expressions = all })) (expressions_end line rest) x r (let is : witness_at limits (Line line ∷ Head head ∷ rest) ≡ behind_witness limits line rest = rw h refl in sym is ∙ e))
          (led limits (pair limits) (λ ts. witness_at limits (Line line ∷ ts)) (behind_witness limits line) (Spelled limits (λ own. IsWitness (Line line ∷ own))) line (Head head) rest tt (λ more. rw h refl)
          (widen limits (pair limits) (behind_witness limits line) (Spelled limits AreExpressions) (λ x own. IsWitness (Line line ∷ Head head ∷ own)) line rest (λ x own is. made own (same_word head (codes "Wit:") h) is) (behind_witness limits line rest) ((behind_witness_good line).outcome rest)))
      by false h = absent_line (witness_at limits) None IsWitness F last line (Head head ∷ rest) (None, refl)
          (decided_next (λ ts. witness_at limits (Line line ∷ ts) ≡ Ok (None, Line line ∷ ts)) (Head head) rest (λ more. rw h refl) refl (λ number more. refl) (λ word more. refl))
  witness_verdict F last (Line line ∷ token ∷ rest) sample ends = absent_line (witness_at limits) None IsWitness F last line (token ∷ rest) (None, refl)
      (decided_next (λ ts. witness_at limits (Line line ∷ ts) ≡ Ok (None, Line line ∷ ts)) token rest (λ more. refl) refl (λ number more. refl) (λ word more. refl))
  witness_verdict F last tokens sample ends = absurd ends

  -- ---- statements

  abbrev IsStatement : Half → Part
  IsStatement half own = (s : RawStatement) × SpellsStatement limits version half s own

  -- from one statement up to `room` many
  abbrev UpTo : ℕ → Half → Part
  UpTo room half own = (all : List RawStatement) × SpellsStatements limits version half all own × (length all ≤ room)

  abbrev SomeUpTo : ℕ → Half → Part
  SomeUpTo room half own = (all : List RawStatement) × SpellsStatements limits version half all own × (length all ≤ room) × (1 ≤ length all)

  none_up_to : (room : ℕ) (half : Half) → UpTo room half []
  none_up_to room half = ([], refl, omega arith)

  -- the parser of the statement that begins here, if one does
  abbrev first_at : Half → Reader limits (RawStatement × List Token)
  first_at half (Line line ∷ Register name ∷ rest) = statement_at limits version half line name rest
  first_at half tokens = Err (fault 0 Syntax)

  assigned_statement : (half : Half) (line : ℕ) (name : List ℕ) (own : List Token) → length name ≤ limits.name_bytes → IsAssigned spare_bytes deepest spare_statements version half own → IsStatement half (Line line ∷ Register name ∷ own)
  assigned_statement half line name own le (op, (raw, is), whole) = (record { line = line; name = name; op = raw }, record { name = le; op = op; is_op = is; spelled = ap (λ (ts : List Token). Line line ∷ Register name ∷ ts) whole })

  first_verdict : (half : Half) (F : Part) (last line : ℕ) (name : List ℕ) (rest : List Token) → (more : List Token) × F more → length name ≤ limits.name_bytes → name_within limits line name ≡ Ok name
      → Verdict limits (pair limits) (first_at half) (IsStatement half) F last (Line line ∷ Register name ∷ rest) (first_at half (Line line ∷ Register name ∷ rest))
  first_verdict half F last line name rest sample le short =
      on_a_line limits (pair limits) (first_at half) (IsStatement half) F last line (Register name ∷ rest) sample (λ x r e. statement_ends half line name rest x r e)
      (led limits (pair limits) (λ ts. first_at half (Line line ∷ ts)) (statement_at limits version half line name) (Spelled limits (λ own. IsStatement half (Line line ∷ own))) line (Register name) rest tt (λ more. refl)
      (widen limits (pair limits) (statement_at limits version half line name) (Spelled limits (IsAssigned spare_bytes deepest spare_statements version half)) (λ x own. IsStatement half (Line line ∷ Register name ∷ own)) line rest (λ x own is. assigned_statement half line name own le is) (statement_at limits version half line name rest) ((statement_good spare_bytes deepest spare_statements version half line name short).outcome rest)))

  statement_sample : (half : Half) (line : ℕ) → (more : List Token) × IsStatement half (Line line ∷ Register (codes "a") ∷ more)
  statement_sample half line =
      let s = (statement_good spare_bytes deepest spare_statements version half line (codes "a") (name_within-of limits line (codes "a") (omega arith))).sample in
      (s.1, assigned_statement half line (codes "a") s.1 (omega arith) s.2)

  -- behind a line's number a register fits, since it begins a statement
  some_goes : (room : ℕ) (half : Half) (F : Part) → (more : List Token) × F more → (line : ℕ) → GoesOn limits (SomeUpTo (suc room) half) F line [] (Register (codes "a"))
  some_goes room half F (more, f) line =
      let s = statement_sample half line in
      let own : List Token = Line line ∷ Register (codes "a") ∷ s.0 in
      (s.0 ++ more, (own, more, (s.1.0 ∷ [], (own, [], s.1.1, refl, ap (λ (ts : List Token). Line line ∷ Register (codes "a") ∷ ts) (sym (append-nil s.0))), omega arith, omega arith), f, refl))

  some_opens : (room : ℕ) (half : Half) (F : Part) → (more : List Token) × F more → (line : ℕ) → Completes limits (SomeUpTo (suc room) half) F (Line line ∷ [])
  some_opens room half F sample line = let g = some_goes room half F sample line in (Register (codes "a") ∷ g.0, g.1)

  -- the fault of a statement is behind its line's number
  refused_behind_line : {A X : Type 0} (shape : Shape limits A X) (R : Reader limits X) (L F : Part) (last line : ℕ) (behind : List Token) → Completes limits L F (Line line ∷ [])
      → ((more : List Token) → Alike behind more → IsErrOn limits (GoesOn limits L F line []) (Lack limits (λ ts. R (Line line ∷ ts)) []) line more (R (Line line ∷ more))) → Verdict limits shape R L F last (Line line ∷ behind) (R (Line line ∷ behind))
  refused_behind_line {A} {X} shape R L F last line behind begins h =
      let e = h behind (alike_itself behind) in
      subst (Verdict limits shape R L F last (Line line ∷ behind)) (sym e.1)
      (inl (record { number = line; front = []; behind = behind; there = refl; begins = begins; refused = λ more alike. let f = h more alike in (f.0, f.1); here = e.2 ∙ sym (none_behind limits line); says = e.3; new = none_new e.0.kind }))

  register_akin : (Q : List Token → Type 0) (name : List ℕ) (rest : List Token) → ((more : List Token) → Q (Register name ∷ more)) → (b : List Token) → Akin (Register name ∷ rest) b → Q b
  register_akin Q name rest h b (same_next t c d) = h d
  register_akin Q name rest h b (ended_next c d p q) = absurd p

  register_alike : (Q : List Token → Type 0) (name : List ℕ) (rest : List Token) → ((more : List Token) → Q (Register name ∷ more)) → (b : List Token) → Alike (Register name ∷ rest) b → Q b
  register_alike Q name rest h b (same t c d) = h d
  register_alike Q name rest h b (ended c d p q) = absurd p

  pub some_of_opens : (F : Part) → Opens limits F → (more : List Token) × F more
  some_of_opens F opens = let o = opens 0 in (Line 0 ∷ o.0, o.1)

  -- what comes behind a half begins a line, with `=>` or `Name:`
  pub data Follows (F : Part) : Type 0 where
    by_arrow : ((number : ℕ) → (more : List Token) × F (Line number ∷ Arrow ∷ more)) → Follows F
    by_rule : ((number : ℕ) → (more : List Token) × F (Line number ∷ Head (codes "Name:") ∷ more)) → Follows F

  pub follows_open : (F : Part) → Follows F → Opens limits F
  follows_open F (by_arrow f) number = let o = f number in (Arrow ∷ o.0, o.1)
  follows_open F (by_rule f) number = let o = f number in (Head (codes "Name:") ∷ o.0, o.1)

  -- so where that fits, the half may end
  half_ends : (room : ℕ) (half : Half) (F : Part) (line : ℕ) → Follows F → HalfEnds (GoesOn limits (UpTo room half) F line [])
  half_ends room half F line (by_arrow f) = let o = f line in inl (o.0, ([], Line line ∷ Arrow ∷ o.0, none_up_to room half, o.1, refl))
  half_ends room half F line (by_rule f) = let o = f line in inr (o.0, ([], Line line ∷ Head (codes "Name:") ∷ o.0, none_up_to room half, o.1, refl))

  joined_statements : (room : ℕ) (half : Half) (own : List Token) → (IsStatement half ⨾ UpTo room half) own → SomeUpTo (suc room) half own
  joined_statements room half own (front, back, (s, one), (all, others, le), whole) = (s ∷ all, (front, back, one, others, whole), omega arith, omega arith)

  some_verdict : (room : ℕ) (half : Half) (F : Part) (last line : ℕ) (name : List ℕ) (rest : List Token) → Opens limits F
      → ((tokens : List Token) → EndsLine tokens → Verdict limits (pair limits) (statements_at limits version room half) (UpTo room half) F last tokens (statements_at limits version room half tokens))
      → Named limits line name → Verdict limits (pair limits) (statements_at limits version (suc room) half) (SomeUpTo (suc room) half) F last (Line line ∷ Register name ∷ rest) (statements_at limits version (suc room) half (Line line ∷ Register name ∷ rest))
  unfolding statements_at statement_at
  some_verdict room half F last line name rest opens further (is_long long n) =
      refused_behind_line (pair limits) (statements_at limits version (suc room) half) (SomeUpTo (suc room) half) F last line (Register name ∷ rest) (some_opens room half F (some_of_opens F opens) line)
      (register_alike (λ b. IsErrOn limits (GoesOn limits (SomeUpTo (suc room) half) F line []) (Lack limits (λ us. statements_at limits version (suc room) half (Line line ∷ us)) []) line b (statements_at limits version (suc room) half (Line line ∷ b))) name rest
      (λ more. (fault line TooMany, rw n refl, refl, says_too_many limits (Register name) more (kinds.register name (codes "a", long, omega arith, tt, tt, some_goes room half F (some_of_opens F opens) line)))))
  some_verdict room half F last line name rest opens further (is_short le n) =
      verdict_as (pair limits) (statements_at limits version (suc room) half) (λ ts. first_at half ts >>= λ first. (statements_at limits version room half first.1 >>= λ others. Ok (first.0 ∷ others.0, others.1))) (SomeUpTo (suc room) half) F last line (Register name ∷ rest)
      (register_akin (λ b. statements_at limits version (suc room) half (Line line ∷ b) ≡ (first_at half (Line line ∷ b) >>= λ first. (statements_at limits version room half first.1 >>= λ others. Ok (first.0 ∷ others.0, others.1)))) name rest (λ more. refl))
      (verdict_wider limits (pair limits) (λ ts. first_at half ts >>= λ first. (statements_at limits version room half first.1 >>= λ others. Ok (first.0 ∷ others.0, others.1))) (IsStatement half ⨾ UpTo room half) (SomeUpTo (suc room) half) F last (Line line ∷ Register name ∷ rest) (λ own is. joined_statements room half own is) _
      (verdict_both limits (pair limits) (pair limits) (first_at half) (λ first. statements_at limits version room half first.1 >>= λ others. Ok (first.0 ∷ others.0, others.1)) (IsStatement half) (UpTo room half) F last (Line line ∷ Register name ∷ rest) tt
      (first_verdict half (UpTo room half ⨾ F) last line name rest (let o = opens 0 in (Line 0 ∷ o.0, ([], Line 0 ∷ o.0, none_up_to room half, o.1, refl))) le n)
      (λ x r e ends. verdict_made (statements_at limits version room half) (λ others. x ∷ others) (UpTo room half) F last r (further r ends))))

  no_statements : (room : ℕ) (half : Half) (F : Part) (last : ℕ) (tokens : List Token) → EndsLine tokens → ((number : ℕ) (a b : List Token) → tokens ≡ Line number ∷ a → Akin a b → statements_at limits version room half (Line number ∷ b) ≡ Ok ([], Line number ∷ b)) → statements_at limits version room half tokens ≡ Ok ([], tokens)
      → Verdict limits (pair limits) (statements_at limits version room half) (UpTo room half) F last tokens (statements_at limits version room half tokens)
  no_statements room half F last tokens ends h e = absent (statements_at limits version room half) [] (UpTo room half) F last tokens (none_up_to room half) ends h e

  statements_verdict : (room : ℕ) (half : Half) (F : Part) (last : ℕ) → Follows F → (tokens : List Token) → EndsLine tokens → Verdict limits (pair limits) (statements_at limits version room half) (UpTo room half) F last tokens (statements_at limits version room half tokens)
  unfolding statements_at
  statements_verdict zero half F last opens [] ends = no_statements zero half F last [] ends (λ number a b e alike. absurd cc) refl
  statements_verdict (suc room) half F last opens [] ends = no_statements (suc room) half F last [] ends (λ number a b e alike. absurd cc) refl
  statements_verdict zero half F last follows (Line line ∷ Register name ∷ rest) ends =
      let o = follows_open F follows line in
      refused_behind_line (pair limits) (statements_at limits version zero half) (UpTo zero half) F last line (Register name ∷ rest) (o.0, ([], Line line ∷ o.0, none_up_to zero half, o.1, refl))
      (register_alike (λ b. IsErrOn limits (GoesOn limits (UpTo zero half) F line []) (Lack limits (λ us. statements_at limits version zero half (Line line ∷ us)) []) line b (statements_at limits version zero half (Line line ∷ b))) name rest
      (λ more. (fault line TooMany, refl, refl, says_too_many limits (Register name) more (kinds.statement name (half_ends zero half F line follows)))))
  statements_verdict (suc room) half F last follows (Line line ∷ Register name ∷ rest) ends =
      verdict_wider limits (pair limits) (statements_at limits version (suc room) half) (SomeUpTo (suc room) half) (UpTo (suc room) half) F last (Line line ∷ Register name ∷ rest) (λ own is. (is.0, is.1, is.2)) _
      (some_verdict room half F last line name rest (follows_open F follows) (λ tokens e. statements_verdict room half F last follows tokens e) (named limits line name))
  statements_verdict zero half F last opens (Line line ∷ []) ends = absent_line (statements_at limits version zero half) [] (UpTo zero half) F last line [] (none_up_to zero half)
      (λ b alike. decided_end (λ ts. statements_at limits version zero half (Line line ∷ ts) ≡ Ok ([], Line line ∷ ts)) refl (λ number more. refl) b (Rattle.rule_viable_prefixes.proofs.Parts.ends_akin limits [] b alike tt))
  statements_verdict (suc room) half F last opens (Line line ∷ []) ends = absent_line (statements_at limits version (suc room) half) [] (UpTo (suc room) half) F last line [] (none_up_to (suc room) half)
      (λ b alike. decided_end (λ ts. statements_at limits version (suc room) half (Line line ∷ ts) ≡ Ok ([], Line line ∷ ts)) refl (λ number more. refl) b (Rattle.rule_viable_prefixes.proofs.Parts.ends_akin limits [] b alike tt))
  statements_verdict zero half F last opens (Line line ∷ token ∷ rest) ends = absent_line (statements_at limits version zero half) [] (UpTo zero half) F last line (token ∷ rest) (none_up_to zero half)
      (decided_next (λ ts. statements_at limits version zero half (Line line ∷ ts) ≡ Ok ([], Line line ∷ ts)) token rest (λ more. refl) refl (λ number more. refl) (λ word more. refl))
  statements_verdict (suc room) half F last opens (Line line ∷ token ∷ rest) ends = absent_line (statements_at limits version (suc room) half) [] (UpTo (suc room) half) F last line (token ∷ rest) (none_up_to (suc room) half)
      (decided_next (λ ts. statements_at limits version (suc room) half (Line line ∷ ts) ≡ Ok ([], Line line ∷ ts)) token rest (λ more. refl) refl (λ number more. refl) (λ word more. refl))
  statements_verdict zero half F last opens tokens ends = absurd ends
  statements_verdict (suc room) half F last opens tokens ends = absurd ends

  -- ---- halves

  abbrev pub IsHalf : Half → Part
  IsHalf half own = (all : List RawStatement) × SpellsHalf limits version half all own

  as_half : (half : Half) (own : List Token) → SomeUpTo limits.statements half own → IsHalf half own
  as_half half own (all, is, most, some) = (all, record { some = some; most = most; spelled = is })

  pub half_opens : (half : Half) (F : Part) → (more : List Token) × F more → Opens limits (IsHalf half ⨾ F)
  half_opens half F sample number =
      let o = some_opens spare_statements half F sample number in
      (o.0, (o.1.0, o.1.1, as_half half o.1.0 o.1.2, o.1.3, o.1.4))

  half_begins : (half : Half) (F : Part) → (more : List Token) × F more → (line : ℕ) → Completes limits (IsHalf half) F (Line line ∷ [])
  half_begins half F sample line = half_opens half F sample line

  half_verdict : (half : Half) (F : Part) (last line : ℕ) (name : List ℕ) (rest : List Token) → Follows F → Verdict limits (pair limits) (statements_at limits version limits.statements half) (IsHalf half) F last (Line line ∷ Register name ∷ rest) (statements_at limits version limits.statements half (Line line ∷ Register name ∷ rest))
  half_verdict half F last line name rest follows =
      verdict_wider limits (pair limits) (statements_at limits version limits.statements half) (SomeUpTo limits.statements half) (IsHalf half) F last (Line line ∷ Register name ∷ rest) (λ own is. as_half half own is) _
      (some_verdict spare_statements half F last line name rest (follows_open F follows) (λ tokens e. statements_verdict spare_statements half F last follows tokens e) (named limits line name))

  pub source_verdict : (F : Part) (last : ℕ) (tokens : List Token) → Follows F → EndsLine tokens → Verdict limits (pair limits) (source_at limits version last) (IsHalf Source) F last tokens (source_at limits version last tokens)
  unfolding source_at
  source_verdict F last [] follows ends = inr (record { begins = λ number. half_opens Source F (some_of_opens F (follows_open F follows)) number; here = refl; says = refl })
  source_verdict F last (Line line ∷ Register name ∷ rest) follows ends =
      verdict_as (pair limits) (source_at limits version last) (statements_at limits version limits.statements Source) (IsHalf Source) F last line (Register name ∷ rest)
      (register_akin (λ b. source_at limits version last (Line line ∷ b) ≡ statements_at limits version limits.statements Source (Line line ∷ b)) name rest (λ more. refl)) (half_verdict Source F last line name rest follows)
  source_verdict F last (Line line ∷ []) follows ends = refused_behind_line (pair limits) (source_at limits version last) (IsHalf Source) F last line [] (half_begins Source F (some_of_opens F (follows_open F follows)) line)
      (λ b alike. decided_end (λ ts. IsErrOn limits (GoesOn limits (IsHalf Source) F line []) (Lack limits (λ us. source_at limits version last (Line line ∷ us)) []) line ts (source_at limits version last (Line line ∷ ts))) (fault line Syntax, refl, refl, refl) (λ number more. (fault line Syntax, refl, refl, says_syntax limits (Line number) more tt)) b
      (Rattle.rule_viable_prefixes.proofs.Parts.ends_alike limits [] b alike tt))
  source_verdict F last (Line line ∷ token ∷ rest) follows ends = refused_behind_line (pair limits) (source_at limits version last) (IsHalf Source) F last line (token ∷ rest) (half_begins Source F (some_of_opens F (follows_open F follows)) line)
      (decided (λ ts. IsErrOn limits (GoesOn limits (IsHalf Source) F line []) (Lack limits (λ us. source_at limits version last (Line line ∷ us)) []) line ts (source_at limits version last (Line line ∷ ts))) token rest (λ more. (unexpected line (token ∷ more), refl, refl, says_unexpected limits line token more (λ word is. inr (inr (λ noun is_noun others. (unexpected line (Word noun ∷ others), refl)))))) (fault line Syntax, refl, refl, refl)
      (λ number more. (fault line Syntax, refl, refl, says_syntax limits (Line number) more tt)))
  source_verdict F last tokens follows ends = absurd ends

  pub target_verdict : (F : Part) (last : ℕ) (tokens : List Token) → Follows F → EndsLine tokens → Verdict limits (pair limits) (target_at limits version last) (IsHalf Target) F last tokens (target_at limits version last tokens)
  unfolding target_at
  target_verdict F last [] follows ends = inr (record { begins = λ number. half_opens Target F (some_of_opens F (follows_open F follows)) number; here = refl; says = refl })
  target_verdict F last (Line line ∷ Register name ∷ rest) follows ends =
      verdict_as (pair limits) (target_at limits version last) (statements_at limits version limits.statements Target) (IsHalf Target) F last line (Register name ∷ rest)
      (register_akin (λ b. target_at limits version last (Line line ∷ b) ≡ statements_at limits version limits.statements Target (Line line ∷ b)) name rest (λ more. refl)) (half_verdict Target F last line name rest follows)
  target_verdict F last (Line line ∷ []) follows ends = refused_behind_line (pair limits) (target_at limits version last) (IsHalf Target) F last line [] (half_begins Target F (some_of_opens F (follows_open F follows)) line)
      (λ b alike. decided_end (λ ts. IsErrOn limits (GoesOn limits (IsHalf Target) F line []) (Lack limits (λ us. target_at limits version last (Line line ∷ us)) []) line ts (target_at limits version last (Line line ∷ ts))) (fault line Syntax, refl, refl, refl) (λ number more. (fault line Syntax, refl, refl, says_syntax limits (Line number) more tt)) b
      (Rattle.rule_viable_prefixes.proofs.Parts.ends_alike limits [] b alike tt))
  target_verdict F last (Line line ∷ token ∷ rest) follows ends = refused_behind_line (pair limits) (target_at limits version last) (IsHalf Target) F last line (token ∷ rest) (half_begins Target F (some_of_opens F (follows_open F follows)) line)
      (decided (λ ts. IsErrOn limits (GoesOn limits (IsHalf Target) F line []) (Lack limits (λ us. target_at limits version last (Line line ∷ us)) []) line ts (target_at limits version last (Line line ∷ ts))) token rest (λ more. (unexpected line (token ∷ more), refl, refl, says_unexpected limits line token more (λ word is. inr (inr (λ noun is_noun others. (unexpected line (Word noun ∷ others), refl)))))) (fault line Syntax, refl, refl, refl)
      (λ number more. (fault line Syntax, refl, refl, says_syntax limits (Line number) more tt)))
  target_verdict F last tokens follows ends = absurd ends

  -- ---- the arrow

  abbrev pub IsArrow : Part
  IsArrow own = (number : ℕ) × (own ≡ Line number ∷ Arrow ∷ [])

  pub arrow_follows : (F : Part) → (more : List Token) × F more → (number : ℕ) → (rest : List Token) × (IsArrow ⨾ F) (Line number ∷ Arrow ∷ rest)
  arrow_follows F (more, f) number = (more, (Line number ∷ Arrow ∷ [], more, (number, refl), f, refl))

  arrow_opens : (F : Part) → (more : List Token) × F more → Opens limits (IsArrow ⨾ F)
  arrow_opens F sample number = let o = arrow_follows F sample number in (Arrow ∷ o.0, o.1)

  arrow_branch : (last line : ℕ) (token : Token) → Branch limits (bare limits) (λ ts. arrow_at last (Line line ∷ ts)) (Spelled limits (λ own. IsArrow (Line line ∷ own))) line token
  unfolding arrow_at
  arrow_branch last line Arrow = Rattle.rule_viable_prefixes.proofs.Outcomes.goes (line_end line) tt (λ more. refl) (widened limits (λ x own none. (line, ap (λ (ts : List Token). Line line ∷ Arrow ∷ ts) none)) (line_end_good limits line))
  arrow_branch last line token = refuses (λ more. (unexpected line (token ∷ more), refl, refl, says_unexpected limits line token more (λ word is. inr (inr (λ noun is_noun others. (unexpected line (Word noun ∷ others), refl))))))

  arrow_good : (last line : ℕ) → Good limits (bare limits) (λ ts. arrow_at last (Line line ∷ ts)) (Spelled limits (λ own. IsArrow (Line line ∷ own))) line
  unfolding arrow_at
  arrow_good last line = by_token limits (tt, Arrow ∷ [], (line, refl)) (arrow_branch last line) (fault line Syntax, refl, refl, refl)

  arrow_ends : (last : ℕ) (tokens rest : List Token) → arrow_at last tokens ≡ Ok rest → EndsLine rest
  unfolding arrow_at
  arrow_ends last (Line line ∷ Arrow ∷ tokens) rest e = line_end_ends line tokens rest e
  arrow_ends last tokens rest e = absurd cc

  pub arrow_verdict : (F : Part) (last : ℕ) (tokens : List Token) → (more : List Token) × F more → EndsLine tokens → Verdict limits (bare limits) (arrow_at last) IsArrow F last tokens (arrow_at last tokens)
  unfolding arrow_at
  arrow_verdict F last [] sample ends = inr (record { begins = λ number. arrow_opens F sample number; here = refl; says = refl })
  arrow_verdict F last (Line line ∷ tokens) sample ends = on_a_line limits (bare limits) (arrow_at last) IsArrow F last line tokens sample (λ x rest e. arrow_ends last (Line line ∷ tokens) rest e) ((arrow_good last line).outcome tokens)
  arrow_verdict F last tokens sample ends = absurd ends
