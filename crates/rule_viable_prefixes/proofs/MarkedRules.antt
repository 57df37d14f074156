-- What the parser of rule files reads of tokens with the sentinel.
use Rattle.rule_viable_prefixes.proofs.Common.{◌≡◌, ◌≢◌, ℕ, zero, suc, ◌+◌, ◌<◌, ◌≤◌, Bool, true, false, cond, List, [], ◌∷◌, ◌++◌, length, Option, Some, None, Result, Ok, Err, refl, ap, subst, ◌∙◌, ◌⊎◌, inl, inr, arith, codes, bytes_eq, RuleFaultKind, Syntax, TooMany, Version, One, Limits, fault, unexpected, or_left_out, name_within, line_end, RuleFault, ◌>>=◌, Token, Line, Head, Name, Register, Number, Arrow, Mark, Excess, version_in, EndsLine, Half, Source, Target, RawRule, RawStatement, RawPrecondition, RawWitness, RawOp, statement_at, statements_at, unexpected_line, name_text, name_at, behind_precondition, precondition_at, expression_at, expressions_at, behind_witness, witness_at, source_at, arrow_at, target_at, rule_at, rules_at, version_number_at, version_at, rules_of, all_rules, expression_shortens, rule_at-shorter, Witness, RawNode, RawFormula, mark_at, Role}
use Rattle.rule_terms.specs.Chains.{chain_at}
use Rattle.rule_viable_prefixes.proofs.Marks.{IsMark, bad, excess, Marking, State, inline, bytes, levels, half, Marked, Next, passes, passes_name, goes_on, First, ends, stops, token, first, Same, read, failed, told, stands, Meets, refused, left, same_bind, meets_bind, mark_told, cut_told, unexpected_both, misplaced_both, syntax_both, short_name, long_name}
use Rattle.rule_viable_prefixes.proofs.MarkedTerms.{NoStand, IsOperand, long, short, on, operand, mark_met, mark_same, term_same}
use Rattle.rule_viable_prefixes.proofs.MarkedFormulas.{Leaves, Stops, chain_same, chain_left, Ended, line_end_same, line_end_met, formula_same}
use Rattle.rule_viable_prefixes.proofs.MarkedOps.{op_same}

-- ---- parts of several lines

-- the same is read, or the same fault is found, or `TooMany` without the sentinel and its fault with it, on the same
-- line or on the one that it begins
pub data Agrees (c : Marking) {X : Type 0} (R : X → X → Type 0) : Result X RuleFault → Result X RuleFault → Type 0 where
  agreed : (x y : X) → R x y → Agrees c R (Ok x) (Ok y)
  both_failed : (e : RuleFault) → e.kind ≢ TooMany → Agrees c R (Err e) (Err e)
  marked : (line other : ℕ) → (other ≡ line) ⊎ (other ≡ c.anew line) → Agrees c R (Err (fault line TooMany)) (Err (fault other c.kind))

agree : {c : Marking} {line : ℕ} {X : Type 0} {R : X → X → Type 0} {r q : Result X RuleFault} → Same c line R (λ x. ⊥) r q → Agrees c R r q
agree (read x y is) = agreed x y is
agree (failed e other) = both_failed e other
agree {line = line} told = marked line line (inl refl)
agree (stands y never) = absurd never

agree_bind : {c : Marking} {X Y : Type 0} {R : X → X → Type 0} {P : Y → Y → Type 0} {r q : Result X RuleFault} {f g : X → Result Y RuleFault}
    → Agrees c R r q → ((x y : X) → R x y → Agrees c P (f x) (g y)) → Agrees c P (r >>= f) (q >>= g)
agree_bind (agreed x y is) h = h x y is
agree_bind (both_failed e other) h = both_failed e other
agree_bind (marked line other at_line) h = marked line other at_line

-- one part behind another, of one line
line_bind : {c : Marking} {line : ℕ} {X Y : Type 0} {R : X → X → Type 0} {S : X → Type 0} {P : Y → Y → Type 0} {r q : Result X RuleFault} {f g : X → Result Y RuleFault}
    → Same c line R S r q → ((x y : X) → R x y → Agrees c P (f x) (g y)) → ((y : X) → S y → g y ≡ Err (fault (c.anew line) c.kind)) → Agrees c P (r >>= f) (q >>= g)
line_bind (read x y is) h k = h x y is
line_bind (failed e other) h k = both_failed e other
line_bind {line = line} told h k = marked line line (inl refl)
line_bind {c} {line} (stands y is) h k = rw (k y is) (marked line (c.anew line) (inr refl))

-- ---- the sentinel is next

mark_precondition : (m : Token) (kind : RuleFaultKind) → IsMark m kind → (limits : Limits) (n : ℕ) (rest : List Token) → precondition_at limits (Line n ∷ m ∷ rest) ≡ Ok (None, Line n ∷ m ∷ rest)
unfolding precondition_at
mark_precondition m kind bad limits n rest = refl
mark_precondition m kind excess limits n rest = refl

mark_witness : (m : Token) (kind : RuleFaultKind) → IsMark m kind → (limits : Limits) (n : ℕ) (rest : List Token) → witness_at limits (Line n ∷ m ∷ rest) ≡ Ok (None, Line n ∷ m ∷ rest)
unfolding witness_at
mark_witness m kind bad limits n rest = refl
mark_witness m kind excess limits n rest = refl

mark_source : (m : Token) (kind : RuleFaultKind) → IsMark m kind → (limits : Limits) (version : Version) (last n : ℕ) (rest : List Token) → source_at limits version last (Line n ∷ m ∷ rest) ≡ Err (unexpected n (m ∷ rest))
unfolding source_at
mark_source m kind bad limits version last n rest = refl
mark_source m kind excess limits version last n rest = refl

mark_target : (m : Token) (kind : RuleFaultKind) → IsMark m kind → (limits : Limits) (version : Version) (last n : ℕ) (rest : List Token) → target_at limits version last (Line n ∷ m ∷ rest) ≡ Err (unexpected n (m ∷ rest))
unfolding target_at
mark_target m kind bad limits version last n rest = refl
mark_target m kind excess limits version last n rest = refl

mark_arrow : (m : Token) (kind : RuleFaultKind) → IsMark m kind → (last n : ℕ) (rest : List Token) → arrow_at last (Line n ∷ m ∷ rest) ≡ Err (unexpected n (m ∷ rest))
unfolding arrow_at
mark_arrow m kind bad last n rest = refl
mark_arrow m kind excess last n rest = refl

mark_name : (m : Token) (kind : RuleFaultKind) → IsMark m kind → (limits : Limits) (last n : ℕ) (rest : List Token) → name_at limits last (Line n ∷ m ∷ rest) ≡ Err (unexpected n (m ∷ rest))
unfolding name_at
mark_name m kind bad limits last n rest = refl
mark_name m kind excess limits last n rest = refl

mark_name_text : (m : Token) (kind : RuleFaultKind) → IsMark m kind → (limits : Limits) (line : ℕ) (rest : List Token) → name_text limits line (m ∷ rest) ≡ Err (unexpected line (m ∷ rest))
mark_name_text m kind bad limits line rest = refl
mark_name_text m kind excess limits line rest = refl

mark_number : (m : Token) (kind : RuleFaultKind) → IsMark m kind → (line : ℕ) (rest : List Token) → version_number_at line (m ∷ rest) ≡ Err (unexpected line (m ∷ rest))
unfolding version_number_at
mark_number m kind bad line rest = refl
mark_number m kind excess line rest = refl

mark_version : (m : Token) (kind : RuleFaultKind) → IsMark m kind → (n : ℕ) (rest : List Token) → version_at (Line n ∷ m ∷ rest) ≡ Ok (One, Line n ∷ m ∷ rest)
unfolding version_at
mark_version m kind bad n rest = refl
mark_version m kind excess n rest = refl

mark_no_statement : (m : Token) (kind : RuleFaultKind) → IsMark m kind → (limits : Limits) (version : Version) (room : ℕ) (half_ : Half) (n : ℕ) (rest : List Token) → statements_at limits version room half_ (Line n ∷ m ∷ rest) ≡ Ok ([], Line n ∷ m ∷ rest)
unfolding statements_at
mark_no_statement m kind bad limits version zero half_ n rest = refl
mark_no_statement m kind bad limits version (suc room) half_ n rest = refl
mark_no_statement m kind excess limits version zero half_ n rest = refl
mark_no_statement m kind excess limits version (suc room) half_ n rest = refl

-- ---- values from parts

abbrev precondition_of : ℕ → List RawFormula → Option RawPrecondition
precondition_of line formula = Some (record { line = line; formula = formula })

abbrev witness_of : ℕ → List (List RawNode) → Option RawWitness
witness_of line expressions = Some (record { line = line; expressions = expressions })

abbrev statement_of : ℕ → List ℕ → RawOp → RawStatement
statement_of line name op = record { line = line; name = name; op = op }

abbrev rule_of : ℕ × List ℕ → Option RawPrecondition → Option RawWitness → List RawStatement → List RawStatement → RawRule
rule_of name precondition witness source target = record { line = name.0; name = name.1; precondition = precondition; witness = witness; source = source; target = target }

module _ (c : Marking) (some : 1 ≤ c.limits.nested) where
  -- ---- lines

  -- the tokens of both behind a whole line, and behind so many statements of a half
  abbrev Lines : ℕ → List Token → List Token → Type 0
  Lines k a b = (line : ℕ) × ((pending : List Role) × (operand : Bool) × Marked c (inline k line pending operand) a b × EndsLine a)

  -- the state at the beginning of a line
  abbrev new_line : ℕ → ℕ → State
  new_line k n = record { pending = []; operand = false; begins = true; statements = k; line = n }

  data LineFirst (k : ℕ) : List Token → List Token → Type 0 where
    no_line : LineFirst k [] []
    a_line : (n : ℕ) (x y : List Token) → Marked c (new_line k n) x y → LineFirst k (Line n ∷ x) (Line n ∷ y)

  line_first : (k : ℕ) (a b : List Token) → k ≤ c.limits.statements → Lines k a b → LineFirst k a b
  line_first k a b room (line, (pending, operand_, whole, ended)) = by a b ended (first c (inline k line pending operand_) a b whole)
    where
      by : (u v : List Token) → EndsLine u → First c (inline k line pending operand_) u v → LineFirst k u v
      by u v e ends = no_line
      by u v e stops = absurd e
      by u v e (token (Line n) x y text next) = a_line n x y (on c k line room (Line n) x y next tt refl (omega arith) room)
      by u v e (token t x y text next) = absurd e

  -- a line has to begin, and another one does
  unexpected_lines : {X : Type 0} {R : X → X → Type 0} (k last : ℕ) (a b : List Token) → LineFirst k a b → Agrees c {X = X} R (Err (unexpected_line last a)) (Err (unexpected_line last b))
  unexpected_lines {X} {R} k last a b no_line = both_failed (fault last Syntax) (λ e. absurd cc)
  unexpected_lines {X} {R} k last a b (a_line n x y more) = by x y (first c (new_line k n) x y more)
    where
      by : (u v : List Token) → First c (new_line k n) u v → Agrees c {X = X} R (Err (unexpected n u)) (Err (unexpected n v))
      by u v ends = both_failed (fault n Syntax) (λ e. absurd cc)
      by u v stops = rw (mark_told c n []) (marked n n (inl refl))
      by u v (token t s r text next) = agree (unexpected_both t s r text)

  abbrev Parted : {A : Type 0} → ℕ → A × List Token → A × List Token → Type 0
  Parted k x y = (x.0 ≡ y.0) × Lines k x.1 y.1

  none_used : 0 ≤ c.limits.statements
  none_used = omega arith

  -- behind a head, or behind `=>`
  head_on : (k n : ℕ) (text : List ℕ) (x y : List Token) → Next c (new_line k n) (Head text) x y → Marked c (inline 0 n [] false) x y
  head_on k n text x y next = on c 0 n none_used (Head text) x y next tt refl (omega arith) none_used

  arrow_on : (k n : ℕ) (x y : List Token) → Next c (new_line k n) Arrow x y → Marked c (inline 0 n [] false) x y
  arrow_on k n x y next = on c 0 n none_used Arrow x y next tt refl (omega arith) none_used

  -- ---- `Pre:`

  precondition_same : (a b : List Token) → Lines 0 a b → Agrees c (Parted {A = Option RawPrecondition} 0) (precondition_at c.limits a) (precondition_at c.wider b)
  unfolding precondition_at
  precondition_same a b lines = by a b lines (line_first 0 a b none_used lines)
    where
      headed : (n : ℕ) (head : List ℕ) (x y : List Token) → Lines 0 (Line n ∷ Head head ∷ x) (Line n ∷ Head head ∷ y) → Next c (new_line 0 n) (Head head) x y → (d : Bool) → bytes_eq head (codes "Pre:") ≡ d
          → Agrees c (Parted {A = Option RawPrecondition} 0) (cond d (behind_precondition c.limits n x) (Ok (None, Line n ∷ Head head ∷ x))) (cond d (behind_precondition c.wider n y) (Ok (None, Line n ∷ Head head ∷ y)))
      headed n head x y whole next false e = agreed (None, Line n ∷ Head head ∷ x) (None, Line n ∷ Head head ∷ y) (refl, whole)
      headed n head x y whole next true e =
          agree_bind (agree (formula_same c 0 n none_used some x y (head_on 0 n head x y next)))
          (λ f g is. agreed (precondition_of n f.0, f.1) (precondition_of n g.0, g.1) (ap (precondition_of n) is.0, (n, is.1)))

      line_by : (n : ℕ) (x y : List Token) → Lines 0 (Line n ∷ x) (Line n ∷ y) → First c (new_line 0 n) x y → Agrees c (Parted {A = Option RawPrecondition} 0) (precondition_at c.limits (Line n ∷ x)) (precondition_at c.wider (Line n ∷ y))
      line_by n x y whole ends = agreed (None, Line n ∷ []) (None, Line n ∷ []) (refl, whole)
      line_by n x y whole stops = rw (mark_precondition c.mark c.kind c.is_mark c.wider n []) (agreed (None, Line n ∷ Excess ∷ []) (None, Line n ∷ c.mark ∷ []) (refl, whole))
      line_by n x y whole (token (Head head) u v text next) = headed n head u v whole next (bytes_eq head (codes "Pre:")) refl
      line_by n x y whole (token t u v text next) = agreed (None, Line n ∷ t ∷ u) (None, Line n ∷ t ∷ v) (refl, whole)

      by : (u v : List Token) → Lines 0 u v → LineFirst 0 u v → Agrees c (Parted {A = Option RawPrecondition} 0) (precondition_at c.limits u) (precondition_at c.wider v)
      by u v whole no_line = agreed (None, []) (None, []) (refl, whole)
      by u v whole (a_line n x y more) = line_by n x y whole (first c (new_line 0 n) x y more)

  -- ---- `Wit:`

  expression_same : (n : ℕ) (before : List (List RawNode)) (a b : List Token) → Marked c (inline 0 n [] false) a b → Same c n (Leaves c 0 n none_used {A = List (List RawNode)} (λ o. o ≡ [])) (Stops c 0 n none_used {A = List (List RawNode)}) (expression_at c.limits n before a) (expression_at c.wider n before b)
  expression_same n before a b whole =
      same_bind (term_same c 0 n none_used Witness c.limits.nested c.wider.nested c.nested [] refl (omega arith) a b whole)
      (λ x y is. read (before ++ x.0 ∷ [], x.1) (before ++ y.0 ∷ [], y.1) (ap (λ (nodes : List RawNode). before ++ nodes ∷ []) is.0, ([], refl, is.1)))
      (λ y s. left (before ++ y.0 ∷ [], y.1) s)

  comma_on : (n : ℕ) (pending : List Role) → pending ≡ [] → (x y : List Token) → Next c (inline 0 n pending true) (Mark (codes ",")) x y → Marked c (inline 0 n [] false) x y
  comma_on n pending is x y next =
      on c 0 n none_used (Mark (codes ",")) x y (subst (λ (o : List Role). Next c (inline 0 n o true) (Mark (codes ",")) x y) is next) tt refl (omega arith) none_used

  expressions_same : (n : ℕ) (a b : List Token) → Marked c (inline 0 n [] false) a b → Same c n {X = List (List RawNode) × List Token} (λ x y. (x.0 ≡ y.0) × Ended c 0 n none_used x.1 y.1) (NoStand c 0 n none_used) (expressions_at c.limits n a) (expressions_at c.wider n b)
  unfolding expressions_at
  expressions_same n a b whole =
      same_bind (expression_same n [] a b whole)
      (λ x y is. same_bind (subst (λ (es : List (List RawNode)). Same c n (Leaves c 0 n none_used {A = List (List RawNode)} (λ o. o ≡ [])) (Stops c 0 n none_used {A = List (List RawNode)}) (chain_at (codes ",") (expression_at c.limits n) x.0 x.1) (chain_at (codes ",") (expression_at c.wider n) es y.1)) is.0
      (chain_same c 0 n none_used [] (λ o. o ≡ []) (codes ",") (comma_on n) (expression_at c.limits n) (expression_at c.wider n) (expression_shortens c.limits n) (expression_shortens c.wider n) (expression_same n) (suc (length x.1)) x.0 is.1.0 is.1.1 x.1 y.1 (omega arith) is.1.2))
      (λ u v m. same_bind (line_end_same c 0 n none_used m.1.0 true u.1 v.1 m.1.2) (λ s t e. read (u.0, s) (v.0, t) (m.0, e)) (λ t never. absurd never))
      (λ v s. rw s.1 (meets_bind (line_end_met c 0 n none_used s.0) (λ t never. absurd never))))
      (λ y s. rw (s.1, chain_left c 0 n none_used (codes ",") (expression_at c.wider n) y.0 s.0) (meets_bind (line_end_met c 0 n none_used s.0) (λ t never. absurd never)))

  witness_same : (a b : List Token) → Lines 0 a b → Agrees c (Parted {A = Option RawWitness} 0) (witness_at c.limits a) (witness_at c.wider b)
  unfolding witness_at
  witness_same a b lines = by a b lines (line_first 0 a b none_used lines)
    where
      headed : (n : ℕ) (head : List ℕ) (x y : List Token) → Lines 0 (Line n ∷ Head head ∷ x) (Line n ∷ Head head ∷ y) → Next c (new_line 0 n) (Head head) x y → (d : Bool) → bytes_eq head (codes "Wit:") ≡ d
          → Agrees c (Parted {A = Option RawWitness} 0) (cond d (behind_witness c.limits n x) (Ok (None, Line n ∷ Head head ∷ x))) (cond d (behind_witness c.wider n y) (Ok (None, Line n ∷ Head head ∷ y)))
      headed n head x y whole next false e = agreed (None, Line n ∷ Head head ∷ x) (None, Line n ∷ Head head ∷ y) (refl, whole)
      headed n head x y whole next true e =
          agree_bind (agree (expressions_same n x y (head_on 0 n head x y next)))
          (λ f g is. agreed (witness_of n f.0, f.1) (witness_of n g.0, g.1) (ap (witness_of n) is.0, (n, is.1)))

      line_by : (n : ℕ) (x y : List Token) → Lines 0 (Line n ∷ x) (Line n ∷ y) → First c (new_line 0 n) x y → Agrees c (Parted {A = Option RawWitness} 0) (witness_at c.limits (Line n ∷ x)) (witness_at c.wider (Line n ∷ y))
      line_by n x y whole ends = agreed (None, Line n ∷ []) (None, Line n ∷ []) (refl, whole)
      line_by n x y whole stops = rw (mark_witness c.mark c.kind c.is_mark c.wider n []) (agreed (None, Line n ∷ Excess ∷ []) (None, Line n ∷ c.mark ∷ []) (refl, whole))
      line_by n x y whole (token (Head head) u v text next) = headed n head u v whole next (bytes_eq head (codes "Wit:")) refl
      line_by n x y whole (token t u v text next) = agreed (None, Line n ∷ t ∷ u) (None, Line n ∷ t ∷ v) (refl, whole)

      by : (u v : List Token) → Lines 0 u v → LineFirst 0 u v → Agrees c (Parted {A = Option RawWitness} 0) (witness_at c.limits u) (witness_at c.wider v)
      by u v whole no_line = agreed (None, []) (None, []) (refl, whole)
      by u v whole (a_line n x y more) = line_by n x y whole (first c (new_line 0 n) x y more)

  -- ---- statements

  -- a statement, behind a register within both limits
  statement_same : (version : Version) (half_ : Half) (k n : ℕ) → k ≤ c.limits.statements → (register : List ℕ) (a b : List Token) → length register ≤ c.limits.name_bytes → Marked c (inline k n [] true) a b
      → Agrees c (Parted {A = RawStatement} k) (statement_at c.limits version half_ n register a) (statement_at c.wider version half_ n register b)
  unfolding statement_at
  statement_same version half_ k n room register a b le whole =
      let wide = c.name_bytes in
      rw (short_name c.limits n register le, short_name c.wider n register (omega (arith, le, wide)))
      (agree_bind (agree (mark_same c k n room {R = Marked c (inline k n [] false)} (codes "=") (inline k n [] true) a b whole (λ x y next. on c k n room (Mark (codes "=")) x y next tt refl (omega arith) room)))
      (λ x y more. agree_bind (agree (op_same c k n room version half_ x y more))
      (λ u v is. agreed (statement_of n register u.0, u.1) (statement_of n register v.0, v.1) (ap (statement_of n register) is.0, (n, is.1)))))

  -- the register is within the wider limits alone, and the sentinel is behind it
  statement_marked : (version : Version) (half_ : Half) (n : ℕ) (register : List ℕ) (rest : List Token) → length register ≤ c.wider.name_bytes → statement_at c.wider version half_ n register (c.mark ∷ rest) ≡ Err (fault n c.kind)
  unfolding statement_at
  statement_marked version half_ n register rest le = by (mark_at (codes "=") n (c.mark ∷ rest)) refl (mark_met c 0 n none_used (codes "=") rest)
    where
      by : (r : Result (List Token) RuleFault) → mark_at (codes "=") n (c.mark ∷ rest) ≡ r → Meets c n (NoStand c 0 n none_used) r → statement_at c.wider version half_ n register (c.mark ∷ rest) ≡ Err (fault n c.kind)
      by r e refused = rw (short_name c.wider n register le, e) refl
      by r e (left y never) = absurd never

  statement_long : (version : Version) (half_ : Half) (n : ℕ) (register : List ℕ) (rest : List Token) → c.limits.name_bytes < length register → statement_at c.limits version half_ n register rest ≡ Err (fault n TooMany)
  unfolding statement_at
  statement_long version half_ n register rest more = rw (long_name c.limits n register more) refl

  abbrev HalfSame : List RawStatement × List Token → List RawStatement × List Token → Type 0
  HalfSame x y = (x.0 ≡ y.0) × ((k : ℕ) × (k ≤ c.limits.statements) × Lines k x.1 y.1)

  -- no statement is next
  abbrev NoRegister : Token → Type 0
  NoRegister (Register name) = ⊥
  NoRegister t = Unit {0}

  half_ends : (version : Version) (half_ : Half) (room : ℕ) (limits : Limits) (n : ℕ) (t : Token) (rest : List Token) → NoRegister t → statements_at limits version room half_ (Line n ∷ t ∷ rest) ≡ Ok ([], Line n ∷ t ∷ rest)
  unfolding statements_at
  half_ends version half_ zero limits n (Register name) rest never = absurd never
  half_ends version half_ (suc room) limits n (Register name) rest never = absurd never
  half_ends version half_ zero limits n t rest never = refl
  half_ends version half_ (suc room) limits n t rest never = refl

  line_alone : (version : Version) (half_ : Half) (room : ℕ) (limits : Limits) (n : ℕ) → statements_at limits version room half_ (Line n ∷ []) ≡ Ok ([], Line n ∷ [])
  unfolding statements_at
  line_alone version half_ zero limits n = refl
  line_alone version half_ (suc room) limits n = refl

  nothing_alone : (version : Version) (half_ : Half) (room : ℕ) (limits : Limits) → statements_at limits version room half_ [] ≡ Ok ([], [])
  unfolding statements_at
  nothing_alone version half_ zero limits = refl
  nothing_alone version half_ (suc room) limits = refl

  no_room : (version : Version) (half_ : Half) (limits : Limits) (n : ℕ) (name : List ℕ) (rest : List Token) → statements_at limits version zero half_ (Line n ∷ Register name ∷ rest) ≡ Err (fault n TooMany)
  unfolding statements_at
  no_room version half_ limits n name rest = refl

  one_more : (version : Version) (half_ : Half) (room : ℕ) (limits : Limits) (n : ℕ) (name : List ℕ) (rest : List Token) → statements_at limits version (suc room) half_ (Line n ∷ Register name ∷ rest)
      ≡ (statement_at limits version half_ n name rest >>= λ one. statements_at limits version room half_ one.1 >>= λ others. Ok (one.0 ∷ others.0, others.1))
  unfolding statements_at
  one_more version half_ room limits n name rest = refl

  statements_same : (version : Version) (half_ : Half) (room wide k : ℕ) → room < wide → k + room ≡ c.limits.statements → (a b : List Token) → Lines k a b → Agrees c HalfSame (statements_at c.limits version room half_ a) (statements_at c.wider version wide half_ b)
  statements_same version half_ room zero k less sum a b lines = absurd (omega (arith, less))
  statements_same version half_ room (suc wide) k less sum a b lines = by a b lines (line_first k a b used lines) (λ r low total u v more. statements_same version half_ r wide (k + 1) low total u v more)
    where
      used : k ≤ c.limits.statements
      used = omega (arith, sum)

      -- one statement more, with room for it or without
      one : (r : ℕ) → r ≡ room → (n : ℕ) (name : List ℕ) (x y : List Token) → Next c (new_line k n) (Register name) x y → ((r : ℕ) → r < wide → k + 1 + r ≡ c.limits.statements → (u v : List Token) → Lines (k + 1) u v → Agrees c HalfSame (statements_at c.limits version r half_ u) (statements_at c.wider version wide half_ v)) → Agrees c HalfSame (statements_at c.limits version r half_ (Line n ∷ Register name ∷ x)) (statements_at c.wider version (suc wide) half_ (Line n ∷ Register name ∷ y))
      one zero is n name x y (passes rest no_name how le) again = rw (no_room version half_ c.limits n name rest, one_more version half_ wide c.wider n name (c.mark ∷ rest), statement_marked version half_ n name rest le) (marked n n (inl refl))
      one zero is n name x y (passes_name text rest same_ ended long_ le) again = absurd cc
      one zero is n name x y (goes_on s t kept more) again = let most = kept.half in absurd (omega (arith, most, sum, is))
      one (suc r) is n name x y (passes rest no_name (bytes more) le) again = rw (one_more version half_ r c.limits n name rest, one_more version half_ wide c.wider n name (c.mark ∷ rest), statement_long version half_ n name rest more, statement_marked version half_ n name rest le) (marked n n (inl refl))
      one (suc r) is n name x y (passes rest no_name (levels more) le) again = absurd (omega (arith, more))
      one (suc r) is n name x y (passes rest no_name (half more) le) again = absurd (omega (arith, more, sum, is))
      one (suc r) is n name x y (passes_name text rest same_ ended long_ le) again = absurd cc
      one (suc r) is n name x y (goes_on s t kept more) again =
          let most = kept.half in
          rw (one_more version half_ r c.limits n name s, one_more version half_ wide c.wider n name t)
          (agree_bind (statement_same version half_ (k + 1) n (omega (arith, most)) name s t kept.bytes more)
          (λ u v eq. agree_bind (again r (omega (arith, less, is)) (omega (arith, sum, is)) u.1 v.1 eq.1)
          (λ p q others. agreed (u.0 ∷ p.0, p.1) (v.0 ∷ q.0, q.1) (ap (λ (s_ : RawStatement). s_ ∷ p.0) eq.0 ∙ ap (λ (ss : List RawStatement). v.0 ∷ ss) others.0, others.1))))

      other : (n : ℕ) (t : Token) (x y : List Token) → NoRegister t → Lines k (Line n ∷ t ∷ x) (Line n ∷ t ∷ y) → Agrees c HalfSame (statements_at c.limits version room half_ (Line n ∷ t ∷ x)) (statements_at c.wider version (suc wide) half_ (Line n ∷ t ∷ y))
      other n t x y never whole =
          rw (half_ends version half_ room c.limits n t x never, half_ends version half_ (suc wide) c.wider n t y never) (agreed ([], Line n ∷ t ∷ x) ([], Line n ∷ t ∷ y) (refl, (k, used, whole)))

      line_by : (n : ℕ) (x y : List Token) → Lines k (Line n ∷ x) (Line n ∷ y) → First c (new_line k n) x y → ((r : ℕ) → r < wide → k + 1 + r ≡ c.limits.statements → (u v : List Token) → Lines (k + 1) u v → Agrees c HalfSame (statements_at c.limits version r half_ u) (statements_at c.wider version wide half_ v)) → Agrees c HalfSame (statements_at c.limits version room half_ (Line n ∷ x)) (statements_at c.wider version (suc wide) half_ (Line n ∷ y))
      line_by n x y whole ends again = rw (line_alone version half_ room c.limits n, line_alone version half_ (suc wide) c.wider n) (agreed ([], Line n ∷ []) ([], Line n ∷ []) (refl, (k, used, whole)))
      line_by n x y whole stops again =
          rw (half_ends version half_ room c.limits n Excess [] tt, mark_no_statement c.mark c.kind c.is_mark c.wider version (suc wide) half_ n []) (agreed ([], Line n ∷ Excess ∷ []) ([], Line n ∷ c.mark ∷ []) (refl, (k, used, whole)))
      line_by n x y whole (token (Register name) u v text next) again = one room refl n name u v next again
      line_by n x y whole (token t u v text next) again = other n t u v tt whole

      by : (u v : List Token) → Lines k u v → LineFirst k u v → ((r : ℕ) → r < wide → k + 1 + r ≡ c.limits.statements → (u v : List Token) → Lines (k + 1) u v → Agrees c HalfSame (statements_at c.limits version r half_ u) (statements_at c.wider version wide half_ v)) → Agrees c HalfSame (statements_at c.limits version room half_ u) (statements_at c.wider version (suc wide) half_ v)
      by u v whole no_line again = rw (nothing_alone version half_ room c.limits, nothing_alone version half_ (suc wide) c.wider) (agreed ([], []) ([], []) (refl, (k, used, whole)))
      by u v whole (a_line n x y more) again = line_by n x y whole (first c (new_line k n) x y more) again

  -- ---- the parts of a rule

  half_same : (version : Version) (half_ : Half) (a b : List Token) → Lines 0 a b → Agrees c HalfSame (statements_at c.limits version c.limits.statements half_ a) (statements_at c.wider version c.wider.statements half_ b)
  half_same version half_ a b lines = statements_same version half_ c.limits.statements c.wider.statements 0 c.statements (omega arith) a b lines

  source_same : (version : Version) (last : ℕ) (a b : List Token) → Lines 0 a b → Agrees c HalfSame (source_at c.limits version last a) (source_at c.wider version last b)
  unfolding source_at
  source_same version last a b lines = by a b lines (line_first 0 a b none_used lines)
    where
      line_by : (n : ℕ) (x y : List Token) → Lines 0 (Line n ∷ x) (Line n ∷ y) → LineFirst 0 (Line n ∷ x) (Line n ∷ y) → First c (new_line 0 n) x y → Agrees c HalfSame (source_at c.limits version last (Line n ∷ x)) (source_at c.wider version last (Line n ∷ y))
      line_by n x y whole one ends = unexpected_lines 0 last (Line n ∷ []) (Line n ∷ []) one
      line_by n x y whole one stops = rw (mark_source c.mark c.kind c.is_mark c.wider version last n []) (unexpected_lines 0 last (Line n ∷ Excess ∷ []) (Line n ∷ c.mark ∷ []) one)
      line_by n x y whole one (token (Register name) u v text next) = half_same version Source (Line n ∷ Register name ∷ u) (Line n ∷ Register name ∷ v) whole
      line_by n x y whole one (token t u v text next) = unexpected_lines 0 last (Line n ∷ t ∷ u) (Line n ∷ t ∷ v) one

      by : (u v : List Token) → Lines 0 u v → LineFirst 0 u v → Agrees c HalfSame (source_at c.limits version last u) (source_at c.wider version last v)
      by u v whole no_line = unexpected_lines 0 last [] [] no_line
      by u v whole (a_line n x y more) = line_by n x y whole (a_line n x y more) (first c (new_line 0 n) x y more)

  target_same : (version : Version) (last : ℕ) (a b : List Token) → Lines 0 a b → Agrees c HalfSame (target_at c.limits version last a) (target_at c.wider version last b)
  unfolding target_at
  target_same version last a b lines = by a b lines (line_first 0 a b none_used lines)
    where
      line_by : (n : ℕ) (x y : List Token) → Lines 0 (Line n ∷ x) (Line n ∷ y) → LineFirst 0 (Line n ∷ x) (Line n ∷ y) → First c (new_line 0 n) x y → Agrees c HalfSame (target_at c.limits version last (Line n ∷ x)) (target_at c.wider version last (Line n ∷ y))
      line_by n x y whole one ends = unexpected_lines 0 last (Line n ∷ []) (Line n ∷ []) one
      line_by n x y whole one stops = rw (mark_target c.mark c.kind c.is_mark c.wider version last n []) (unexpected_lines 0 last (Line n ∷ Excess ∷ []) (Line n ∷ c.mark ∷ []) one)
      line_by n x y whole one (token (Register name) u v text next) = half_same version Target (Line n ∷ Register name ∷ u) (Line n ∷ Register name ∷ v) whole
      line_by n x y whole one (token t u v text next) = unexpected_lines 0 last (Line n ∷ t ∷ u) (Line n ∷ t ∷ v) one

      by : (u v : List Token) → Lines 0 u v → LineFirst 0 u v → Agrees c HalfSame (target_at c.limits version last u) (target_at c.wider version last v)
      by u v whole no_line = unexpected_lines 0 last [] [] no_line
      by u v whole (a_line n x y more) = line_by n x y whole (a_line n x y more) (first c (new_line 0 n) x y more)

  arrow_same : (k last : ℕ) → k ≤ c.limits.statements → (a b : List Token) → Lines k a b → Agrees c (Lines 0) (arrow_at last a) (arrow_at last b)
  unfolding arrow_at
  arrow_same k last used a b lines = by a b (line_first k a b used lines)
    where
      line_by : (n : ℕ) (x y : List Token) → LineFirst k (Line n ∷ x) (Line n ∷ y) → First c (new_line k n) x y → Agrees c (Lines 0) (arrow_at last (Line n ∷ x)) (arrow_at last (Line n ∷ y))
      line_by n x y one ends = unexpected_lines k last (Line n ∷ []) (Line n ∷ []) one
      line_by n x y one stops = rw (mark_arrow c.mark c.kind c.is_mark last n []) (unexpected_lines k last (Line n ∷ Excess ∷ []) (Line n ∷ c.mark ∷ []) one)
      line_by n x y one (token Arrow u v text next) = agree_bind_same n u v (agree (line_end_same c 0 n none_used [] false u v (arrow_on k n u v next)))
        where
          agree_bind_same : (m : ℕ) (s r : List Token) → Agrees c (Ended c 0 m none_used) (line_end m s) (line_end m r) → Agrees c (Lines 0) (line_end m s) (line_end m r)
          agree_bind_same m s r h = on_lines m (line_end m s) (line_end m r) h
            where
              on_lines : (l : ℕ) (p q : Result (List Token) RuleFault) → Agrees c (Ended c 0 l none_used) p q → Agrees c (Lines 0) p q
              on_lines l p q (agreed g h_ is) = agreed g h_ (l, is)
              on_lines l p q (both_failed e other) = both_failed e other
              on_lines l p q (marked line other at_line) = marked line other at_line
      line_by n x y one (token t u v text next) = unexpected_lines k last (Line n ∷ t ∷ u) (Line n ∷ t ∷ v) one

      by : (u v : List Token) → LineFirst k u v → Agrees c (Lines 0) (arrow_at last u) (arrow_at last v)
      by u v no_line = unexpected_lines k last [] [] no_line
      by u v (a_line n x y more) = line_by n x y (a_line n x y more) (first c (new_line k n) x y more)

  -- ---- the name

  -- the sentinel begins a line of its own
  abbrev Anew : ℕ → {A : Type 0} → A × List Token → Type 0
  Anew n y = (rest : List Token) × (y.1 ≡ Line (c.anew n) ∷ c.mark ∷ rest)

  name_text_same : (n : ℕ) (a b : List Token) → Marked c (inline 0 n [] false) a b → Same c n (Parted {A = List ℕ} 0) (Anew n {A = List ℕ}) (name_text c.limits n a) (name_text c.wider n b)
  name_text_same n a b whole = by a b (first c (inline 0 n [] false) a b whole)
    where
      named : (byte : ℕ) (bytes_ : List ℕ) (x y : List Token) → EndsLine x → Next c (inline 0 n [] false) (Name (byte ∷ bytes_)) x y
          → Same c n (Parted {A = List ℕ} 0) (Anew n {A = List ℕ}) (name_within c.limits n (byte ∷ bytes_) >>= λ name. Ok (name, x)) (name_within c.wider n (byte ∷ bytes_) >>= λ name. Ok (name, y))
      named byte bytes_ x y line_over (passes rest no_name how le) = absurd no_name
      named byte bytes_ x y line_over (passes_name text rest is ended more le) =
          let same_text : byte ∷ bytes_ ≡ text = cc in
          let long_ : c.limits.name_bytes < length (byte ∷ bytes_) = omega (arith, more, ap length same_text) in
          let short_ : length (byte ∷ bytes_) ≤ c.wider.name_bytes = omega (arith, le, ap length same_text) in
          rw (long_name c.limits n (byte ∷ bytes_) long_, short_name c.wider n (byte ∷ bytes_) short_) (stands (byte ∷ bytes_, Line (c.anew n) ∷ c.mark ∷ rest) (rest, refl))
      named byte bytes_ x y line_over (goes_on s t kept more) =
          let le = kept.bytes in
          let wide = c.name_bytes in
          rw (short_name c.limits n (byte ∷ bytes_) le, short_name c.wider n (byte ∷ bytes_) (omega (arith, le, wide)))
          (read (byte ∷ bytes_, s) (byte ∷ bytes_, t) (refl, (n, ([], false, more, line_over))))

      by : (u v : List Token) → First c (inline 0 n [] false) u v → Same c n (Parted {A = List ℕ} 0) (Anew n {A = List ℕ}) (name_text c.limits n u) (name_text c.wider n v)
      by u v ends = syntax_both
      by u v stops = rw (mark_name_text c.mark c.kind c.is_mark c.wider n []) (cut_told [])
      by u v (token (Name []) x y text next) = syntax_both
      by u v (token (Name (byte ∷ bytes_)) x y text next) = named byte bytes_ x y text.1 next
      by u v (token t x y text next) = unexpected_both t x y text

  -- a rule begins on this line
  name_same : (k last n : ℕ) (a b : List Token) → First c (new_line k n) a b → Same c n (Parted {A = ℕ × List ℕ} 0) (Anew n {A = ℕ × List ℕ}) (name_at c.limits last (Line n ∷ a)) (name_at c.wider last (Line n ∷ b))
  unfolding name_at
  name_same k last n a b ends = syntax_both
  name_same k last n a b stops = rw (mark_name c.mark c.kind c.is_mark c.wider last n []) (cut_told [])
  name_same k last n a b (token (Head head) x y text next) = by (bytes_eq head (codes "Name:"))
    where
      by : (d : Bool) → Same c n (Parted {A = ℕ × List ℕ} 0) (Anew n {A = ℕ × List ℕ}) (cond d (name_text c.limits n x >>= λ name. Ok ((n, name.0), name.1)) (Err (fault n Syntax))) (cond d (name_text c.wider n y >>= λ name. Ok ((n, name.0), name.1)) (Err (fault n Syntax)))
      by false = syntax_both
      by true =
          same_bind (name_text_same n x y (head_on k n head x y next))
          (λ u v is. read ((n, u.0), u.1) ((n, v.0), v.1) (ap (λ (t : List ℕ). (n, t)) is.0, is.1)) (λ v s. left ((n, v.0), v.1) s)
  name_same k last n a b (token t x y text next) = unexpected_both t x y text

  -- ---- rules

  -- a rule, behind its name
  abbrev behind_name : Limits → Version → ℕ → (ℕ × List ℕ) × List Token → Result (RawRule × List Token) RuleFault
  behind_name limits version last name =
      precondition_at limits name.1 >>= λ precondition. witness_at limits precondition.1 >>= λ witness. source_at limits version last witness.1 >>= λ source. arrow_at last source.1 >>= λ behind. target_at limits version last behind
      >>= λ target. Ok (record { line = name.0.0; name = name.0.1; precondition = precondition.0; witness = witness.0; source = source.0; target = target.0 }, target.1)

  abbrev RuleSame : RawRule × List Token → RawRule × List Token → Type 0
  RuleSame x y = (x.0 ≡ y.0) × ((k : ℕ) × (k ≤ c.limits.statements) × Lines k x.1 y.1)

  behind_name_same : (version : Version) (last : ℕ) (x y : (ℕ × List ℕ) × List Token) → Parted 0 x y → Agrees c RuleSame (behind_name c.limits version last x) (behind_name c.wider version last y)
  behind_name_same version last x y (same_name, lines) =
      agree_bind (precondition_same x.1 y.1 lines)
      (λ p q pre. agree_bind (witness_same p.1 q.1 pre.1)
      (λ w v wit. agree_bind (source_same version last w.1 v.1 wit.1)
      (λ s t src. agree_bind (arrow_same src.1.0 last src.1.1 s.1 t.1 src.1.2)
      (λ u r arrow. agree_bind (target_same version last u r arrow)
      (λ g h tgt. agreed (rule_of x.0 p.0 w.0 s.0 g.0, g.1) (rule_of y.0 q.0 v.0 t.0 h.0, h.1) (made same_name pre.0 wit.0 src.0 tgt.0, tgt.1))))))
    where
      made : {n m : ℕ × List ℕ} {p q : Option RawPrecondition} {w v : Option RawWitness} {s t g h : List RawStatement} → n ≡ m → p ≡ q → w ≡ v → s ≡ t → g ≡ h → rule_of n p w s g ≡ rule_of m q v t h
      made {n} {m} {p} {q} {w} {v} {s} {t} {g} {h} a b d e f =
          ap (λ (z : ℕ × List ℕ). rule_of z p w s g) a ∙ ap (λ (z : Option RawPrecondition). rule_of m z w s g) b ∙ ap (λ (z : Option RawWitness). rule_of m q z s g) d
          ∙ ap (λ (z : List RawStatement). rule_of m q v z g) e ∙ ap (λ (z : List RawStatement). rule_of m q v t z) f

  behind_name_marked : (version : Version) (last n : ℕ) (y : (ℕ × List ℕ) × List Token) → Anew n y → behind_name c.wider version last y ≡ Err (fault (c.anew n) c.kind)
  behind_name_marked version last n y (rest, is) =
      rw (is, mark_precondition c.mark c.kind c.is_mark c.wider (c.anew n) rest, mark_witness c.mark c.kind c.is_mark c.wider (c.anew n) rest, mark_source c.mark c.kind c.is_mark c.wider version last (c.anew n) rest, mark_told c (c.anew n) rest) refl

  rule_same : (version : Version) (last k : ℕ) → k ≤ c.limits.statements → (n : ℕ) (x y : List Token) → Marked c (new_line k n) x y → Agrees c RuleSame (rule_at c.limits version last (Line n ∷ x)) (rule_at c.wider version last (Line n ∷ y))
  unfolding rule_at
  rule_same version last k used n x y more =
      line_bind (name_same k last n x y (first c (new_line k n) x y more)) (λ u v is. behind_name_same version last u v is) (λ v s. behind_name_marked version last n v s)

  -- rules one behind the other, with enough steps for both
  rules_same : (version : Version) (last n m k : ℕ) → k ≤ c.limits.statements → (a b : List Token) → length a ≤ n → length b ≤ m → LineFirst k a b → Agrees c {X = List RawRule} (λ x y. x ≡ y) (rules_at c.limits version n last a) (rules_at c.wider version m last b)
  unfolding rules_at
  rules_same version last n m k used a b p q no_line = agreed [] [] refl
  rules_same version last zero m k used a b p q (a_line l x y more) = absurd (omega (arith, p))
  rules_same version last (suc n) zero k used a b p q (a_line l x y more) = absurd (omega (arith, q))
  rules_same version last (suc n) (suc m) k used a b p q (a_line l x y more) =
      by (rule_at c.limits version last (Line l ∷ x)) (rule_at c.wider version last (Line l ∷ y)) refl refl (rule_same version last k used l x y more) (λ j low u v fewer less one. rules_same version last n m j low u v fewer less one)
    where
      by : (r s : Result (RawRule × List Token) RuleFault) → rule_at c.limits version last (Line l ∷ x) ≡ r → rule_at c.wider version last (Line l ∷ y) ≡ s → Agrees c RuleSame r s → ((j : ℕ) → j ≤ c.limits.statements → (u v : List Token) → length u ≤ n → length v ≤ m → LineFirst j u v → Agrees c {X = List RawRule} (λ x y. x ≡ y) (rules_at c.limits version n last u) (rules_at c.wider version m last v))
          → Agrees c {X = List RawRule} (λ x y. x ≡ y) (r >>= λ one. rules_at c.limits version n last one.1 >>= λ others. Ok (one.0 ∷ others)) (s >>= λ one. rules_at c.wider version m last one.1 >>= λ others. Ok (one.0 ∷ others))
      by r s e f (both_failed g other) again = both_failed g other
      by r s e f (marked line other at_line) again = marked line other at_line
      by r s e f (agreed u v is) again =
          let fewer : length u.1 < length (Line l ∷ x) = rule_at-shorter c.limits version last (Line l ∷ x) u e in
          let less : length v.1 < length (Line l ∷ y) = rule_at-shorter c.wider version last (Line l ∷ y) v f in
          agree_bind (again is.1.0 is.1.1 u.1 v.1 (omega (arith, fewer, p)) (omega (arith, less, q)) (line_first is.1.0 u.1 v.1 is.1.1 is.1.2))
          (λ rs ss others. agreed (u.0 ∷ rs) (v.0 ∷ ss) (ap (λ (rule : RawRule). rule ∷ rs) is.0 ∙ ap (λ (rules : List RawRule). v.0 ∷ rules) others))

  -- ---- the version

  number_same : (n : ℕ) (a b : List Token) → Marked c (inline 0 n [] false) a b → Agrees c (Parted {A = Version} 0) (version_number_at n a) (version_number_at n b)
  unfolding version_number_at
  number_same n a b whole = by a b (first c (inline 0 n [] false) a b whole)
    where
      found : (text : List ℕ) (x y : List Token) → IsOperand c 0 n none_used (Number text) [] x y → (known : Option Version)
          → Agrees c (Parted {A = Version} 0) (or_left_out n text known x >>= λ version. line_end n version.1 >>= λ behind. Ok (version.0, behind)) (or_left_out n text known y >>= λ version. line_end n version.1 >>= λ behind. Ok (version.0, behind))
      found text x y (long rest more le) known = absurd (omega (arith, more))
      found text x y (short u v le more) None = agree (misplaced_both text)
      found text x y (short u v le more) (Some version) = agree_bind (agree (line_end_same c 0 n none_used [] true u v more)) (λ s t e. agreed (version, s) (version, t) (refl, (n, e)))

      by : (u v : List Token) → First c (inline 0 n [] false) u v → Agrees c (Parted {A = Version} 0) (version_number_at n u) (version_number_at n v)
      by u v ends = both_failed (fault n Syntax) (λ e. absurd cc)
      by u v stops = rw (mark_number c.mark c.kind c.is_mark n [], mark_told c n []) (marked n n (inl refl))
      by u v (token (Number text) x y t next) = found text x y (operand c 0 n none_used [] false (Number text) x y (omega arith) tt refl next) (version_in text)
      by u v (token t x y text next) = agree (unexpected_both t x y text)

  version_same : (a b : List Token) → Lines 0 a b → Agrees c (Parted {A = Version} 0) (version_at a) (version_at b)
  unfolding version_at
  version_same a b lines = by a b lines (line_first 0 a b none_used lines)
    where
      headed : (n : ℕ) (head : List ℕ) (x y : List Token) → Lines 0 (Line n ∷ Head head ∷ x) (Line n ∷ Head head ∷ y) → Next c (new_line 0 n) (Head head) x y → (d : Bool) → bytes_eq head (codes "Version:") ≡ d
          → Agrees c (Parted {A = Version} 0) (cond d (version_number_at n x) (Ok (One, Line n ∷ Head head ∷ x))) (cond d (version_number_at n y) (Ok (One, Line n ∷ Head head ∷ y)))
      headed n head x y whole next false e = agreed (One, Line n ∷ Head head ∷ x) (One, Line n ∷ Head head ∷ y) (refl, whole)
      headed n head x y whole next true e = number_same n x y (head_on 0 n head x y next)

      line_by : (n : ℕ) (x y : List Token) → Lines 0 (Line n ∷ x) (Line n ∷ y) → First c (new_line 0 n) x y → Agrees c (Parted {A = Version} 0) (version_at (Line n ∷ x)) (version_at (Line n ∷ y))
      line_by n x y whole ends = agreed (One, Line n ∷ []) (One, Line n ∷ []) (refl, whole)
      line_by n x y whole stops = rw (mark_version c.mark c.kind c.is_mark n []) (agreed (One, Line n ∷ Excess ∷ []) (One, Line n ∷ c.mark ∷ []) (refl, whole))
      line_by n x y whole (token (Head head) u v text next) = headed n head u v whole next (bytes_eq head (codes "Version:")) refl
      line_by n x y whole (token t u v text next) = agreed (One, Line n ∷ t ∷ u) (One, Line n ∷ t ∷ v) (refl, whole)

      by : (u v : List Token) → Lines 0 u v → LineFirst 0 u v → Agrees c (Parted {A = Version} 0) (version_at u) (version_at v)
      by u v whole no_line = agreed (One, []) (One, []) (refl, whole)
      by u v whole (a_line n x y more) = line_by n x y whole (first c (new_line 0 n) x y more)

  -- ---- the whole file

  pub file_same : (last : ℕ) (a b : List Token) → EndsLine a → Marked c (inline 0 0 [] false) a b → Agrees c {X = List RawRule} (λ x y. x ≡ y) (all_rules c.limits last a) (all_rules c.wider last b)
  file_same last a b ended whole =
      agree_bind (version_same a b (0, ([], false, whole, ended)))
      (λ x y is. subst (λ (v : Version). Agrees c {X = List RawRule} (λ x y. x ≡ y) (rules_of c.limits x.0 last x.1) (rules_of c.wider v last y.1)) is.0
      (rules_same x.0 last (length x.1) (length y.1) 0 none_used x.1 y.1 (omega arith) (omega arith) (line_first 0 x.1 y.1 none_used is.1)))
