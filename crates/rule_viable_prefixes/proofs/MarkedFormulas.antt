-- What the parsers of formulas read of tokens with the sentinel.
use Rattle.rule_viable_prefixes.proofs.Common.{◌≡◌, ℕ, zero, suc, ◌+◌, ◌<◌, ◌≤◌, Bool, true, false, cond, List, [], ◌∷◌, ◌++◌, length, Option, Some, None, Result, Ok, Err, refl, sym, ap, subst, ◌∙◌, arith, codes, drop, list_any, bytes_eq, Pred, same_word, Refused, is_constant, is_choice, ends_primary, RuleFaultKind, TooMany, Limits, fault, unexpected, line_end, RuleFault, ◌>>=◌, BitFact, Token, Line, Name, Register, Word, Fact, Mark, Excess, EndsLine, Opening, Turns, Encloses, Tests, Compares, Predicate, IsPowerOfTwo, IsSignBit, RawFormula, RawNode, HasOneUse, MaskedValueIsZero, IsKnownNonZero, And, Or, next_is, comparison_mark, comparison_in, predicate_word, predicate_node, sign_of, opens_behind, opens_formula, comparison_or_fault, comparison_at, compares_at, deeper, tests_at, one_use_at, masked_at, non_zero_at, joins, members_of, alternatives_of, turns_at, encloses_at, member_at, outer_member_at, is_outer, or_alternatives, formula_at, last_place, mark_at, term_at, StartsSo, comparison_at-is, opening_at-is, member_at-is, outer_member_at-is, reads_shorten, next_is-is, Role, Negates, Joins, mark_role, ends_operand, without_signs, without_negations, closed, open_with}
use Rattle.ops.specs.declared.comparison.Pred.TheVariants as preds
use Rattle.scan.specs.declared.rule_token.RuleKind.TheVariants as kinds
use Rattle.rule_tokens.specs.declared.fact.BitFact.TheVariants as facts
use Rattle.rule_terms.specs.declared.formula_word.Sign.{Sign as Seen}
use Rattle.rule_terms.specs.declared.formula_word.Sign.TheVariants as signs
use Rattle.rule_terms.specs.declared.place.TermPlace.TheVariants.{Constant}
use Rattle.rule_terms.specs.declared.raw.RawFormula.TheVariants.{Compare, Not}
use Rattle.rule_terms.specs.Chains.{Reader, chain_at}
use Rattle.rule_terms.specs.Formulas.{Within}
use Rattle.rule_terms.specs.FormulaReaders.{opening_at, register_at, begun_at, too_deep as too_deep_at}
use Rattle.rule_terms.proofs.ChainLemmas.{Shortens, chain-more, chain-fault, chain-done}
use Rattle.rule_viable_prefixes.specs.Passed.{Opens, Other}
use Rattle.rule_viable_prefixes.proofs.Marks.{IsMark, bad, excess, Marking, State, step, bytes, levels, half, Marked, none, cut, over, over_name, later, Next, passes, passes_name, goes_on, First, ends, stops, token, first, Same, read, failed, told, stands, Meets, refused, left, same_bind, meets_bind, mark_told, cut_told, mark_refused, unexpected_both, syntax_both}
use Rattle.rule_viable_prefixes.proofs.MarkedTerms.{at, NoStand, on, mark_met, Opened, inside, too_deep, open_same, opened, NameRead, too_long, fine, register_read, word_other, term_same, term_refuses, close_same, mark_same}

-- ---- the search for a formula in parentheses

behind_same : (sign : Seen) (depth : ℕ) (r q : ℕ → Bool) → ((d : ℕ) → r d ≡ q d) → opens_behind sign depth r ≡ opens_behind sign depth q
behind_same signs.Opens depth r q h = h (suc depth)
behind_same signs.Closes zero r q h = refl
behind_same signs.Closes (suc depth) r q h = h depth
behind_same signs.LineEnds depth r q h = refl
behind_same signs.InFormula depth r q h = refl
behind_same signs.Plain depth r q h = h depth

-- the search passes the sentinel
mark_unseen : (m : Token) (kind : RuleFaultKind) → IsMark m kind → (depth : ℕ) (rest : List Token) → opens_formula depth (m ∷ rest) ≡ opens_formula depth rest
unfolding opens_formula
mark_unseen m kind bad depth rest = refl
mark_unseen m kind excess depth rest = refl

line_unseen : (depth : ℕ) (rest : List Token) → EndsLine rest → opens_formula depth rest ≡ false
unfolding opens_formula
line_unseen depth [] ended = refl
line_unseen depth (Line number ∷ rest) ended = refl
line_unseen depth tokens ended = absurd ended

token_seen : (t : Token) (a b : List Token) → ((depth : ℕ) → opens_formula depth a ≡ opens_formula depth b) → (depth : ℕ) → opens_formula depth (t ∷ a) ≡ opens_formula depth (t ∷ b)
unfolding opens_formula
token_seen t a b h depth = behind_same (sign_of t) depth (λ d. opens_formula d a) (λ d. opens_formula d b) h

pub seen_same : (c : Marking) (s : State) (a b : List Token) → Marked c s a b → (depth : ℕ) → opens_formula depth a ≡ opens_formula depth b
unfolding opens_formula
seen_same c s a b none depth = refl
seen_same c s a b cut depth = sym (mark_unseen c.mark c.kind c.is_mark depth [])
seen_same c s a b (over t rest text no_name is le) depth = token_seen t rest (c.mark ∷ rest) (λ d. sym (mark_unseen c.mark c.kind c.is_mark d rest)) depth
seen_same c s a b (over_name text rest ended long le) depth = token_seen (Name text) rest (Line (c.anew s.line) ∷ c.mark ∷ rest) (λ d. line_unseen d rest ended ∙ sym (line_unseen d (Line (c.anew s.line) ∷ c.mark ∷ rest) tt)) depth
seen_same c s a b (later t x y text kept more) depth = token_seen t x y (λ d. seen_same c (step s t) x y more d) depth

-- ---- the first token

mark_compares : (m : Token) (kind : RuleFaultKind) → IsMark m kind → (rest : List Token) → opening_at (m ∷ rest) ≡ Compares
unfolding opening_at
mark_compares m kind bad rest = refl
mark_compares m kind excess rest = refl

mark_no_comparison : (m : Token) (kind : RuleFaultKind) → IsMark m kind → (line : ℕ) (rest : List Token) → comparison_at line (m ∷ rest) ≡ Err (unexpected line (m ∷ rest))
unfolding comparison_at
mark_no_comparison m kind bad line rest = refl
mark_no_comparison m kind excess line rest = refl

mark_no_register : (m : Token) (kind : RuleFaultKind) → IsMark m kind → (limits : Limits) (line : ℕ) (rest : List Token) → register_at limits line (m ∷ rest) ≡ Err (unexpected line (m ∷ rest))
mark_no_register m kind bad limits line rest = refl
mark_no_register m kind excess limits line rest = refl

mark_outer : (m : Token) (kind : RuleFaultKind) → IsMark m kind → (limits : Limits) (line : ℕ) (before : List RawFormula) (rest : List Token) → outer_member_at limits line before (m ∷ rest) ≡ member_at limits limits.nested line before (m ∷ rest)
unfolding outer_member_at
mark_outer m kind bad limits line before rest = refl
mark_outer m kind excess limits line before rest = refl

pub mark_line_end : (m : Token) (kind : RuleFaultKind) → IsMark m kind → (line : ℕ) (rest : List Token) → line_end line (m ∷ rest) ≡ Err (unexpected line (m ∷ rest))
mark_line_end m kind bad line rest = refl
mark_line_end m kind excess line rest = refl

mark_ends_chain : (m : Token) (kind : RuleFaultKind) → IsMark m kind → (wanted : List ℕ) (rest : List Token) → next_is wanted (m ∷ rest) ≡ false
mark_ends_chain m kind bad wanted rest = refl
mark_ends_chain m kind excess wanted rest = refl

next_same : (wanted : List ℕ) (t : Token) (a b : List Token) → next_is wanted (t ∷ a) ≡ next_is wanted (t ∷ b)
next_same wanted (Mark found) a b = refl
next_same wanted t a b = refl

-- ---- roles

comparison_role : (pred : Pred) → mark_role true (comparison_mark pred) ≡ Other
comparison_role preds.Eq = refl
comparison_role preds.Ne = refl
comparison_role preds.Slt = refl
comparison_role preds.Sle = refl
comparison_role preds.Sgt = refl
comparison_role preds.Sge = refl
comparison_role preds.Ult = refl
comparison_role preds.Ule = refl
comparison_role preds.Ugt = refl
comparison_role preds.Uge = refl

predicate_role : (predicate : Predicate) → ends_primary kinds.Word (predicate_word predicate) ≡ false
unfolding ends_primary is_constant is_choice
predicate_role IsPowerOfTwo = refl
predicate_role IsSignBit = refl

one_use_role : ends_primary kinds.Word (codes "hasOneUse") ≡ false
unfolding ends_primary is_constant is_choice
one_use_role = refl

-- behind a `)` the stack is that before its `(`
closed_to : (pending base : List Role) → without_negations pending ≡ Opens ∷ base → closed pending ≡ base
closed_to (Negates ∷ pending) base is = closed_to pending base is
closed_to (Opens ∷ pending) base is = cc
closed_to [] base is = absurd cc
closed_to (role ∷ pending) base is = absurd cc

-- ---- chains

module _ (c : Marking) (statements line : ℕ) (few : statements ≤ c.limits.statements) where
  -- the same is read in both, with a stack behind it of which this holds
  abbrev pub Leaves : {A : Type 0} → (List Role → Type 0) → A × List Token → A × List Token → Type 0
  Leaves Inv x y = (x.0 ≡ y.0) × ((pending : List Role) × Inv pending × Marked c (at c statements line few pending true) x.1 y.1)

  abbrev pub Stops : {A : Type 0} → A × List Token → Type 0
  Stops x = (rest : List Token) × (x.1 ≡ c.mark ∷ rest)

  pub chain_left : {A : Type 0} (wanted : List ℕ) (wide : Reader A) (before : A) (rest : List Token) → chain_at wanted wide before (c.mark ∷ rest) ≡ Ok (before, c.mark ∷ rest)
  chain_left wanted wide before rest = chain-done wide wanted before (c.mark ∷ rest) (mark_ends_chain c.mark c.kind c.is_mark wanted rest)

  module _ {A : Type 0} (base : List Role) (Inv : List Role → Type 0) (wanted : List ℕ)
      (goes : (pending : List Role) → Inv pending → (a b : List Token) → Next c (at c statements line few pending true) (Mark wanted) a b → Marked c (at c statements line few base false) a b)
      (narrow wide : Reader A) (fewer : Shortens narrow) (shorter : Shortens wide)
      (each : (before : A) (a b : List Token) → Marked c (at c statements line few base false) a b → Same c line (Leaves {A = A} Inv) (Stops {A = A}) (narrow before a) (wide before b)) where
    abbrev ChainSame : A → List Token → List Token → Type 0
    ChainSame before a b = Same c line (Leaves {A = A} Inv) (Stops {A = A}) (chain_at wanted narrow before a) (chain_at wanted wide before b)

    chain_ends : (before : A) (pending : List Role) → Inv pending → (a b : List Token) → next_is wanted a ≡ false → next_is wanted b ≡ false → Marked c (at c statements line few pending true) a b → ChainSame before a b
    chain_ends before pending is a b p q marked = rw (chain-done narrow wanted before a p, chain-done wide wanted before b q) (read (before, a) (before, b) (refl, (pending, is, marked)))

    chain_step : (before : A) (t : Token) (a b : List Token) → next_is wanted (t ∷ a) ≡ true → next_is wanted (t ∷ b) ≡ true → Marked c (at c statements line few base false) a b
        → ((after : A) (pending : List Role) → Inv pending → (x y : List Token) → length x ≤ length a → Marked c (at c statements line few pending true) x y → ChainSame after x y)
        → ChainSame before (t ∷ a) (t ∷ b)
    chain_step before t a b p q marked further = by (narrow before a) (wide before b) refl refl (each before a b marked)
      where
        by : (r s : Result (A × List Token) RuleFault) → narrow before a ≡ r → wide before b ≡ s → Same c line (Leaves {A = A} Inv) (Stops {A = A}) r s → ChainSame before (t ∷ a) (t ∷ b)
        by r s e f (read x y (same_value, (pending, is, behind))) =
            let less : length x.1 ≤ length a = fewer before a x e in
            rw (chain-more narrow fewer wanted before (t ∷ a) x p e, chain-more wide shorter wanted before (t ∷ b) y q f)
            (subst (λ (v : A). Same c line (Leaves {A = A} Inv) (Stops {A = A}) (chain_at wanted narrow x.0 x.1) (chain_at wanted wide v y.1)) same_value (further x.0 pending is x.1 y.1 less behind))
        by r s e f (failed g other) = rw (chain-fault narrow wanted before (t ∷ a) _ (Refused g) p e refl, chain-fault wide wanted before (t ∷ b) _ (Refused g) q f refl) (failed g other)
        by r s e f told = rw (chain-fault narrow wanted before (t ∷ a) _ (Refused (fault line TooMany)) p e refl, chain-fault wide wanted before (t ∷ b) _ (Refused (fault line c.kind)) q f refl) told
        by r s e f (stands y (rest, is)) =
            rw (chain-fault narrow wanted before (t ∷ a) _ (Refused (fault line TooMany)) p e refl, chain-more wide shorter wanted before (t ∷ b) y q f)
            (rw (is, chain_left wanted wide y.0 rest) (stands (y.0, c.mark ∷ rest) (rest, refl)))

    pub chain_same : (fuel : ℕ) (before : A) (pending : List Role) → Inv pending → (a b : List Token) → length a < fuel → Marked c (at c statements line few pending true) a b → ChainSame before a b
    chain_same zero before pending is a b small marked = absurd (omega (arith, small))
    chain_same (suc fuel) before pending is a b small marked = by a b small marked (first c (at c statements line few pending true) a b marked) (λ after o i u v less more. chain_same fuel after o i u v less more)
      where
        found : (t : Token) (x y : List Token) → length (t ∷ x) < suc fuel → Marked c (at c statements line few pending true) (t ∷ x) (t ∷ y) → Next c (at c statements line few pending true) t x y
            → ((after : A) (o : List Role) → Inv o → (u v : List Token) → length u < fuel → Marked c (at c statements line few o true) u v → ChainSame after u v) → (n : Bool) → next_is wanted (t ∷ x) ≡ n → ChainSame before (t ∷ x) (t ∷ y)
        found t x y small whole next again false e = chain_ends before pending is (t ∷ x) (t ∷ y) e (sym (next_same wanted t x y) ∙ e) whole
        found t x y small whole next again true e =
            let same_mark : t ≡ Mark wanted = let h = next_is-is wanted (t ∷ x) e in cc in
            chain_step before t x y e (sym (next_same wanted t x y) ∙ e) (goes pending is x y (subst (λ (u : Token). Next c (at c statements line few pending true) u x y) same_mark next))
            (λ after o i u v less more. again after o i u v (omega (arith, less, small)) more)

        by : (u v : List Token) → length u < suc fuel → Marked c (at c statements line few pending true) u v → First c (at c statements line few pending true) u v
            → ((after : A) (o : List Role) → Inv o → (x y : List Token) → length x < fuel → Marked c (at c statements line few o true) x y → ChainSame after x y) → ChainSame before u v
        by u v small whole ends again = chain_ends before pending is [] [] refl refl whole
        by u v small whole stops again = chain_ends before pending is (Excess ∷ []) (c.mark ∷ []) refl (mark_ends_chain c.mark c.kind c.is_mark wanted []) whole
        by u v small whole (token t x y text next) again = found t x y small whole next again (next_is wanted (t ∷ x)) refl

  -- ---- members

  abbrev here : List Role → Bool → State
  here pending operand = at c statements line few pending operand

  -- the stack is as before, but for pending `!`s
  abbrev Inv : List Role → List Role → Type 0
  Inv base pending = (without_negations pending ≡ without_negations base) × (length pending ≤ c.limits.nested)

  abbrev FormulaSame : List Role → Result (List RawFormula × List Token) RuleFault → Result (List RawFormula × List Token) RuleFault → Type 0
  FormulaSame base r q = Same c line (Leaves (Inv base)) Stops r q

  -- no unary operator and no `!` is on top of the stack
  abbrev IsBase : List Role → Type 0
  IsBase base = (without_signs base ≡ base) × (without_negations base ≡ base)

  -- two parsers of formulas that read the same of the tokens with and without the sentinel, and have its fault where it
  -- comes first
  pub record Members (base : List Role) (narrow wide : Reader (List RawFormula)) : Type 0 where
    pub fewer : Shortens narrow
    pub shorter : Shortens wide
    pub refuses : (before : List RawFormula) (rest : List Token) → wide before (c.mark ∷ rest) ≡ Err (fault line c.kind)
    pub each : (before : List RawFormula) (a b : List Token) → Marked c (here base false) a b → FormulaSame base (narrow before a) (wide before b)

  joins_both : (base : List Role) (operator : ℕ → ℕ → RawFormula) (narrow wide : Reader (List RawFormula)) → Members base narrow wide → Members base (joins operator narrow) (joins operator wide)
  joins_both base operator narrow wide both = record {
    fewer = joined_shortens operator narrow both.fewer;
    shorter = joined_shortens operator wide both.shorter;
    refuses = λ before rest. rw (both.refuses before rest) refl;
    each = λ before a b marked.
        same_bind (both.each before a b marked)
        (λ x y is. read (x.0 ++ operator (last_place (length before)) (last_place (length x.0)) ∷ [], x.1) (y.0 ++ operator (last_place (length before)) (last_place (length y.0)) ∷ [], y.1)
        (ap (λ (ns : List RawFormula). ns ++ operator (last_place (length before)) (last_place (length ns)) ∷ []) is.0, is.1))
        (λ y s. left (y.0 ++ operator (last_place (length before)) (last_place (length y.0)) ∷ [], y.1) s);
  }
    where
      joined_shortens : (o : ℕ → ℕ → RawFormula) (part : Reader (List RawFormula)) → Shortens part → Shortens (joins o part)
      joined_shortens o part short before tokens x e = by (part before tokens) refl e
        where
          by : (r : Result (List RawFormula × List Token) RuleFault) → part before tokens ≡ r → (r >>= λ y. Ok (y.0 ++ o (last_place (length before)) (last_place (length y.0)) ∷ [], y.1)) ≡ Ok x → length x.1 ≤ length tokens
          by (Ok y) f g = let less = short before tokens y f in let same_rest : x.1 ≡ y.1 = let h = g in cc in omega (arith, less, ap length same_rest)
          by (Err d) f g = absurd cc

  -- `&&` and `||` are read with this stack before them
  joins_on : (base : List Role) → IsBase base → length base ≤ c.limits.nested → (wanted : List ℕ) → mark_role true wanted ≡ Joins → (pending : List Role) → Inv base pending → (a b : List Token) → Next c (here pending true) (Mark wanted) a b → Marked c (here base false) a b
  joins_on base is deep wanted role pending inv a b next =
      let opened_with : open_with (mark_role true wanted) pending ≡ base = ap (λ (r : Role). open_with r pending) role ∙ inv.0 ∙ is.1 in
      let ended : ends_operand (mark_role true wanted) ≡ false = ap ends_operand role in
      let less : length (open_with (mark_role true wanted) pending) ≤ c.limits.nested = omega (arith, ap length opened_with, deep) in
      subst (λ (o : List Role). Marked c (here o false) a b) opened_with
      (subst (λ (p : Bool). Marked c (here (open_with (mark_role true wanted) pending) p) a b) ended (on c statements line few (Mark wanted) a b next tt refl less few))

  chain_both : (base : List Role) → IsBase base → length base ≤ c.limits.nested → (wanted : List ℕ) → mark_role true wanted ≡ Joins → (narrow wide : Reader (List RawFormula)) → Members base narrow wide
      → (x y : List RawFormula × List Token) → Leaves (Inv base) x y → FormulaSame base (chain_at wanted narrow x.0 x.1) (chain_at wanted wide y.0 y.1)
  chain_both base is deep wanted role narrow wide both x y (same_value, (pending, inv, marked)) =
      subst (λ (ns : List RawFormula). FormulaSame base (chain_at wanted narrow x.0 x.1) (chain_at wanted wide ns y.1)) same_value
      (chain_same base (Inv base) wanted (joins_on base is deep wanted role) narrow wide both.fewer both.shorter both.each (suc (length x.1)) x.0 pending inv x.1 y.1 (omega arith) marked)

  chain_stops : (wanted : List ℕ) (wide : Reader (List RawFormula)) (y : List RawFormula × List Token) → Stops y → Meets c line (Stops {A = List RawFormula}) (chain_at wanted wide y.0 y.1)
  chain_stops wanted wide y (rest, is) = rw (is, chain_left wanted wide y.0 rest) (left (y.0, c.mark ∷ rest) (rest, refl))

  -- a chain with one part more, within the bound
  chain_fewer : (wanted : List ℕ) (part : Reader (List RawFormula)) → Shortens part → (fuel : ℕ) (before : List RawFormula) (tokens : List Token) → length tokens < fuel → (x : List RawFormula × List Token) → chain_at wanted part before tokens ≡ Ok x → length x.1 ≤ length tokens
  chain_fewer wanted part short zero before tokens small x e = absurd (omega (arith, small))
  chain_fewer wanted part short (suc fuel) before tokens small x e = by (next_is wanted tokens) refl (λ y few_ read_. chain_fewer wanted part short fuel y.0 y.1 few_ x read_)
    where
      behind : (r : Result (List RawFormula × List Token) RuleFault) → part before (drop 1 tokens) ≡ r → next_is wanted tokens ≡ true
          → ((y : List RawFormula × List Token) → length y.1 < fuel → chain_at wanted part y.0 y.1 ≡ Ok x → length x.1 ≤ length y.1) → length x.1 ≤ length tokens
      behind (Ok y) f p again =
          let whole : tokens ≡ Mark wanted ∷ drop 1 tokens = next_is-is wanted tokens p in
          let less : length y.1 ≤ length (drop 1 tokens) = short before (drop 1 tokens) y f in
          let more = again y (omega (arith, ap length whole, less, small)) (sym (chain-more part short wanted before tokens y p f) ∙ e) in
          omega (arith, ap length whole, less, more)
      behind (Err d) f p again = let err : chain_at wanted part before tokens ≡ Err d = chain-fault part wanted before tokens _ (Refused d) p f refl in let both = sym err ∙ e in absurd cc

      by : (b : Bool) → next_is wanted tokens ≡ b → ((y : List RawFormula × List Token) → length y.1 < fuel → chain_at wanted part y.0 y.1 ≡ Ok x → length x.1 ≤ length y.1) → length x.1 ≤ length tokens
      by false p again = let done = sym (chain-done part wanted before tokens p) ∙ e in let same_rest : x.1 ≡ tokens = let h = done in cc in omega (arith, ap length same_rest)
      by true p again = behind (part before (drop 1 tokens)) refl p again

  joined_fewer : (wanted : List ℕ) (part chained : Reader (List RawFormula)) → Shortens part → Shortens chained → Shortens (λ before tokens. part before tokens >>= λ x. chain_at wanted chained x.0 x.1)
  joined_fewer wanted part chained short also before tokens x e = by (part before tokens) refl e
    where
      by : (r : Result (List RawFormula × List Token) RuleFault) → part before tokens ≡ r → (r >>= λ y. chain_at wanted chained y.0 y.1) ≡ Ok x → length x.1 ≤ length tokens
      by (Ok y) f g = let less = short before tokens y f in let more = chain_fewer wanted chained also (suc (length y.1)) y.0 y.1 (omega arith) x g in omega (arith, less, more)
      by (Err d) f g = absurd cc

  members_both : (base : List Role) → IsBase base → length base ≤ c.limits.nested → (narrow wide : Reader (List RawFormula)) → Members base narrow wide → Members base (members_of narrow) (members_of wide)
  members_both base is deep narrow wide both =
      let joined = joins_both base And narrow wide both in
      record {
        fewer = joined_fewer (codes "&&") narrow (joins And narrow) both.fewer joined.fewer;
        shorter = joined_fewer (codes "&&") wide (joins And wide) both.shorter joined.shorter;
        refuses = λ before rest. rw (both.refuses before rest) refl;
        each = λ before a b marked. same_bind (both.each before a b marked) (λ x y l. chain_both base is deep (codes "&&") refl (joins And narrow) (joins And wide) joined x y l) (λ y s. chain_stops (codes "&&") (joins And wide) y s);
      }

  alternatives_both : (base : List Role) → IsBase base → length base ≤ c.limits.nested → (narrow wide : Reader (List RawFormula)) → Members base narrow wide → Members base (alternatives_of narrow) (alternatives_of wide)
  alternatives_both base is deep narrow wide both =
      let all = members_both base is deep narrow wide both in
      let joined = joins_both base Or (members_of narrow) (members_of wide) all in
      record {
        fewer = joined_fewer (codes "||") (members_of narrow) (joins Or (members_of narrow)) all.fewer joined.fewer;
        shorter = joined_fewer (codes "||") (members_of wide) (joins Or (members_of wide)) all.shorter joined.shorter;
        refuses = λ before rest. rw (both.refuses before rest) refl;
        each = λ before a b marked. same_bind (all.each before a b marked) (λ x y l. chain_both base is deep (codes "||") refl (joins Or (members_of narrow)) (joins Or (members_of wide)) joined x y l) (λ y s. chain_stops (codes "||") (joins Or (members_of wide)) y s);
      }

  -- ---- comparisons

  abbrev ComparisonSame : List Role → Result (Pred × List Token) RuleFault → Result (Pred × List Token) RuleFault → Type 0
  ComparisonSame pending r q = Same c line {X = Pred × List Token} (λ x y. (x.0 ≡ y.0) × Marked c (here pending false) x.1 y.1) (NoStand c statements line few) r q

  comparison_found : (pending : List Role) (m : List ℕ) (a b : List Token) → length pending ≤ c.limits.nested → Next c (here pending true) (Mark m) a b → (found : Option Pred) → comparison_in m ≡ found → ComparisonSame pending (comparison_or_fault line found a) (comparison_or_fault line found b)
  unfolding comparison_at
  comparison_found pending m a b deep next None e = syntax_both
  comparison_found pending m a b deep next (Some pred) e =
      let one : Mark m ∷ [] ≡ Mark (comparison_mark pred) ∷ [] = comparison_at-is c.limits line (Mark m ∷ []) (pred, []) (rw e refl) in
      let is : m ≡ comparison_mark pred = cc in
      let role : mark_role true m ≡ Other = ap (mark_role true) is ∙ comparison_role pred in
      let same_open : open_with (mark_role true m) pending ≡ pending = ap (λ (r : Role). open_with r pending) role in
      read (pred, a) (pred, b) (refl, subst (λ (r : Role). Marked c (here (open_with r pending) (ends_operand r)) a b) role (on c statements line few (Mark m) a b next tt refl (omega (arith, ap length same_open, deep)) few))

  comparison_same : (pending : List Role) (a b : List Token) → length pending ≤ c.limits.nested → Marked c (here pending true) a b → ComparisonSame pending (comparison_at line a) (comparison_at line b)
  unfolding comparison_at
  comparison_same pending a b deep marked = by a b (first c (here pending true) a b marked)
    where
      by : (u v : List Token) → First c (here pending true) u v → ComparisonSame pending (comparison_at line u) (comparison_at line v)
      by u v ends = syntax_both
      by u v stops = subst (λ (r : Result (Pred × List Token) RuleFault). ComparisonSame pending (Err (fault line TooMany)) r) (sym (mark_no_comparison c.mark c.kind c.is_mark line [])) (cut_told [])
      by u v (token (Mark m) x y text next) = comparison_found pending m x y deep next (comparison_in m) refl
      by u v (token t x y text next) = unexpected_both t x y text

  -- with this much nesting left
  abbrev Deep : List Role → ℕ → Type 0
  Deep base nesting = (without_signs base ≡ base) × (length base + nesting ≡ c.limits.nested)

  compares_same : (base : List Role) (n m : ℕ) → n < m → Deep base n → (before : List RawFormula) (a b : List Token) → Marked c (here base false) a b → FormulaSame base (compares_at c.limits n line before a) (compares_at c.wider m line before b)
  unfolding compares_at
  compares_same base n m less deep before a b marked =
      same_bind (term_same c statements line few Constant n m less base deep.0 deep.1 a b marked)
      (λ x y l. same_bind (comparison_same base x.1 y.1 (omega (arith, deep.1)) l.1)
      (λ p q is. same_bind (term_same c statements line few Constant n m less base deep.0 deep.1 p.1 q.1 is.1)
      (λ u v r. read (before ++ Compare p.0 x.0 u.0 ∷ [], u.1) (before ++ Compare q.0 y.0 v.0 ∷ [], v.1)
      (ap (λ (pred : Pred). before ++ Compare pred x.0 u.0 ∷ []) is.0 ∙ ap (λ (ns : List RawNode). before ++ Compare q.0 ns u.0 ∷ []) l.0 ∙ ap (λ (ns : List RawNode). before ++ Compare q.0 y.0 ns ∷ []) r.0, (base, (refl, omega (arith, deep.1)), r.1)))
      (λ v s. left (before ++ Compare q.0 y.0 v.0 ∷ [], v.1) s))
      (λ q never. absurd never))
      (λ y s. rw (s.1, mark_no_comparison c.mark c.kind c.is_mark line s.0, mark_told c line s.0) refused)

  compares_refuses : (m : ℕ) (before : List RawFormula) (rest : List Token) → compares_at c.wider m line before (c.mark ∷ rest) ≡ Err (fault line c.kind)
  unfolding compares_at
  compares_refuses m before rest = rw (term_refuses c statements line few Constant m rest) refl

  -- ---- predicates

  -- `)` is read behind a part, and its node is made
  closes_same : {A : Type 0} (base : List Role) (f : A → List RawFormula) (x y : A × List Token) → suc (length base) ≤ c.limits.nested → without_signs base ≡ base → (x.0 ≡ y.0) × Marked c (here (Opens ∷ base) true) x.1 y.1
      → FormulaSame base (mark_at (codes ")") line x.1 >>= λ rest. Ok (f x.0, rest)) (mark_at (codes ")") line y.1 >>= λ rest. Ok (f y.0, rest))
  closes_same base f x y less is (same_value, marked) =
      same_bind (close_same c statements line few base x.1 y.1 (omega (arith, less)) marked)
      (λ u v more. read (f x.0, u) (f y.0, v) (ap f same_value, (base, (refl, omega (arith, less)), subst (λ (o : List Role). Marked c (here o true) u v) is more))) (λ u never. absurd never)

  -- and where the sentinel is in the place of the `)`
  close_stops : {A : Type 0} (value : List RawFormula) (y : A × List Token) → Stops y → Meets c line (Stops {A = List RawFormula}) (mark_at (codes ")") line y.1 >>= λ rest. Ok (value, rest))
  close_stops value y (rest, is) = rw is (meets_bind (mark_met c statements line few (codes ")") rest) (λ u never. absurd never))

  tests_same : (predicate : Predicate) (base : List Role) (n m : ℕ) → n < m → Deep base n → (before : List RawFormula) (a b : List Token) → Marked c (here base false) a b → FormulaSame base (tests_at c.limits predicate n line before a) (tests_at c.wider predicate m line before b)
  unfolding tests_at
  tests_same predicate base n m less deep before a b marked = same_bind (open_same c statements line few base n false a b deep.1 marked) (λ u v o. by n m less deep u v o) (λ u never. absurd never)
    where
      by : (n m : ℕ) → n < m → Deep base n → (u v : List Token) → Opened c statements line few base n u v
          → FormulaSame base
          (deeper line n >>= λ inner. term_at c.limits Constant inner line u >>= λ term. mark_at (codes ")") line term.1 >>= λ rest. Ok (before ++ predicate_node predicate term.0 ∷ [], rest))
          (deeper line m >>= λ inner. term_at c.wider Constant inner line v >>= λ term. mark_at (codes ")") line term.1 >>= λ rest. Ok (before ++ predicate_node predicate term.0 ∷ [], rest))
      by n zero less d u v o = absurd (omega (arith, less))
      by zero (suc m) less d u v (inside x y some more) = absurd (omega (arith, some))
      by zero (suc m) less d u v (too_deep x none_) = rw (term_refuses c statements line few Constant m x) told
      by (suc n) (suc m) less d u v (too_deep x none_) = absurd (omega (arith, none_))
      by (suc n) (suc m) less d u v (inside x y some more) =
          same_bind (term_same c statements line few Constant n m (omega (arith, less)) (Opens ∷ base) refl (omega (arith, d.1)) x y more)
          (λ s t is. closes_same base (λ term. before ++ predicate_node predicate term ∷ []) s t (omega (arith, d.1)) d.0 is)
          (λ t s. close_stops (before ++ predicate_node predicate t.0 ∷ []) t s)

  -- ---- members one level of nesting further in

  -- behind `!`
  turns_same : (base : List Role) (narrow wide : Reader (List RawFormula)) → Members (Negates ∷ base) narrow wide → (before : List RawFormula) (a b : List Token) → Marked c (here (Negates ∷ base) false) a b → FormulaSame base (turns_at narrow before a) (turns_at wide before b)
  turns_same base narrow wide both before a b marked =
      same_bind (both.each before a b marked)
      (λ x y l. read (x.0 ++ Not (last_place (length x.0)) ∷ [], x.1) (y.0 ++ Not (last_place (length y.0)) ∷ [], y.1) (ap (λ (ns : List RawFormula). ns ++ Not (last_place (length ns)) ∷ []) l.0, (l.1.0, (l.1.1.0, l.1.1.1), l.1.2)))
      (λ y s. left (y.0 ++ Not (last_place (length y.0)) ∷ [], y.1) s)

  -- behind `(`
  encloses_same : (base : List Role) → without_signs base ≡ base → suc (length base) ≤ c.limits.nested → (narrow wide : Reader (List RawFormula)) → Members (Opens ∷ base) narrow wide → (before : List RawFormula) (a b : List Token) → Marked c (here (Opens ∷ base) false) a b → FormulaSame base (encloses_at line narrow before a) (encloses_at line wide before b)
  encloses_same base is less narrow wide both before a b marked =
      let all = alternatives_both (Opens ∷ base) (refl, refl) (omega (arith, less)) narrow wide both in
      same_bind (all.each before a b marked) (λ x y l. closes x y l) (λ y s. close_stops y.0 y s)
    where
      closes : (x y : List RawFormula × List Token) → Leaves (Inv (Opens ∷ base)) x y → FormulaSame base (mark_at (codes ")") line x.1 >>= λ rest. Ok (x.0, rest)) (mark_at (codes ")") line y.1 >>= λ rest. Ok (y.0, rest))
      closes x y (same_value, (pending, inv, behind)) =
          let back : without_signs (closed pending) ≡ base = ap without_signs (closed_to pending base inv.0) ∙ is in
          same_bind {R = Marked c (here base true)}
          (mark_same c statements line few (codes ")") (here pending true) x.1 y.1 behind
          (λ u v next. subst (λ (o : List Role). Marked c (here o true) u v) back (on c statements line few (Mark (codes ")")) u v next tt refl (omega (arith, ap length back, less)) few)))
          (λ u v more. read (x.0, u) (y.0, v) (same_value, (base, (refl, omega (arith, less)), more))) (λ u never. absurd never)

  -- ---- members

  -- what they begin with
  opening_same : (t : Token) (a b : List Token) → ((depth : ℕ) → opens_formula depth a ≡ opens_formula depth b) → opening_at (t ∷ a) ≡ opening_at (t ∷ b)
  unfolding opening_at
  opening_same (Mark m) a b h = rw (h 0) refl
  opening_same (Word word) a b h = refl
  opening_same t a b h = refl

  next_seen : {s : State} {t : Token} {a b : List Token} → Next c s t a b → (depth : ℕ) → opens_formula depth a ≡ opens_formula depth b
  next_seen (passes rest no_name is le) depth = sym (mark_unseen c.mark c.kind c.is_mark depth rest)
  next_seen {s} (passes_name text rest is ended long le) depth = line_unseen depth rest ended ∙ sym (line_unseen depth (Line (c.anew s.line) ∷ c.mark ∷ rest) tt)
  next_seen {s} {t} (goes_on a b kept more) depth = seen_same c (step s t) a b more depth

  member_refuses : (m : ℕ) (before : List RawFormula) (rest : List Token) → member_at c.wider m line before (c.mark ∷ rest) ≡ Err (fault line c.kind)
  unfolding member_at
  member_refuses zero before rest = rw (mark_compares c.mark c.kind c.is_mark rest) (compares_refuses zero before rest)
  member_refuses (suc m) before rest = rw (mark_compares c.mark c.kind c.is_mark rest) (compares_refuses (suc m) before rest)

  -- the parsers of these, if a level of nesting is left
  data Inner (n : ℕ) (narrow wide : Reader (List RawFormula)) : Type 0 where
    shut : n ≡ 0 → ((before : List RawFormula) (tokens : List Token) → narrow before tokens ≡ Err (fault line TooMany)) → Inner n narrow wide
    further_in : (k : ℕ) → n ≡ suc k → ((base : List Role) → Deep base k → Members base narrow wide) → Inner n narrow wide

  module _ (base : List Role) (n : ℕ) (deep : Deep base n) (narrow wide : Reader (List RawFormula)) (inner : Inner n narrow wide) (none_ : (before : List RawFormula) (rest : List Token) → wide before (c.mark ∷ rest) ≡ Err (fault line c.kind)) (before : List RawFormula) where
    -- a member that begins with `!`
    turned : (a b : List Token) → Next c (here base false) (Mark (codes "!")) a b → FormulaSame base (turns_at narrow before a) (turns_at wide before b)
    turned a b next = by a b inner next
      where
        by : (x y : List Token) → Inner n narrow wide → Next c (here base false) (Mark (codes "!")) x y → FormulaSame base (turns_at narrow before x) (turns_at wide before y)
        by x y i (passes rest no_name (bytes more) le) = absurd (omega (arith, more))
        by x y i (passes rest no_name (half more) le) = absurd (omega (arith, more, few))
        by x y i (passes_name text rest is ended long le) = absurd cc
        by x y (shut zero_ h) (passes rest no_name (levels more) le) = rw (h before rest, none_ before rest) told
        by x y (further_in k is both) (passes rest no_name (levels more) le) = absurd (omega (arith, more, is, deep.1))
        by x y (shut zero_ h) (goes_on u v kept more) = let most = kept.levels in absurd (omega (arith, most, zero_, deep.1))
        by x y (further_in k is both) (goes_on u v kept more) = turns_same base narrow wide (both (Negates ∷ base) (refl, omega (arith, is, deep.1))) before u v more

    -- a member that begins with `(`
    enclosed : (a b : List Token) → Next c (here base false) (Mark (codes "(")) a b → FormulaSame base (encloses_at line narrow before a) (encloses_at line wide before b)
    enclosed a b next = by a b inner (opened c statements line few base n false a b deep.1 next)
      where
        by : (x y : List Token) → Inner n narrow wide → Opened c statements line few base n x y → FormulaSame base (encloses_at line narrow before x) (encloses_at line wide before y)
        by x y (shut zero_ h) (inside u v more_ more) = absurd (omega (arith, more_, zero_))
        by x y (shut zero_ h) (too_deep u zero_too) = rw (h before u, none_ before u) told
        by x y (further_in k is both) (too_deep u zero_too) = absurd (omega (arith, zero_too, is))
        by x y (further_in k is both) (inside u v more_ more) = encloses_same base deep.0 (omega (arith, is, deep.1)) narrow wide (both (Opens ∷ base) (refl, omega (arith, is, deep.1))) before u v more

    -- a member, behind its first token
    begun_same : (m : ℕ) → n < m → (t : Token) (a b : List Token) → Marked c (here base false) (t ∷ a) (t ∷ b) → Next c (here base false) t a b → (o : Opening) → StartsSo c.limits o (t ∷ a) → FormulaSame base (begun_at c.limits o n line narrow before (t ∷ a)) (begun_at c.wider o m line wide before (t ∷ b))
    begun_same m less t a b whole next Turns is = let first_is : t ≡ Mark (codes "!") = cc in turned a b (subst (λ (u : Token). Next c (here base false) u a b) first_is next)
    begun_same m less t a b whole next Encloses is = let first_is : t ≡ Mark (codes "(") = cc in enclosed a b (subst (λ (u : Token). Next c (here base false) u a b) first_is next)
    begun_same m less t a b whole next (Tests predicate) is =
        let first_is : t ≡ Word (predicate_word predicate) = cc in
        tests_same predicate base n m less deep before a b
        (word_other c statements line few base false (predicate_word predicate) a b (predicate_role predicate) (omega (arith, deep.1)) (subst (λ (u : Token). Next c (here base false) u a b) first_is next))
    begun_same m less t a b whole next Compares is = compares_same base n m less deep before (t ∷ a) (t ∷ b) whole

    members_begun : (m : ℕ) → n < m → (a b : List Token) → Marked c (here base false) a b → FormulaSame base (begun_at c.limits (opening_at a) n line narrow before a) (begun_at c.wider (opening_at b) m line wide before b)
    unfolding opening_at
    members_begun m less a b marked = by a b marked (first c (here base false) a b marked)
      where
        by : (u v : List Token) → Marked c (here base false) u v → First c (here base false) u v → FormulaSame base (begun_at c.limits (opening_at u) n line narrow before u) (begun_at c.wider (opening_at v) m line wide before v)
        by u v whole ends = compares_same base n m less deep before [] [] whole
        by u v whole stops = rw (mark_compares c.mark c.kind c.is_mark []) (compares_same base n m less deep before (Excess ∷ []) (c.mark ∷ []) whole)
        by u v whole (token t x y text next) =
            subst (λ (o : Opening). FormulaSame base (begun_at c.limits (opening_at (t ∷ x)) n line narrow before (t ∷ x)) (begun_at c.wider o m line wide before (t ∷ y))) (opening_same t x y (next_seen next))
            (begun_same m less t x y whole next (opening_at (t ∷ x)) (opening_at-is c.limits (t ∷ x)))

  member_same : (n m : ℕ) → n < m → (base : List Role) → Deep base n → (before : List RawFormula) (a b : List Token) → Marked c (here base false) a b → FormulaSame base (member_at c.limits n line before a) (member_at c.wider m line before b)
  unfolding member_at
  member_same n zero less base deep before a b marked = absurd (omega (arith, less))
  member_same zero (suc m) less base deep before a b marked =
      members_begun base zero deep (too_deep_at line) (member_at c.wider m line) (shut refl (λ ns ts. refl)) (member_refuses m) before (suc m) less a b marked
  member_same (suc n) (suc m) less base deep before a b marked =
      members_begun base (suc n) deep (member_at c.limits n line) (member_at c.wider m line)
      (further_in n refl (λ o d. record {
        fewer = reads_shorten c.limits (member_at-is c.limits Within n line);
        shorter = reads_shorten c.wider (member_at-is c.wider Within m line);
        refuses = member_refuses m;
        each = λ ns u v more. member_same n m (omega (arith, less)) o d ns u v more;
      })) (member_refuses m) before (suc m) less a b marked

  member_both : (base : List Role) → Deep base c.limits.nested → Members base (member_at c.limits c.limits.nested line) (member_at c.wider c.wider.nested line)
  member_both base deep = record {
    fewer = reads_shorten c.limits (member_at-is c.limits Within c.limits.nested line);
    shorter = reads_shorten c.wider (member_at-is c.wider Within c.wider.nested line);
    refuses = member_refuses c.wider.nested;
    each = member_same c.limits.nested c.wider.nested c.nested base deep;
  }

  -- ---- the outermost members

  name_same : (a b : List Token) → 1 ≤ c.limits.nested → Marked c (here (Opens ∷ []) false) a b → Same c line {X = List ℕ × List Token} (λ x y. (x.0 ≡ y.0) × Marked c (here (Opens ∷ []) true) x.1 y.1) (Stops {A = List ℕ}) (register_at c.limits line a) (register_at c.wider line b)
  name_same a b some marked = by a b (first c (here (Opens ∷ []) false) a b marked)
    where
      register : (name : List ℕ) (x y : List Token) → NameRead c statements line few name (Opens ∷ []) x y → Same c line {X = List ℕ × List Token} (λ x y. (x.0 ≡ y.0) × Marked c (here (Opens ∷ []) true) x.1 y.1) (Stops {A = List ℕ}) (register_at c.limits line (Register name ∷ x)) (register_at c.wider line (Register name ∷ y))
      register name x y (too_long rest e w) = rw (e, w) (stands (name, c.mark ∷ rest) (rest, refl))
      register name x y (fine u v e w more) = rw (e, w) (read (name, u) (name, v) (refl, more))

      by : (u v : List Token) → First c (here (Opens ∷ []) false) u v → Same c line {X = List ℕ × List Token} (λ x y. (x.0 ≡ y.0) × Marked c (here (Opens ∷ []) true) x.1 y.1) (Stops {A = List ℕ}) (register_at c.limits line u) (register_at c.wider line v)
      by u v ends = syntax_both
      by u v stops = rw (mark_no_register c.mark c.kind c.is_mark c.wider line []) (cut_told [])
      by u v (token (Register name) x y text next) = register name x y (register_read c statements line few (Opens ∷ []) false name x y some next)
      by u v (token t x y text next) = unexpected_both t x y text

  -- a node of a register in parentheses
  abbrev named_at : Limits → (List ℕ → RawFormula) → Reader (List RawFormula)
  named_at limits node before tokens = mark_at (codes "(") line tokens >>= λ u. register_at limits line u >>= λ r. mark_at (codes ")") line r.1 >>= λ rest. Ok (before ++ node r.0 ∷ [], rest)

  named_same : (node : List ℕ → RawFormula) (before : List RawFormula) (a b : List Token) → 1 ≤ c.limits.nested → Marked c (here [] false) a b → FormulaSame [] (named_at c.limits node before a) (named_at c.wider node before b)
  named_same node before a b some marked = same_bind (open_same c statements line few [] c.limits.nested false a b (omega arith) marked) (λ u v o. by u v o) (λ u never. absurd never)
    where
      by : (u v : List Token) → Opened c statements line few [] c.limits.nested u v
          → FormulaSame [] (register_at c.limits line u >>= λ r. mark_at (codes ")") line r.1 >>= λ rest. Ok (before ++ node r.0 ∷ [], rest)) (register_at c.wider line v >>= λ r. mark_at (codes ")") line r.1 >>= λ rest. Ok (before ++ node r.0 ∷ [], rest))
      by u v (too_deep x none_) = absurd (omega (arith, none_, some))
      by u v (inside x y more_ behind) =
          same_bind (name_same x y some behind) (λ s t is. closes_same [] (λ name. before ++ node name ∷ []) s t (omega (arith, some)) refl is) (λ t s. close_stops (before ++ node t.0 ∷ []) t s)

  one_use_same : (before : List RawFormula) (a b : List Token) → 1 ≤ c.limits.nested → Marked c (here [] false) a b → FormulaSame [] (one_use_at c.limits line before a) (one_use_at c.wider line before b)
  unfolding one_use_at
  one_use_same before a b some marked = named_same (λ name. HasOneUse name) before a b some marked

  non_zero_same : (before : List RawFormula) (a b : List Token) → 1 ≤ c.limits.nested → Marked c (here [] false) a b → FormulaSame [] (non_zero_at c.limits line before a) (non_zero_at c.wider line before b)
  unfolding non_zero_at
  non_zero_same before a b some marked = named_same (λ name. IsKnownNonZero name) before a b some marked

  comma_same : (a b : List Token) → 1 ≤ c.limits.nested → Marked c (here (Opens ∷ []) true) a b → Same c line (Marked c (here (Opens ∷ []) false)) (NoStand c statements line few) (mark_at (codes ",") line a) (mark_at (codes ",") line b)
  comma_same a b some marked = mark_same c statements line few (codes ",") (here (Opens ∷ []) true) a b marked (λ x y next. on c statements line few (Mark (codes ",")) x y next tt refl (omega (arith, some)) few)

  masked_same : (n m : ℕ) → n < m → n ≡ c.limits.nested → (before : List RawFormula) (a b : List Token) → 1 ≤ c.limits.nested → Marked c (here [] false) a b → FormulaSame [] (masked_at c.limits n line before a) (masked_at c.wider m line before b)
  unfolding masked_at
  masked_same n m less deep before a b some marked = same_bind (open_same c statements line few [] n false a b (omega (arith, deep)) marked) (λ u v o. by n m less deep u v o) (λ u never. absurd never)
    where
      by : (n m : ℕ) → n < m → n ≡ c.limits.nested → (u v : List Token) → Opened c statements line few [] n u v
          → FormulaSame []
          (deeper line n >>= λ inner. register_at c.limits line u >>= λ r. mark_at (codes ",") line r.1 >>= λ behind. term_at c.limits Constant inner line behind >>= λ term. mark_at (codes ")") line term.1 >>= λ rest. Ok (before ++ MaskedValueIsZero r.0 term.0 ∷ [], rest))
          (deeper line m >>= λ inner. register_at c.wider line v >>= λ r. mark_at (codes ",") line r.1 >>= λ behind. term_at c.wider Constant inner line behind >>= λ term. mark_at (codes ")") line term.1 >>= λ rest. Ok (before ++ MaskedValueIsZero r.0 term.0 ∷ [], rest))
      by n zero less d u v o = absurd (omega (arith, less))
      by zero (suc m) less d u v o = absurd (omega (arith, d, some))
      by (suc n) (suc m) less d u v (too_deep x none_) = absurd (omega (arith, none_))
      by (suc n) (suc m) less d u v (inside x y more_ behind) =
          same_bind (name_same x y some behind)
          (λ r q named. same_bind (comma_same r.1 q.1 some named.1)
          (λ s t next. same_bind (term_same c statements line few Constant n m (omega (arith, less)) (Opens ∷ []) refl (omega (arith, d)) s t next)
          (λ e f is. subst (λ (name : List ℕ). FormulaSame [] (mark_at (codes ")") line e.1 >>= λ rest. Ok (before ++ MaskedValueIsZero r.0 e.0 ∷ [], rest)) (mark_at (codes ")") line f.1 >>= λ rest. Ok (before ++ MaskedValueIsZero name f.0 ∷ [], rest))) named.0
          (closes_same [] (λ term. before ++ MaskedValueIsZero r.0 term ∷ []) e f (omega (arith, some)) refl is))
          (λ f stops. close_stops (before ++ MaskedValueIsZero q.0 f.0 ∷ []) f stops))
          (λ t never. absurd never))
          (λ q stops. rw stops.1 (meets_bind (mark_met c statements line few (codes ",") stops.0) (λ t never. absurd never)))

  fact_next : (fact : BitFact) (a b : List Token) → Next c (here [] false) (Fact fact) a b → Marked c (here [] false) a b
  fact_next fact a b next = on c statements line few (Fact fact) a b next tt refl (omega arith) few

  outer_same : 1 ≤ c.limits.nested → (before : List RawFormula) (a b : List Token) → Marked c (here [] false) a b → FormulaSame [] (outer_member_at c.limits line before a) (outer_member_at c.wider line before b)
  unfolding outer_member_at
  outer_same some before a b marked = by a b marked (first c (here [] false) a b marked)
    where
      member : (u v : List Token) → Marked c (here [] false) u v → FormulaSame [] (member_at c.limits c.limits.nested line before u) (member_at c.wider c.wider.nested line before v)
      member u v whole = (member_both [] (refl, omega arith)).each before u v whole

      tried : (word : List ℕ) (x y : List Token) → Marked c (here [] false) (Word word ∷ x) (Word word ∷ y) → Next c (here [] false) (Word word) x y → (d : Bool) → bytes_eq word (codes "hasOneUse") ≡ d
          → FormulaSame [] (cond d (one_use_at c.limits line before x) (member_at c.limits c.limits.nested line before (Word word ∷ x))) (cond d (one_use_at c.wider line before y) (member_at c.wider c.wider.nested line before (Word word ∷ y)))
      tried word x y whole next true e = one_use_same before x y some (word_other c statements line few [] false word x y (ap (ends_primary kinds.Word) (same_word word (codes "hasOneUse") e) ∙ one_use_role) (omega arith) next)
      tried word x y whole next false e = member (Word word ∷ x) (Word word ∷ y) whole

      by : (u v : List Token) → Marked c (here [] false) u v → First c (here [] false) u v → FormulaSame [] (outer_member_at c.limits line before u) (outer_member_at c.wider line before v)
      by u v whole ends = member [] [] whole
      by u v whole stops = rw (mark_outer c.mark c.kind c.is_mark c.wider line before []) (member (Excess ∷ []) (c.mark ∷ []) whole)
      by u v whole (token (Word word) x y text next) = tried word x y whole next (bytes_eq word (codes "hasOneUse")) refl
      by u v whole (token (Fact facts.MaskedValueIsZero) x y text next) = masked_same c.limits.nested c.wider.nested c.nested refl before x y some (fact_next facts.MaskedValueIsZero x y next)
      by u v whole (token (Fact facts.IsKnownNonZero) x y text next) = non_zero_same before x y some (fact_next facts.IsKnownNonZero x y next)
      by u v whole (token t x y text next) = member (t ∷ x) (t ∷ y) whole

  outer_refuses : (before : List RawFormula) (rest : List Token) → outer_member_at c.wider line before (c.mark ∷ rest) ≡ Err (fault line c.kind)
  outer_refuses before rest = mark_outer c.mark c.kind c.is_mark c.wider line before rest ∙ member_refuses c.wider.nested before rest

  outer_both : 1 ≤ c.limits.nested → Members [] (outer_member_at c.limits line) (outer_member_at c.wider line)
  outer_both some = record {
    fewer = reads_shorten c.limits (outer_member_at-is c.limits line);
    shorter = reads_shorten c.wider (outer_member_at-is c.wider line);
    refuses = outer_refuses;
    each = outer_same some;
  }

  -- ---- the end of the line

  -- behind a line that was read to its end
  abbrev pub Ended : List Token → List Token → Type 0
  Ended x y = (pending : List Role) × (operand : Bool) × Marked c (here pending operand) x y × EndsLine x

  pub line_end_same : (pending : List Role) (operand : Bool) (a b : List Token) → Marked c (here pending operand) a b → Same c line Ended (NoStand c statements line few) (line_end line a) (line_end line b)
  line_end_same pending operand a b marked = by a b marked (first c (here pending operand) a b marked)
    where
      by : (u v : List Token) → Marked c (here pending operand) u v → First c (here pending operand) u v → Same c line Ended (NoStand c statements line few) (line_end line u) (line_end line v)
      by u v whole ends = read [] [] (pending, operand, whole, tt)
      by u v whole stops = rw (mark_line_end c.mark c.kind c.is_mark line []) (cut_told [])
      by u v whole (token (Line number) x y text next) = read (Line number ∷ x) (Line number ∷ y) (pending, operand, whole, tt)
      by u v whole (token t x y text next) = unexpected_both t x y text

  pub line_end_met : (rest : List Token) → Meets c line (NoStand c statements line few) (line_end line (c.mark ∷ rest))
  line_end_met rest = rw (mark_line_end c.mark c.kind c.is_mark line rest) (mark_refused rest)

  -- ---- the whole formula

  alternatives_same : (asks : Bool) (x y : List RawFormula × List Token) → Leaves (Inv []) x y → FormulaSame [] (or_alternatives c.limits line asks x.0 x.1) (or_alternatives c.wider line asks y.0 y.1)
  alternatives_same true x y l = read (x.0, x.1) (y.0, y.1) l
  alternatives_same false x y l =
      let all = members_both [] (refl, refl) (omega arith) (member_at c.limits c.limits.nested line) (member_at c.wider c.wider.nested line) (member_both [] (refl, omega arith)) in
      let joined = joins_both [] Or (members_of (member_at c.limits c.limits.nested line)) (members_of (member_at c.wider c.wider.nested line)) all in
      chain_both [] (refl, refl) (omega arith) (codes "||") refl (joins Or (members_of (member_at c.limits c.limits.nested line))) (joins Or (members_of (member_at c.wider c.wider.nested line))) joined x y l

  alternatives_stops : (asks : Bool) (y : List RawFormula × List Token) → Stops y → Meets c line (Stops {A = List RawFormula}) (or_alternatives c.wider line asks y.0 y.1)
  alternatives_stops true y s = left (y.0, y.1) s
  alternatives_stops false y s = chain_stops (codes "||") (joins Or (members_of (member_at c.wider c.wider.nested line))) y s

  pub formula_same : 1 ≤ c.limits.nested → (a b : List Token) → Marked c (here [] false) a b → Same c line {X = List RawFormula × List Token} (λ x y. (x.0 ≡ y.0) × Ended x.1 y.1) (NoStand c statements line few) (formula_at c.limits line a) (formula_at c.wider line b)
  unfolding formula_at
  formula_same some a b marked =
      same_bind ((members_both [] (refl, refl) (omega arith) (outer_member_at c.limits line) (outer_member_at c.wider line) (outer_both some)).each [] a b marked)
      (λ x y l. same_bind (subst (λ (q : Bool). FormulaSame [] (or_alternatives c.limits line (list_any is_outer x.0) x.0 x.1) (or_alternatives c.wider line q y.0 y.1)) (ap (list_any is_outer) l.0) (alternatives_same (list_any is_outer x.0) x y l))
      (λ u v m. same_bind (line_end_same m.1.0 true u.1 v.1 m.1.2) (λ s t e. read (u.0, s) (v.0, t) (m.0, e)) (λ t never. absurd never))
      (λ v s. rw s.1 (meets_bind (line_end_met s.0) (λ t never. absurd never))))
      (λ y s. meets_bind (alternatives_stops (list_any is_outer y.0) y s) (λ v t. rw t.1 (meets_bind (line_end_met t.0) (λ r never. absurd never))))
