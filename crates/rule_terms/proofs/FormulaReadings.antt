-- What the parser reads as a formula is what the grammar spells with the tokens that it takes.
use Rattle.rule_terms.proofs.Common.{◌≡◌, ℕ, zero, suc, ◌+◌, ◌≤◌, Bool, true, false, List, [], ◌∷◌, ◌++◌, length, drop, Option, Some, None, Ok, refl, sym, ap, subst, ◌∙◌, ⊎_elim, append_assoc, length-append, arith, codes, ◌&&◌, ◌||◌, if◌then◌else◌, list_any, bytes_eq, list_any-append, Pred, and_left, predicates, same_word, found-passes, RuleError, Refused, NoMemory, Fails, ◌>>=◌, name_within, line_end, Token, Register, Word, Fact, Mark, done, bind_ok, bound, read_as, chosen, guarded, Takes, name_within-is, line_end-is, Constant, RawFormula, Opening, Turns, Encloses, Tests, Compares, Predicate, IsPowerOfTwo, IsSignBit, next_is, chain_of, Standing, Outermost, Within, Level, Member, Members, Alternatives, SpellsFormula, SpellsWholeFormula, compares, tests, one_use, masked, non_zero, turns, encloses, member, both, members, either, comparison_or_fault, comparison_at, compares_at, deeper, tests_at, register_at, one_use_at, masked_at, non_zero_at, joins, members_of, more_alternatives, alternatives_of, too_deep, member_at, outer_member_at, is_outer, or_alternatives, formula_at, mark_opening, word_opening, opens_formula, comparison_mark, comparison_in, predicate_word, predicate_node, predicate_in, last_place, mark_at, term_at, Limits}
use Rattle.rule_tokens.specs.declared.fact.BitFact.TheVariants as facts
use Rattle.rule_terms.specs.declared.raw.RawFormula.TheVariants as raw
use Rattle.rule_terms.specs.Chains.{Reader}
use Rattle.rule_terms.specs.Formulas.{joined}
use Rattle.rule_terms.specs.FormulaReaders.{begun_at, opening_at}
use Rattle.rule_terms.proofs.ChainLemmas.{Shortens, next_is-is}
use Rattle.rule_terms.proofs.Spellings.{term_at-is}
use Rattle.rule_terms.proofs.Starts.{mark_at-is}

module _ (limits : Limits) where
  -- nodes are appended, and the tokens that were taken spell them
  pub record Adds (standing : Standing) (level : Level) (nesting : ℕ) (before : List RawFormula) (tokens : List Token) (x : List RawFormula × List Token) : Type 0 where
    pub nodes : List RawFormula
    pub own : List Token
    pub is_own : SpellsFormula limits standing level nesting (length before) nodes own
    pub made : x.0 ≡ before ++ nodes
    pub whole : tokens ≡ own ++ x.1

  -- all that the parser reads is spelled so
  abbrev pub Reads : Standing → Level → ℕ → Reader (List RawFormula) → Type 0
  Reads standing level nesting read = (before : List RawFormula) (tokens : List Token) (x : List RawFormula × List Token) → read before tokens ≡ Ok x → Adds standing level nesting before tokens x

  -- ---- comparisons and predicates

  comparison_in-is : (mark : List ℕ) (pred : Pred) → comparison_in mark ≡ Some pred → mark ≡ comparison_mark pred
  unfolding comparison_in
  comparison_in-is mark pred e = same_word mark (comparison_mark pred) (found-passes (λ (p : Pred). bytes_eq mark (comparison_mark p)) predicates pred e)

  comparison_or_fault-is : (line : ℕ) (mark : List ℕ) (rest : List Token) (x : Pred × List Token) (found : Option Pred) → comparison_in mark ≡ found → comparison_or_fault line found rest ≡ Ok x → Mark mark ∷ rest ≡ Mark (comparison_mark x.0) ∷ x.1
  comparison_or_fault-is line mark rest x (Some pred) f e =
      read_as (λ (y : Pred × List Token). Mark mark ∷ rest ≡ Mark (comparison_mark y.0) ∷ y.1) (pred, rest) x e (ap (λ (m : List ℕ). Mark m ∷ rest) (comparison_in-is mark pred f))
  comparison_or_fault-is line mark rest x None f e = absurd cc

  pub comparison_at-is : (line : ℕ) (tokens : List Token) (x : Pred × List Token) → comparison_at line tokens ≡ Ok x → tokens ≡ Mark (comparison_mark x.0) ∷ x.1
  unfolding comparison_at
  comparison_at-is line (Mark mark ∷ rest) x e = comparison_or_fault-is line mark rest x (comparison_in mark) refl e
  comparison_at-is line tokens x e = absurd cc

  compares_at-is : (standing : Standing) (nesting line : ℕ) → Reads standing Member nesting (compares_at limits nesting line)
  unfolding compares_at
  compares_at-is standing nesting line before tokens x e =
      bound (term_at limits Constant nesting line tokens) _ _ e (λ left p e1.
      bound (comparison_at line left.1) _ _ e1 (λ pred q e2.
      bound (term_at limits Constant nesting line pred.1) _ _ e2 (λ right r e3.
      let a = term_at-is limits Constant nesting line tokens left p in
      let b = term_at-is limits Constant nesting line pred.1 right r in
      let mark = comparison_at-is line left.1 pred q in
      read_as (Adds standing Member nesting before tokens) (before ++ raw.Compare pred.0 left.0 right.0 ∷ [], right.1) x e3
      (record {
        nodes = raw.Compare pred.0 left.0 right.0 ∷ [];
        own = a.own ++ Mark (comparison_mark pred.0) ∷ b.own;
        is_own = compares pred.0 a.is_own b.is_own;
        made = refl;
        whole = a.whole ∙ ap (λ (ts : List Token). a.own ++ ts) (mark ∙ ap (λ (ts : List Token). Mark (comparison_mark pred.0) ∷ ts) b.whole) ∙ sym (append_assoc a.own (Mark (comparison_mark pred.0) ∷ b.own) right.1);
      }))))

  deeper-is : (line nesting inside : ℕ) → deeper line nesting ≡ Ok inside → nesting ≡ suc inside
  deeper-is line zero inside e = absurd cc
  deeper-is line (suc n) inside e = read_as (λ (k : ℕ). suc n ≡ suc k) n inside e refl

  -- a part behind which `)` is taken
  closed : (own rest : List Token) (behind : List Token) → behind ≡ Mark (codes ")") ∷ rest → own ++ behind ≡ (own ++ Mark (codes ")") ∷ []) ++ rest
  closed own rest behind is = ap (λ (ts : List Token). own ++ ts) is ∙ sym (append_assoc own (Mark (codes ")") ∷ []) rest)

  tests_at-is : (standing : Standing) (predicate : Predicate) (nesting line : ℕ) (before : List RawFormula) (tokens : List Token) (x : List RawFormula × List Token) → tests_at limits predicate nesting line before tokens ≡ Ok x → Adds standing Member nesting before (Word (predicate_word predicate) ∷ tokens) x
  unfolding tests_at
  tests_at-is standing predicate nesting line before tokens x e =
      bound (mark_at (codes "(") line tokens) _ _ e (λ opened p e1.
      bound (deeper line nesting) _ _ e1 (λ inside q e2.
      bound (term_at limits Constant inside line opened) _ _ e2 (λ term r e3.
      bound (mark_at (codes ")") line term.1) _ _ e3 (λ rest s e4.
      let t = term_at-is limits Constant inside line opened term r in
      read_as (Adds standing Member nesting before (Word (predicate_word predicate) ∷ tokens)) (before ++ predicate_node predicate term.0 ∷ [], rest) x e4
      (record {
        nodes = predicate_node predicate term.0 ∷ [];
        own = Word (predicate_word predicate) ∷ Mark (codes "(") ∷ t.own ++ Mark (codes ")") ∷ [];
        is_own = rw (deeper-is line nesting inside q) (tests predicate t.is_own);
        made = refl;
        whole = ap (λ (ts : List Token). Word (predicate_word predicate) ∷ ts) (mark_at-is limits (codes "(") line tokens opened p ∙ ap (λ (ts : List Token). Mark (codes "(") ∷ ts) (t.whole ∙ closed t.own rest term.1 (mark_at-is limits (codes ")") line term.1 rest s)));
      })))))

  register_at-is : (line : ℕ) (tokens : List Token) (x : List ℕ × List Token) → register_at limits line tokens ≡ Ok x → (length x.0 ≤ limits.name_bytes) × (tokens ≡ Register x.0 ∷ x.1)
  register_at-is line (Register name ∷ rest) x e =
      let n = bind_ok (name_within limits line name) _ _ e in
      let w = name_within-is limits line name n.0 n.1 in
      read_as (λ (y : List ℕ × List Token). (length y.0 ≤ limits.name_bytes) × (Register name ∷ rest ≡ Register y.0 ∷ y.1)) (n.0, rest) x n.2
      (w.0, ap (λ (r : List ℕ). Register r ∷ rest) w.1)
  register_at-is line tokens x e = absurd cc

  one_use_at-is : (nesting line : ℕ) (before : List RawFormula) (tokens : List Token) (x : List RawFormula × List Token) → one_use_at limits line before tokens ≡ Ok x → Adds Outermost Member nesting before (Word (codes "hasOneUse") ∷ tokens) x
  unfolding one_use_at
  one_use_at-is nesting line before tokens x e =
      bound (mark_at (codes "(") line tokens) _ _ e (λ opened p e1.
      bound (register_at limits line opened) _ _ e1 (λ register q e2.
      bound (mark_at (codes ")") line register.1) _ _ e2 (λ rest s e3.
      let r = register_at-is line opened register q in
      read_as (Adds Outermost Member nesting before (Word (codes "hasOneUse") ∷ tokens)) (before ++ raw.HasOneUse register.0 ∷ [], rest) x e3
      (record {
        nodes = raw.HasOneUse register.0 ∷ [];
        own = Word (codes "hasOneUse") ∷ Mark (codes "(") ∷ Register register.0 ∷ Mark (codes ")") ∷ [];
        is_own = one_use r.0;
        made = refl;
        whole = ap (λ (ts : List Token). Word (codes "hasOneUse") ∷ ts) (mark_at-is limits (codes "(") line tokens opened p ∙ ap (λ (ts : List Token). Mark (codes "(") ∷ ts) (r.1 ∙ ap (λ (ts : List Token). Register register.0 ∷ ts) (mark_at-is limits (codes ")") line register.1 rest s)));
      }))))

  masked_at-is : (nesting line : ℕ) (before : List RawFormula) (tokens : List Token) (x : List RawFormula × List Token) → masked_at limits nesting line before tokens ≡ Ok x → Adds Outermost Member nesting before (Fact facts.MaskedValueIsZero ∷ tokens) x
  unfolding masked_at
  masked_at-is nesting line before tokens x e =
      bound (mark_at (codes "(") line tokens) _ _ e (λ opened p e1.
      bound (deeper line nesting) _ _ e1 (λ inside d e2.
      bound (register_at limits line opened) _ _ e2 (λ register q e3.
      bound (mark_at (codes ",") line register.1) _ _ e3 (λ behind m e4.
      bound (term_at limits Constant inside line behind) _ _ e4 (λ term r e5.
      bound (mark_at (codes ")") line term.1) _ _ e5 (λ rest s e6.
      let name = register_at-is line opened register q in
      let t = term_at-is limits Constant inside line behind term r in
      let nodes : List RawFormula = raw.MaskedValueIsZero register.0 term.0 ∷ [] in
      let own : List Token = Fact facts.MaskedValueIsZero ∷ Mark (codes "(") ∷ Register register.0 ∷ Mark (codes ",") ∷ t.own ++ Mark (codes ")") ∷ [] in
      let mask : Mark (codes ",") ∷ behind ≡ Mark (codes ",") ∷ ((t.own ++ Mark (codes ")") ∷ []) ++ rest)
      = ap (λ (ts : List Token). Mark (codes ",") ∷ ts) (t.whole ∙ closed t.own rest term.1 (mark_at-is limits (codes ")") line term.1 rest s)) in
      let named : opened ≡ Register register.0 ∷ Mark (codes ",") ∷ ((t.own ++ Mark (codes ")") ∷ []) ++ rest)
      = name.1 ∙ ap (λ (ts : List Token). Register register.0 ∷ ts) (mark_at-is limits (codes ",") line register.1 behind m ∙ mask) in
      read_as (Adds Outermost Member nesting before (Fact facts.MaskedValueIsZero ∷ tokens)) (before ++ nodes, rest) x e6
      (record {
        nodes = nodes;
        own = own;
        is_own = subst (λ (k : ℕ). SpellsFormula limits Outermost Member k (length before) nodes own) (sym (deeper-is line nesting inside d)) (masked name.0 t.is_own);
        made = refl;
        whole = ap (λ (ts : List Token). Fact facts.MaskedValueIsZero ∷ ts) (mark_at-is limits (codes "(") line tokens opened p ∙ ap (λ (ts : List Token). Mark (codes "(") ∷ ts) named);
      })))))))

  non_zero_at-is : (nesting line : ℕ) (before : List RawFormula) (tokens : List Token) (x : List RawFormula × List Token) → non_zero_at limits line before tokens ≡ Ok x → Adds Outermost Member nesting before (Fact facts.IsKnownNonZero ∷ tokens) x
  unfolding non_zero_at
  non_zero_at-is nesting line before tokens x e =
      bound (mark_at (codes "(") line tokens) _ _ e (λ opened p e1.
      bound (register_at limits line opened) _ _ e1 (λ register q e2.
      bound (mark_at (codes ")") line register.1) _ _ e2 (λ rest s e3.
      let r = register_at-is line opened register q in
      read_as (Adds Outermost Member nesting before (Fact facts.IsKnownNonZero ∷ tokens)) (before ++ raw.IsKnownNonZero register.0 ∷ [], rest) x e3
      (record {
        nodes = raw.IsKnownNonZero register.0 ∷ [];
        own = Fact facts.IsKnownNonZero ∷ Mark (codes "(") ∷ Register register.0 ∷ Mark (codes ")") ∷ [];
        is_own = non_zero r.0;
        made = refl;
        whole = ap (λ (ts : List Token). Fact facts.IsKnownNonZero ∷ ts) (mark_at-is limits (codes "(") line tokens opened p ∙ ap (λ (ts : List Token). Mark (codes "(") ∷ ts) (r.1 ∙ ap (λ (ts : List Token). Register register.0 ∷ ts) (mark_at-is limits (codes ")") line register.1 rest s)));
      }))))

  -- ---- chains

  -- the nodes of two operands and their operator, appended
  pub operator_made : (operator : ℕ → ℕ → RawFormula) (before left right : List RawFormula) →
      ((before ++ left) ++ right) ++ operator (last_place (length (before ++ left))) (last_place (length ((before ++ left) ++ right))) ∷ []
      ≡ before ++ joined operator (length before) left right
  operator_made operator before left right =
      let one : length (before ++ left) ≡ length before + length left = length-append before left in
      let both : length ((before ++ left) ++ right) ≡ length before + length left + length right = length-append (before ++ left) right ∙ ap (λ (n : ℕ). n + length right) one in
      let node : List RawFormula = operator (last_place (length before + length left)) (last_place (length before + length left + length right)) ∷ [] in
      rw (one, both) (ap (λ (ns : List RawFormula). ns ++ node) (append_assoc before left right) ∙ append_assoc before (left ++ right) node)

  -- a part that is read behind a mark and joined with what was read before
  record Joined (operator : ℕ → ℕ → RawFormula) (standing : Standing) (level : Level) (nesting : ℕ) (before left : List RawFormula) (tokens : List Token) (x : List RawFormula × List Token) : Type 0 where
    nodes : List RawFormula
    own : List Token
    is_own : SpellsFormula limits standing level nesting (length (before ++ left)) nodes own
    made : x.0 ≡ before ++ joined operator (length before) left nodes
    whole : tokens ≡ own ++ x.1

  joins-is : (operator : ℕ → ℕ → RawFormula) (standing : Standing) (level : Level) (nesting : ℕ) (part : Reader (List RawFormula)) → Reads standing level nesting part → (before left : List RawFormula) (tokens : List Token) (x : List RawFormula × List Token) → joins operator part (before ++ left) tokens ≡ Ok x → Joined operator standing level nesting before left tokens x
  joins-is operator standing level nesting part reads before left tokens x e =
      bound (part (before ++ left) tokens) _ _ e (λ y p e1.
      let a = reads (before ++ left) tokens y p in
      read_as (Joined operator standing level nesting before left tokens) (y.0 ++ operator (last_place (length (before ++ left))) (last_place (length y.0)) ∷ [], y.1) x e1
      (record {
        nodes = a.nodes;
        own = a.own;
        is_own = a.is_own;
        made = ap (λ (ns : List RawFormula). ns ++ operator (last_place (length (before ++ left))) (last_place (length ns)) ∷ []) a.made ∙ operator_made operator before left a.nodes;
        whole = a.whole;
      }))

  -- what the mark of a chain joins is of the same nonterminal again
  abbrev Continues : (operator : ℕ → ℕ → RawFormula) (mark : List ℕ) (standing : Standing) (level part : Level) (inner : Standing) → ℕ → Type 0
  Continues operator mark standing level part inner nesting = (start : ℕ) (left right : List RawFormula) (front back : List Token) →
      SpellsFormula limits standing level nesting start left front → SpellsFormula limits inner part nesting (start + length left) right back
      → SpellsFormula limits standing level nesting start (joined operator start left right) (front ++ Mark mark ∷ back)

  chain-is : (operator : ℕ → ℕ → RawFormula) (mark : List ℕ) (standing inner : Standing) (level part : Level) (nesting n : ℕ) (read : Reader (List RawFormula)) (before : List RawFormula) (tokens : List Token) (left x : List RawFormula × List Token)
      → Continues operator mark standing level part inner nesting → Reads inner part nesting read → Adds standing level nesting before tokens left → chain_of n mark (joins operator read) left.0 left.1 ≡ Ok x → Adds standing level nesting before tokens x
  unfolding chain_of
  chain-is operator mark standing inner level part nesting zero read before tokens left x goes reads a e = read_as (Adds standing level nesting before tokens) (left.0, left.1) x e (record { nodes = a.nodes; own = a.own; is_own = a.is_own; made = a.made; whole = a.whole })
  chain-is operator mark standing inner level part nesting (suc n) read before tokens left x goes reads a e = ⊎_elim
      (λ (h : (next_is mark left.1 ≡ true) × ((joins operator read left.0 (drop 1 left.1) >>= λ y. chain_of n mark (joins operator read) y.0 y.1) ≡ Ok x)).
      bound (joins operator read left.0 (drop 1 left.1)) _ _ h.1 (λ y p q.
      let j = joins-is operator inner part nesting read reads before a.nodes (drop 1 left.1) y (subst (λ (ns : List RawFormula). joins operator read ns (drop 1 left.1) ≡ Ok y) a.made p) in
      let right : SpellsFormula limits inner part nesting (length before + length a.nodes) j.nodes j.own = subst (λ (k : ℕ). SpellsFormula limits inner part nesting k j.nodes j.own) (length-append before a.nodes) j.is_own in
      chain-is operator mark standing inner level part nesting n read before tokens y x goes reads
      (record {
        nodes = joined operator (length before) a.nodes j.nodes;
        own = a.own ++ Mark mark ∷ j.own;
        is_own = goes (length before) a.nodes j.nodes a.own j.own a.is_own right;
        made = j.made;
        whole = a.whole ∙ ap (λ (ts : List Token). a.own ++ ts) (next_is-is mark left.1 h.0 ∙ ap (λ (ts : List Token). Mark mark ∷ ts) j.whole) ∙ sym (append_assoc a.own (Mark mark ∷ j.own) y.1);
      })
      q))
      (λ (h : (next_is mark left.1 ≡ false) × (done (left.0, left.1) ≡ Ok x)). read_as (Adds standing level nesting before tokens) (left.0, left.1) x h.1 (record { nodes = a.nodes; own = a.own; is_own = a.is_own; made = a.made; whole = a.whole }))
      (chosen (next_is mark left.1) (joins operator read left.0 (drop 1 left.1) >>= λ y. chain_of n mark (joins operator read) y.0 y.1) (done (left.0, left.1)) (Ok x) e)

  pub members_of-is : (standing : Standing) (nesting : ℕ) (read : Reader (List RawFormula)) → Reads standing Member nesting read → Reads standing Members nesting (members_of read)
  members_of-is standing nesting read reads before tokens x e =
      bound (read before tokens) _ _ e (λ first p e1.
      let a = reads before tokens first p in
      chain-is raw.And (codes "&&") standing standing Members Member nesting (length first.1) read before tokens first x (λ start left right front back l r. both l r) reads
      (record { nodes = a.nodes; own = a.own; is_own = member a.is_own; made = a.made; whole = a.whole }) e1)

  more_alternatives-is : (nesting : ℕ) (read : Reader (List RawFormula)) (before : List RawFormula) (tokens : List Token) (first x : List RawFormula × List Token) → Reads Within Member nesting read → Adds Within Members nesting before tokens first → more_alternatives read first.0 first.1 ≡ Ok x → Adds Within Alternatives nesting before tokens x
  more_alternatives-is nesting read before tokens first x reads a e =
      chain-is raw.Or (codes "||") Within Within Alternatives Members nesting (length first.1) (members_of read) before tokens first x (λ start left right front back l r. either l r) (members_of-is Within nesting read reads)
      (record { nodes = a.nodes; own = a.own; is_own = members a.is_own; made = a.made; whole = a.whole }) e

  pub alternatives_of-is : (nesting : ℕ) (read : Reader (List RawFormula)) → Reads Within Member nesting read → Reads Within Alternatives nesting (alternatives_of read)
  alternatives_of-is nesting read reads before tokens x e =
      bound (members_of read before tokens) _ _ e (λ first p e1. more_alternatives-is nesting read before tokens first x reads (members_of-is Within nesting read reads before tokens first p) e1)

  -- ---- members

  -- these tokens begin such a member
  abbrev pub StartsSo : Opening → List Token → Type 0
  StartsSo Turns tokens = tokens ≡ Mark (codes "!") ∷ drop 1 tokens
  StartsSo Encloses tokens = tokens ≡ Mark (codes "(") ∷ drop 1 tokens
  StartsSo (Tests predicate) tokens = tokens ≡ Word (predicate_word predicate) ∷ drop 1 tokens
  StartsSo Compares tokens = Unit {0}

  mark_as : (wanted mark : List ℕ) (rest : List Token) → bytes_eq mark wanted ≡ true → Mark mark ∷ rest ≡ Mark wanted ∷ rest
  mark_as wanted mark rest e = ap (λ (m : List ℕ). Mark m ∷ rest) (same_word mark wanted e)

  mark_opening-is : (mark : List ℕ) (rest : List Token) (o : Opening) → mark_opening mark rest ≡ o → StartsSo o (Mark mark ∷ rest)
  mark_opening-is mark rest o e = ⊎_elim
      (λ (h : (bytes_eq mark (codes "!") ≡ true) × (Turns ≡ o)). subst (λ (p : Opening). StartsSo p (Mark mark ∷ rest)) h.1 (mark_as (codes "!") mark rest h.0))
      (λ (h : (bytes_eq mark (codes "!") ≡ false) × ((if bytes_eq mark (codes "(") && opens_formula 0 rest then Encloses else Compares) ≡ o)). ⊎_elim
      (λ (k : ((bytes_eq mark (codes "(") && opens_formula 0 rest) ≡ true) × (Encloses ≡ o)).
      subst (λ (p : Opening). StartsSo p (Mark mark ∷ rest)) k.1 (mark_as (codes "(") mark rest (and_left (bytes_eq mark (codes "(")) (opens_formula 0 rest) k.0)))
      (λ (k : ((bytes_eq mark (codes "(") && opens_formula 0 rest) ≡ false) × (Compares ≡ o)). subst (λ (p : Opening). StartsSo p (Mark mark ∷ rest)) k.1 tt)
      (chosen (bytes_eq mark (codes "(") && opens_formula 0 rest) Encloses Compares o h.1))
      (chosen (bytes_eq mark (codes "!")) Turns (if bytes_eq mark (codes "(") && opens_formula 0 rest then Encloses else Compares) o e)

  predicate_in-is : (word : List ℕ) (predicate : Predicate) → predicate_in word ≡ Some predicate → word ≡ predicate_word predicate
  unfolding predicate_in
  predicate_in-is word predicate e = ⊎_elim
      (λ (h : (bytes_eq word (codes "isPowerOf2") ≡ true) × (Some IsPowerOfTwo ≡ Some predicate)).
      let same : IsPowerOfTwo ≡ predicate = cc h.1 in
      subst (λ (p : Predicate). word ≡ predicate_word p) same (same_word word (codes "isPowerOf2") h.0))
      (λ (h : (bytes_eq word (codes "isPowerOf2") ≡ false) × ((if bytes_eq word (codes "isSignBit") then Some IsSignBit else None) ≡ Some predicate)).
      let g = guarded (bytes_eq word (codes "isSignBit")) IsSignBit predicate h.1 in
      subst (λ (p : Predicate). word ≡ predicate_word p) g.1 (same_word word (codes "isSignBit") g.0))
      (chosen (bytes_eq word (codes "isPowerOf2")) (Some IsPowerOfTwo) (if bytes_eq word (codes "isSignBit") then Some IsSignBit else None) (Some predicate) e)

  word_opening-is : (word : List ℕ) (rest : List Token) (found : Option Predicate) → predicate_in word ≡ found → StartsSo (word_opening found) (Word word ∷ rest)
  word_opening-is word rest (Some predicate) f = ap (λ (w : List ℕ). Word w ∷ rest) (predicate_in-is word predicate f)
  word_opening-is word rest None f = tt

  pub opening_at-is : (tokens : List Token) → StartsSo (opening_at tokens) tokens
  unfolding opening_at
  opening_at-is (Mark mark ∷ rest) = mark_opening-is mark rest (mark_opening mark rest) refl
  opening_at-is (Word word ∷ rest) = word_opening-is word rest (predicate_in word) refl
  opening_at-is tokens = tt

  pub turned_made : (before nodes : List RawFormula) →
      (before ++ nodes) ++ raw.Not (last_place (length (before ++ nodes))) ∷ [] ≡ before ++ (nodes ++ raw.Not (last_place (length before + length nodes)) ∷ [])
  turned_made before nodes =
      let node : List RawFormula = raw.Not (last_place (length before + length nodes)) ∷ [] in
      rw (length-append before nodes) (append_assoc before nodes node)

  begun_at-is : (standing : Standing) (nesting line : ℕ) (inside : Reader (List RawFormula)) (before : List RawFormula) (tokens : List Token) (x : List RawFormula × List Token) (o : Opening) → Reads Within Member nesting inside → StartsSo o tokens → begun_at limits o (suc nesting) line inside before tokens ≡ Ok x → Adds standing Member (suc nesting) before tokens x
  begun_at-is standing nesting line inside before tokens x Turns reads start e =
      bound (inside before (drop 1 tokens)) _ _ e (λ y p e1.
      let a = reads before (drop 1 tokens) y p in
      read_as (Adds standing Member (suc nesting) before tokens) (y.0 ++ raw.Not (last_place (length y.0)) ∷ [], y.1) x e1
      (record {
        nodes = a.nodes ++ raw.Not (last_place (length before + length a.nodes)) ∷ [];
        own = Mark (codes "!") ∷ a.own;
        is_own = turns a.is_own;
        made = ap (λ (ns : List RawFormula). ns ++ raw.Not (last_place (length ns)) ∷ []) a.made ∙ turned_made before a.nodes;
        whole = start ∙ ap (λ (ts : List Token). Mark (codes "!") ∷ ts) a.whole;
      }))
  begun_at-is standing nesting line inside before tokens x Encloses reads start e =
      bound (alternatives_of inside before (drop 1 tokens)) _ _ e (λ y p e1.
      bound (mark_at (codes ")") line y.1) _ _ e1 (λ rest q e2.
      let a = alternatives_of-is nesting inside reads before (drop 1 tokens) y p in
      read_as (Adds standing Member (suc nesting) before tokens) (y.0, rest) x e2
      (record {
        nodes = a.nodes;
        own = Mark (codes "(") ∷ a.own ++ Mark (codes ")") ∷ [];
        is_own = encloses a.is_own;
        made = a.made;
        whole = start ∙ ap (λ (ts : List Token). Mark (codes "(") ∷ ts) (a.whole ∙ closed a.own rest y.1 (mark_at-is limits (codes ")") line y.1 rest q));
      })))
  begun_at-is standing nesting line inside before tokens x (Tests predicate) reads start e =
      subst (λ (ts : List Token). Adds standing Member (suc nesting) before ts x) (sym start) (tests_at-is standing predicate (suc nesting) line before (drop 1 tokens) x e)
  begun_at-is standing nesting line inside before tokens x Compares reads start e = compares_at-is standing (suc nesting) line before tokens x e

  -- members where no level of nesting is left
  shallow-is : (standing : Standing) (line : ℕ) (before : List RawFormula) (tokens : List Token) (x : List RawFormula × List Token) (o : Opening) → StartsSo o tokens → begun_at limits o zero line (too_deep line) before tokens ≡ Ok x → Adds standing Member zero before tokens x
  shallow-is standing line before tokens x Turns start e = absurd cc
  shallow-is standing line before tokens x Encloses start e = absurd cc
  shallow-is standing line before tokens x (Tests predicate) start e =
      subst (λ (ts : List Token). Adds standing Member zero before ts x) (sym start) (tests_at-is standing predicate zero line before (drop 1 tokens) x e)
  shallow-is standing line before tokens x Compares start e = compares_at-is standing zero line before tokens x e

  pub member_at-is : (standing : Standing) (nesting line : ℕ) → Reads standing Member nesting (member_at limits nesting line)
  unfolding member_at
  member_at-is standing zero line before tokens x e = shallow-is standing line before tokens x (opening_at tokens) (opening_at-is tokens) e
  member_at-is standing (suc nesting) line before tokens x e = begun_at-is standing nesting line (member_at limits nesting line) before tokens x (opening_at tokens) (member_at-is Within nesting line) (opening_at-is tokens) e

  pub outer_member_at-is : (line : ℕ) → Reads Outermost Member limits.nested (outer_member_at limits line)
  unfolding outer_member_at
  outer_member_at-is line before (Word word ∷ rest) x e = ⊎_elim
      (λ (h : (bytes_eq word (codes "hasOneUse") ≡ true) × (one_use_at limits line before rest ≡ Ok x)).
      subst (λ (w : List ℕ). Adds Outermost Member limits.nested before (Word w ∷ rest) x) (sym (same_word word (codes "hasOneUse") h.0)) (one_use_at-is limits.nested line before rest x h.1))
      (λ (h : (bytes_eq word (codes "hasOneUse") ≡ false) × (member_at limits limits.nested line before (Word word ∷ rest) ≡ Ok x)). member_at-is Outermost limits.nested line before (Word word ∷ rest) x h.1)
      (chosen (bytes_eq word (codes "hasOneUse")) (one_use_at limits line before rest) (member_at limits limits.nested line before (Word word ∷ rest)) (Ok x) e)
  outer_member_at-is line before (Fact facts.MaskedValueIsZero ∷ rest) x e = masked_at-is limits.nested line before rest x e
  outer_member_at-is line before (Fact facts.IsKnownNonZero ∷ rest) x e = non_zero_at-is limits.nested line before rest x e
  outer_member_at-is line before tokens x e = member_at-is Outermost limits.nested line before tokens x e

  -- what appends nodes leaves no more tokens than there were
  pub adds_shortens : {standing : Standing} {level : Level} {nesting : ℕ} {before : List RawFormula} {tokens : List Token} {x : List RawFormula × List Token} → Adds standing level nesting before tokens x → length x.1 ≤ length tokens
  adds_shortens {x} a = omega (arith, ap length a.whole, length-append a.own x.1)

  pub joins_shortens : (operator : ℕ → ℕ → RawFormula) (standing : Standing) (level : Level) (nesting : ℕ) (part : Reader (List RawFormula)) → Reads standing level nesting part → Shortens (joins operator part)
  joins_shortens operator standing level nesting part reads before tokens x e =
      bound (part before tokens) _ _ e (λ y p e1.
      read_as (λ (z : List RawFormula × List Token). length z.1 ≤ length tokens) (y.0 ++ operator (last_place (length before)) (last_place (length y.0)) ∷ [], y.1) x e1
      (adds_shortens (reads before tokens y p)))

  pub reads_shorten : {standing : Standing} {level : Level} {nesting : ℕ} {part : Reader (List RawFormula)} → Reads standing level nesting part → Shortens part
  reads_shorten reads before tokens x e = adds_shortens (reads before tokens x e)

  -- a part is read where it is joined, and its fault is that of both
  pub joins-read : (operator : ℕ → ℕ → RawFormula) (part : Reader (List RawFormula)) (before after : List RawFormula) (tokens rest : List Token) → part before tokens ≡ Ok (after, rest) → joins operator part before tokens ≡ Ok (after ++ operator (last_place (length before)) (last_place (length after)) ∷ [], rest)
  joins-read operator part before after tokens rest e = rw e refl

  pub joins-fault : (operator : ℕ → ℕ → RawFormula) (part : Reader (List RawFormula)) (before : List RawFormula) (tokens : List Token) (e : RuleError) → Fails e (part before tokens) → Fails e (joins operator part before tokens)
  joins-fault operator part before tokens NoMemory fails = tt
  joins-fault operator part before tokens (Refused f) fails = rw fails refl

  -- ---- the whole formula

  -- what isn't in a list isn't in its parts
  neither : (p q : Bool) → (p || q) ≡ false → (p ≡ false) × (q ≡ false)
  neither false false e = (refl, refl)
  neither false true e = absurd cc
  neither true q e = absurd cc

  none_among : (front back : List RawFormula) → list_any is_outer (front ++ back) ≡ false → (list_any is_outer front ≡ false) × (list_any is_outer back ≡ false)
  none_among front back none = neither (list_any is_outer front) (list_any is_outer back) (sym (list_any-append is_outer front back) ∙ none)

  -- without a member of the outermost `&&` alone it may stand within another
  pub stands_within : {standing : Standing} {level : Level} {nesting start : ℕ} {nodes : List RawFormula} {own : List Token} → SpellsFormula limits standing level nesting start nodes own → list_any is_outer nodes ≡ false → SpellsFormula limits Within level nesting start nodes own
  stands_within (compares pred left right) none = compares pred left right
  stands_within (tests predicate term) none = tests predicate term
  stands_within (one_use le) none = absurd cc
  stands_within (masked le term) none = absurd cc
  stands_within (non_zero le) none = absurd cc
  stands_within (turns inside) none = turns inside
  stands_within (encloses inside) none = encloses inside
  stands_within (member one) none = member (stands_within one none)
  stands_within (both {start = start} {left = left} {right = right} l r) none =
      let node : List RawFormula = raw.And (last_place (start + length left)) (last_place (start + length left + length right)) ∷ [] in
      let parts = none_among left right (none_among (left ++ right) node none).0 in
      both (stands_within l parts.0) (stands_within r parts.1)
  stands_within (members all) none = members (stands_within all none)
  stands_within (either l r) none = either l r

  pub stands_outermost : {standing : Standing} {level : Level} {nesting start : ℕ} {nodes : List RawFormula} {own : List Token} → SpellsFormula limits standing level nesting start nodes own → SpellsFormula limits Outermost level nesting start nodes own
  stands_outermost (compares pred left right) = compares pred left right
  stands_outermost (tests predicate term) = tests predicate term
  stands_outermost (one_use le) = one_use le
  stands_outermost (masked le term) = masked le term
  stands_outermost (non_zero le) = non_zero le
  stands_outermost (turns inside) = turns inside
  stands_outermost (encloses inside) = encloses inside
  stands_outermost (member one) = member (stands_outermost one)
  stands_outermost (both l r) = both (stands_outermost l) (stands_outermost r)
  stands_outermost (members all) = members (stands_outermost all)
  stands_outermost (either l r) = either l r

  outer_alternatives-is : (line : ℕ) (tokens : List Token) (first x : List RawFormula × List Token) (asks : Bool) → list_any is_outer first.0 ≡ asks → Adds Outermost Members limits.nested [] tokens first → or_alternatives limits line asks first.0 first.1 ≡ Ok x → Adds Outermost Alternatives limits.nested [] tokens x
  outer_alternatives-is line tokens first x true f a e =
      read_as (Adds Outermost Alternatives limits.nested [] tokens) (first.0, first.1) x e (record { nodes = a.nodes; own = a.own; is_own = members a.is_own; made = a.made; whole = a.whole })
  outer_alternatives-is line tokens first x false f a e =
      let none : list_any is_outer a.nodes ≡ false = subst (λ (ns : List RawFormula). list_any is_outer ns ≡ false) a.made f in
      let within : Adds Within Members limits.nested [] tokens first = record { nodes = a.nodes; own = a.own; is_own = stands_within a.is_own none; made = a.made; whole = a.whole } in
      let all = more_alternatives-is limits.nested (member_at limits limits.nested line) [] tokens first x (member_at-is Within limits.nested line) within e in
      record { nodes = all.nodes; own = all.own; is_own = stands_outermost all.is_own; made = all.made; whole = all.whole }

  pub formula_at-is : (line : ℕ) (tokens : List Token) (x : List RawFormula × List Token) → formula_at limits line tokens ≡ Ok x → Takes (SpellsWholeFormula limits x.0) tokens x.1
  unfolding formula_at
  formula_at-is line tokens x e =
      bound (members_of (outer_member_at limits line) [] tokens) _ _ e (λ first p e1.
      bound (or_alternatives limits line (list_any is_outer first.0) first.0 first.1) _ _ e1 (λ all q e2.
      bound (line_end line all.1) _ _ e2 (λ rest ends e3.
      let a = outer_alternatives-is line tokens first all (list_any is_outer first.0) refl (members_of-is Outermost limits.nested (outer_member_at limits line) (outer_member_at-is line) [] tokens first p) q in
      read_as (λ (y : List RawFormula × List Token). Takes (SpellsWholeFormula limits y.0) tokens y.1) (all.0, rest) x e3
      (record {
        own = a.own;
        is_own = subst (λ (ns : List RawFormula). SpellsWholeFormula limits ns a.own) (sym a.made) a.is_own;
        whole = a.whole ∙ ap (λ (ts : List Token). a.own ++ ts) (line_end-is line all.1 rest ends);
      }))))
