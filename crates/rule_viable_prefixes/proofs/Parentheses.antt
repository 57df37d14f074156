-- A parenthesis that is open at the end of a prefix may enclose a term or a formula, as long as no token in it stands
-- in formulas alone.
use Rattle.rule_viable_prefixes.proofs.Common.{◌≡◌, ℕ, zero, suc, ◌≤◌, Bool, true, false, List, [], ◌∷◌, ◌++◌, length, refl, sym, ap, subst, ◌∙◌, append_assoc, arith, codes, bytes_eq, append-nil, is_among, Negate, Log2, Abs, Token, Line, Word, Fact, Mark, EndsLine, RawFormula, RawNode, opens_behind, opens_formula, sign_of, comparison_mark, formula_words, Standing, Level, SpellsFormula, compares, tests, masked, non_zero, turns, encloses, member, both, members, either, SpellsLeaf, SpellsTerm, SpellsWholeTerm, leaf, width, parenthesised, called, prefixed, tighter, joined, loosest, operator_mark, IsPrefix, term_plain, comparison_says, predicate_says, formula_says, spells_some, Limits}
use Rattle.rule_core.specs.declared.rule.Function.TheVariants.{Not}
use Rattle.rule_tokens.specs.declared.fact.BitFact.TheVariants as facts
use Rattle.rule_terms.specs.declared.formula_word.Sign.{Sign}
use Rattle.rule_terms.specs.declared.formula_word.Sign.TheVariants as signs
use Rattle.rule_terms.specs.declared.place.TermPlace.TheVariants.{Constant}
use Rattle.rule_terms.specs.declared.raw.RawNode.TheVariants as raw_nodes
use Rattle.rule_terms.specs.Formulas.{one_use}
use Rattle.rule_viable_prefixes.proofs.Terms.{term_good}
use Rattle.rule_viable_prefixes.proofs.Roomy.{roomy}

module _ (spare_bytes deepest spare_statements : ℕ) where
  abbrev limits : Limits
  limits = roomy spare_bytes deepest spare_statements

  -- ---- two ways to cut tokens

  pub data Cut (a x c y : List Token) : Type 0 where
    shorter : (g : List Token) → c ≡ a ++ g → x ≡ g ++ y → Cut a x c y
    longer : (t : Token) (g : List Token) → a ≡ c ++ t ∷ g → y ≡ t ∷ g ++ x → Cut a x c y

  pub cut : (a x c y : List Token) → a ++ x ≡ c ++ y → Cut a x c y
  cut [] x c y e = shorter c refl e
  cut (t ∷ a) x [] y e = longer t a refl (sym e)
  cut (t ∷ a) x (u ∷ c) y e = by (cut a x c y (let same = e in cc))
    where
      first : t ≡ u
      first = let same = e in cc

      by : Cut a x c y → Cut (t ∷ a) x (u ∷ c) y
      by (shorter g p q) = shorter g (ap (λ (ts : List Token). u ∷ ts) p ∙ ap (λ (v : Token). v ∷ a ++ g) (sym first)) q
      by (longer v g p q) = longer v g (ap (λ (ts : List Token). t ∷ ts) p ∙ ap (λ (w : Token). w ∷ c ++ v ∷ g) first) q

  -- ---- the search for a formula

  says : (token : Token) (depth : ℕ) (tokens : List Token) → sign_of token ≡ signs.InFormula → opens_formula depth (token ∷ tokens) ≡ true
  unfolding opens_formula
  says token depth tokens is = rw is refl

  pub closes : (tokens : List Token) → opens_formula 0 (Mark (codes ")") ∷ tokens) ≡ false
  unfolding opens_formula
  closes tokens = refl

  ends_closed : (depth : ℕ) (tokens : List Token) → EndsLine tokens → opens_formula depth tokens ≡ false
  unfolding opens_formula
  ends_closed depth [] ends = refl
  ends_closed depth (Line number ∷ tokens) ends = refl
  ends_closed depth tokens ends = absurd ends

  opens_deeper : (depth : ℕ) (tokens : List Token) → opens_formula depth (Mark (codes "(") ∷ tokens) ≡ opens_formula (suc depth) tokens
  unfolding opens_formula
  opens_deeper depth tokens = refl

  behind_same : (sign : Sign) (depth : ℕ) (r q : ℕ → Bool) → ((d : ℕ) → r d ≡ q d) → opens_behind sign depth r ≡ opens_behind sign depth q
  behind_same signs.Opens depth r q h = h (suc depth)
  behind_same signs.Closes zero r q h = refl
  behind_same signs.Closes (suc depth) r q h = h depth
  behind_same signs.LineEnds depth r q h = refl
  behind_same signs.InFormula depth r q h = refl
  behind_same signs.Plain depth r q h = h depth

  opens_same : (front a b : List Token) → ((depth : ℕ) → opens_formula depth a ≡ opens_formula depth b) → (depth : ℕ) → opens_formula depth (front ++ a) ≡ opens_formula depth (front ++ b)
  unfolding opens_formula
  opens_same [] a b h depth = h depth
  opens_same (token ∷ front) a b h depth = behind_same (sign_of token) depth (λ d. opens_formula d (front ++ a)) (λ d. opens_formula d (front ++ b)) (λ d. opens_same front a b h d)

  pub opens_at_end : (front a b : List Token) → EndsLine a → EndsLine b → opens_formula 0 (front ++ a) ≡ opens_formula 0 (front ++ b)
  opens_at_end front a b p q = opens_same front a b (λ depth. ends_closed depth a p ∙ sym (ends_closed depth b q)) 0

  -- what the search answers with these tokens behind the prefix, it answers with a word and `==` there
  behind_again : (b : Bool) (sign : Sign) (depth : ℕ) (r q : ℕ → Bool) → ((d : ℕ) → r d ≡ b → q d ≡ b) → opens_behind sign depth r ≡ b → opens_behind sign depth q ≡ b
  behind_again b signs.Opens depth r q h e = h (suc depth) e
  behind_again b signs.Closes zero r q h e = e
  behind_again b signs.Closes (suc depth) r q h e = h depth e
  behind_again b signs.LineEnds depth r q h e = e
  behind_again b signs.InFormula depth r q h e = e
  behind_again b signs.Plain depth r q h e = h depth e

  abbrev pub word_and_equals : List ℕ → List Token
  word_and_equals word = Word word ∷ Mark (codes "==") ∷ []

  pub seen_again : (word : List ℕ) (front a : List Token) (depth : ℕ) → opens_formula depth (front ++ a) ≡ true → opens_formula depth (front ++ word_and_equals word) ≡ true
  unfolding opens_formula
  seen_again word [] a depth e = by (is_among formula_words word) refl
    where
      by : (b : Bool) → is_among formula_words word ≡ b → opens_formula depth (word_and_equals word) ≡ true
      by true h = rw h refl
      by false h = rw h refl
  seen_again word (token ∷ front) a depth e = behind_again true (sign_of token) depth (λ d. opens_formula d (front ++ a)) (λ d. opens_formula d (front ++ word_and_equals word)) (λ d. seen_again word front a d) e

  -- a word behind the prefix that isn't of formulas alone doesn't let the search find a formula
  pub unseen_again : (word : List ℕ) → is_among formula_words word ≡ false → (front a : List Token) (depth : ℕ) → opens_formula depth (front ++ a) ≡ false → opens_formula depth (front ++ Word word ∷ []) ≡ false
  unfolding opens_formula
  unseen_again word plain [] a depth e = rw plain refl
  unseen_again word plain (token ∷ front) a depth e = behind_again false (sign_of token) depth (λ d. opens_formula d (front ++ a)) (λ d. opens_formula d (front ++ Word word ∷ [])) (λ d. unseen_again word plain front a d) e

  -- the search finds a formula in these tokens, or they are a term
  pub formula_seen : {standing : Standing} {level : Level} {nesting start : ℕ} {nodes : List RawFormula} {own : List Token} → SpellsFormula limits standing level nesting start nodes own → (front g b : List Token) (depth : ℕ) → front ≡ own ++ g → opens_formula depth (front ++ b) ≡ true
  formula_seen {own = own} is front g b depth same = rw (same, append_assoc own g b) (formula_says limits is depth (g ++ b))

  -- ---- a term in place of a formula

  -- the tokens are a viable prefix of a term
  abbrev pub BeginsTerm : ℕ → List Token → Type 0
  BeginsTerm nesting front = (more : List Token) × (nodes : List RawNode) × SpellsWholeTerm limits Constant nesting nodes (front ++ more)

  nothing_begins : (nesting : ℕ) → BeginsTerm nesting []
  nothing_begins nesting =
      let s = (term_good spare_bytes deepest spare_statements Constant nesting 0).sample in
      let t = s.2 0 in
      (s.1, t.0, t.1)

  pub loosened : (nesting start : ℕ) (nodes : List RawNode) (own : List Token) → SpellsTerm limits Constant nesting start 0 nodes own → SpellsTerm limits Constant nesting start loosest nodes own
  loosened nesting start nodes own is = tighter (tighter (tighter (tighter (tighter (tighter is)))))

  enclosed_begins : (nesting : ℕ) (front : List Token) → BeginsTerm nesting front → BeginsTerm (suc nesting) (Mark (codes "(") ∷ front)
  enclosed_begins nesting front (more, nodes, is) = (
    more ++ Mark (codes ")") ∷ [],
    nodes,
    subst (λ (ts : List Token). SpellsWholeTerm limits Constant (suc nesting) nodes (Mark (codes "(") ∷ ts)) (append_assoc front more (Mark (codes ")") ∷ [])) (loosened (suc nesting) 0 nodes _ (parenthesised is)),
  )

  term_begins : (nesting : ℕ) (nodes : List RawNode) (own front more : List Token) → own ≡ front ++ more → SpellsWholeTerm limits Constant nesting nodes own → BeginsTerm nesting front
  term_begins nesting nodes own front more same is = (more, nodes, subst (λ (ts : List Token). SpellsWholeTerm limits Constant nesting nodes ts) same is)

  pub not_both : (a : Bool) {G : Type 0} → a ≡ true → a ≡ false → G
  not_both a p q = absurd cc

  -- a viable prefix of a formula, without a token of formulas alone, is one of a term
  pub term_instead : {standing : Standing} {level : Level} {nesting start : ℕ} {nodes : List RawFormula} {own : List Token} → SpellsFormula limits standing level nesting start nodes own
      → (front more b : List Token) (depth : ℕ) → own ≡ front ++ more → opens_formula depth (front ++ b) ≡ false → BeginsTerm nesting front
  term_instead (compares {nesting = nesting} {left = left} {front = own} {back = back} pred l r) front more b depth same unseen = by (cut own (Mark (comparison_mark pred) ∷ back) front more same)
    where
      by : Cut own (Mark (comparison_mark pred) ∷ back) front more → BeginsTerm nesting front
      by (longer t g p q) = term_begins nesting left own front (t ∷ g) p l
      by (shorter [] p q) = term_begins nesting left own front [] (sym (append-nil own) ∙ sym p ∙ sym (append-nil front)) l
      by (shorter (t ∷ g) p q) =
          let first : Mark (comparison_mark pred) ≡ t = let e = q in cc in
          let seen : opens_formula depth (own ++ (t ∷ g ++ b)) ≡ true = term_plain limits l depth (t ∷ g ++ b) ∙ subst (λ (u : Token). opens_formula depth (u ∷ g ++ b) ≡ true) first (says (Mark (comparison_mark pred)) depth (g ++ b) (comparison_says limits pred)) in
          not_both (opens_formula depth (front ++ b)) (rw (p, append_assoc own (t ∷ g) b) seen) unseen
  term_instead (tests {nesting = nesting} predicate is) [] more b depth same unseen = nothing_begins (suc nesting)
  term_instead (tests {nesting = nesting} predicate is) (t ∷ front) more b depth same unseen =
      let first : Word (Rattle.rule_terms.specs.FormulaKeywords.predicate_word predicate) ≡ t = let e = same in cc in
      not_both (opens_formula depth (t ∷ front ++ b)) (subst (λ (u : Token). opens_formula depth (u ∷ front ++ b) ≡ true) first (says _ depth (front ++ b) (predicate_says limits predicate))) unseen
  term_instead (one_use {nesting = nesting} le) [] more b depth same unseen = nothing_begins nesting
  term_instead (one_use {nesting = nesting} le) (t ∷ front) more b depth same unseen =
      let first : Word (codes "hasOneUse") ≡ t = let e = same in cc in
      not_both (opens_formula depth (t ∷ front ++ b)) (subst (λ (u : Token). opens_formula depth (u ∷ front ++ b) ≡ true) first (says (Word (codes "hasOneUse")) depth (front ++ b) refl)) unseen
  term_instead (masked {nesting = nesting} le is) [] more b depth same unseen = nothing_begins (suc nesting)
  term_instead (masked {nesting = nesting} le is) (t ∷ front) more b depth same unseen =
      let first : Fact facts.MaskedValueIsZero ≡ t = let e = same in cc in
      not_both (opens_formula depth (t ∷ front ++ b)) (subst (λ (u : Token). opens_formula depth (u ∷ front ++ b) ≡ true) first (says (Fact facts.MaskedValueIsZero) depth (front ++ b) refl)) unseen
  term_instead (non_zero {nesting = nesting} le) [] more b depth same unseen = nothing_begins nesting
  term_instead (non_zero {nesting = nesting} le) (t ∷ front) more b depth same unseen =
      let first : Fact facts.IsKnownNonZero ≡ t = let e = same in cc in
      not_both (opens_formula depth (t ∷ front ++ b)) (subst (λ (u : Token). opens_formula depth (u ∷ front ++ b) ≡ true) first (says (Fact facts.IsKnownNonZero) depth (front ++ b) refl)) unseen
  term_instead (turns {nesting = nesting} inside) [] more b depth same unseen = nothing_begins (suc nesting)
  term_instead (turns {nesting = nesting} inside) (t ∷ front) more b depth same unseen =
      let first : Mark (codes "!") ≡ t = let e = same in cc in
      not_both (opens_formula depth (t ∷ front ++ b)) (subst (λ (u : Token). opens_formula depth (u ∷ front ++ b) ≡ true) first (says (Mark (codes "!")) depth (front ++ b) refl)) unseen
  term_instead (encloses {nesting = nesting} inside) [] more b depth same unseen = nothing_begins (suc nesting)
  term_instead (encloses {nesting = nesting} {own = own} inside) (t ∷ front) more b depth same unseen =
      let first : Mark (codes "(") ≡ t = let e = same in cc in
      let rest : own ++ Mark (codes ")") ∷ [] ≡ front ++ more = let e = same in cc in
      let deeper : opens_formula (suc depth) (front ++ b) ≡ false = sym (opens_deeper depth (front ++ b)) ∙ subst (λ (u : Token). opens_formula depth (u ∷ front ++ b) ≡ false) (sym first) unseen in
      subst (λ (u : Token). BeginsTerm (suc nesting) (u ∷ front)) first
      (enclosed_begins nesting front
      (elim (cut own (Mark (codes ")") ∷ []) front more rest) as (λ _. BeginsTerm nesting front) [
        | longer u g p q ↦ term_instead inside front (u ∷ g) b (suc depth) p deeper
        | shorter g p q ↦ not_both (opens_formula (suc depth) (front ++ b)) (formula_seen inside front g b (suc depth) p) deeper
      ]))
  term_instead (member one) front more b depth same unseen = term_instead one front more b depth same unseen
  term_instead (members all) front more b depth same unseen = term_instead all front more b depth same unseen
  term_instead (both {nesting = nesting} {front = own} {back = back} l r) front more b depth same unseen =
      elim (cut own (Mark (codes "&&") ∷ back) front more same) as (λ _. BeginsTerm nesting front) [
        | longer u g p q ↦ term_instead l front (u ∷ g) b depth p unseen
        | shorter g p q ↦ not_both (opens_formula depth (front ++ b)) (formula_seen l front g b depth p) unseen
      ]
  term_instead (either {nesting = nesting} {front = own} {back = back} l r) front more b depth same unseen =
      elim (cut own (Mark (codes "||") ∷ back) front more same) as (λ _. BeginsTerm nesting front) [
        | longer u g p q ↦ term_instead l front (u ∷ g) b depth p unseen
        | shorter g p q ↦ not_both (opens_formula depth (front ++ b)) (formula_seen l front g b depth p) unseen
      ]

  -- ---- a term that a parenthesis begins

  -- behind the `(` come a term, one level of nesting further in, and `)`
  pub record Enclosed (nesting : ℕ) (tokens : List Token) : Type 0 where
    pub depth : ℕ
    pub nodes : List RawNode
    pub inside : List Token
    pub after : List Token
    pub deep : nesting ≡ suc depth
    pub is_inside : SpellsWholeTerm limits Constant depth nodes inside
    pub whole : tokens ≡ inside ++ Mark (codes ")") ∷ after

  enclosed_behind : (nesting : ℕ) (tokens more whole : List Token) → whole ≡ tokens ++ more → Enclosed nesting tokens → Enclosed nesting whole
  enclosed_behind nesting tokens more whole same e = record {
    depth = e.depth;
    nodes = e.nodes;
    inside = e.inside;
    after = e.after ++ more;
    deep = e.deep;
    is_inside = e.is_inside;
    whole = same ∙ ap (λ (ts : List Token). ts ++ more) e.whole ∙ append_assoc e.inside (Mark (codes ")") ∷ e.after) more;
  }

  no_leaf : (node : RawNode) (own tokens : List Token) → SpellsLeaf limits Constant node own → own ≡ Mark (codes "(") ∷ tokens → ⊥
  no_leaf (raw_nodes.Literal z) own tokens (text, value, is) same = let e = sym is ∙ same in absurd cc
  no_leaf (raw_nodes.Constant name) own tokens (c, le, is) same = let e = sym is ∙ same in absurd cc
  no_leaf (raw_nodes.Register name) own tokens (place, le, is) same = let e = sym is ∙ same in absurd cc
  no_leaf (raw_nodes.Choice k) own tokens (word, place, choice, le, is) same = let e = sym is ∙ same in absurd cc
  no_leaf (raw_nodes.Width name) own tokens is same = is
  no_leaf (raw_nodes.Unary function a) own tokens is same = is
  no_leaf (raw_nodes.Binary op a b) own tokens is same = is

  no_prefix : (function : Rattle.rule_core.specs.declared.rule.Function.Function) (mark : List ℕ) → IsPrefix function mark → mark ≡ codes "(" → ⊥
  no_prefix Negate mark is same = not_both (bytes_eq mark (codes "(")) (rw same refl) (rw is refl)
  no_prefix Not mark is same = not_both (bytes_eq mark (codes "(")) (rw same refl) (rw is refl)
  no_prefix Log2 mark is same = is
  no_prefix Abs mark is same = is

  joined_begins : (nesting : ℕ) (front : List Token) (operator : Token) (back : List Token) → 1 ≤ length front → ((rest : List Token) → front ≡ Mark (codes "(") ∷ rest → Enclosed nesting rest)
      → (tokens : List Token) → front ++ operator ∷ back ≡ Mark (codes "(") ∷ tokens → Enclosed nesting tokens
  joined_begins nesting [] operator back some of_front tokens same = absurd (omega arith)
  joined_begins nesting (t ∷ front) operator back some of_front tokens same =
      let first : t ≡ Mark (codes "(") = let e = same in cc in
      let rest : tokens ≡ front ++ operator ∷ back = let e = same in cc in
      enclosed_behind nesting front (operator ∷ back) tokens rest (of_front front (ap (λ (u : Token). u ∷ front) first))

  pub parenthesis_begins : {nesting start level : ℕ} {nodes : List RawNode} {own : List Token} → SpellsTerm limits Constant nesting start level nodes own → start ≡ 0 → (tokens : List Token) → own ≡ Mark (codes "(") ∷ tokens → Enclosed nesting tokens
  parenthesis_begins (leaf node own is) zero_start tokens same = absurd (no_leaf node own tokens is same)
  parenthesis_begins (width name le) zero_start tokens same = let e = same in absurd cc
  parenthesis_begins (parenthesised {nesting = nesting} {start = start} {nodes = nodes} {tokens = own} is) zero_start tokens same = record {
    depth = nesting;
    nodes = nodes;
    inside = own;
    after = [];
    deep = refl;
    is_inside = subst (λ (k : ℕ). SpellsTerm limits Constant nesting k loosest nodes own) zero_start is;
    whole = let e = same in cc;
  }
  parenthesis_begins (called function word calls is) zero_start tokens same = let e = same in absurd cc
  parenthesis_begins (prefixed function mark is_prefix is) zero_start tokens same = absurd (no_prefix function mark is_prefix (let e = same in cc))
  parenthesis_begins (tighter is) zero_start tokens same = parenthesis_begins is zero_start tokens same
  parenthesis_begins (joined {nesting = nesting} {front = front} {back = back} op of l r) zero_start tokens same =
      joined_begins nesting front (Mark (operator_mark op)) back (spells_some limits l) (λ rest is. parenthesis_begins l zero_start rest is) tokens same
