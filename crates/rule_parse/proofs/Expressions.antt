-- The expressions of `Wit:`: the parser reads them exactly as the grammar spells them.
use Rattle.rule_parse.proofs.Common.{◌≡◌, ℕ, zero, suc, ◌≤◌, true, false, List, [], ◌∷◌, ◌++◌, length, drop, Ok, refl, sym, ap, ◌∙◌, ⊎_elim, append_assoc, length-append, arith, codes, append-nil, ◌>>=◌, line_end, Token, Line, Mark, EndsLine, line_end-of, done, bind_ok, bound, read_as, chosen, Takes, line_end-is, Witness, RawNode, next_is, chain_of, EndsTerm, term_at, operator_in, Shortens, next_is-is, SpellsExpression, SpellsMoreExpressions, SpellsExpressions, expression_at, more_expressions, expressions_at, term_at-is, term_at-of, Limits}
use Rattle.rule_parse.proofs.OpSpellings.{line_ends_term}

module _ (limits : Limits) where
  -- one expression is added to those before
  record TakesOne (before : List (List RawNode)) (tokens : List Token) (x : List (List RawNode) × List Token) : Type 0 where
    nodes : List RawNode
    taken : Takes (SpellsExpression limits nodes) tokens x.1
    made : x.0 ≡ before ++ nodes ∷ []

  expression_at-is : (line : ℕ) (before : List (List RawNode)) (tokens : List Token) (x : List (List RawNode) × List Token) → expression_at limits line before tokens ≡ Ok x → TakesOne before tokens x
  expression_at-is line before tokens x e =
      let t = bind_ok (term_at limits Witness limits.nested line tokens) _ _ e in
      let s = term_at-is limits Witness limits.nested line tokens t.0 t.1 in
      read_as (TakesOne before tokens) (before ++ t.0.0 ∷ [], t.0.1) x t.2
      (record { nodes = t.0.0; taken = record { own = s.own; is_own = s.is_own; whole = s.whole }; made = refl })

  pub expression_shortens : (line : ℕ) → Shortens (expression_at limits line)
  expression_shortens line before tokens x e =
      let one = expression_at-is line before tokens x e in
      omega (arith, ap length one.taken.whole, length-append one.taken.own x.1)

  -- more expressions are added to those before
  record TakesMore (before : List (List RawNode)) (tokens : List Token) (x : List (List RawNode) × List Token) : Type 0 where
    more : List (List RawNode)
    taken : Takes (SpellsMoreExpressions limits more) tokens x.1
    made : x.0 ≡ before ++ more

  none_more : (before : List (List RawNode)) (tokens : List Token) → TakesMore before tokens (before, tokens)
  none_more before tokens = record { more = []; taken = record { own = []; is_own = refl; whole = refl }; made = sym (append-nil before) }

  one_more : (before : List (List RawNode)) (tokens : List Token) (y x : List (List RawNode) × List Token) → tokens ≡ Mark (codes ",") ∷ drop 1 tokens → TakesOne before (drop 1 tokens) y → TakesMore y.0 y.1 x → TakesMore before tokens x
  one_more before tokens y x next one more = record {
    more = one.nodes ∷ more.more;
    taken = record {
      own = Mark (codes ",") ∷ one.taken.own ++ more.taken.own;
      is_own = (one.taken.own, more.taken.own, one.taken.is_own, more.taken.is_own, refl);
      whole = next ∙ ap (λ (ts : List Token). Mark (codes ",") ∷ ts) (one.taken.whole ∙ ap (λ (ts : List Token). one.taken.own ++ ts) more.taken.whole ∙ sym (append_assoc one.taken.own more.taken.own x.1));
    };
    made = more.made ∙ ap (λ (ns : List (List RawNode)). ns ++ more.more) one.made ∙ append_assoc before (one.nodes ∷ []) more.more;
  }

  more-is : (n line : ℕ) (before : List (List RawNode)) (tokens : List Token) (x : List (List RawNode) × List Token) → chain_of n (codes ",") (expression_at limits line) before tokens ≡ Ok x → TakesMore before tokens x
  unfolding chain_of
  more-is zero line before tokens x e = read_as (TakesMore before tokens) (before, tokens) x e (none_more before tokens)
  more-is (suc n) line before tokens x e = ⊎_elim
      (λ (h : (next_is (codes ",") tokens ≡ true) × ((expression_at limits line before (drop 1 tokens) >>= λ y. chain_of n (codes ",") (expression_at limits line) y.0 y.1) ≡ Ok x)).
      bound (expression_at limits line before (drop 1 tokens)) _ _ h.1 (λ y p q.
      one_more before tokens y x (next_is-is (codes ",") tokens h.0) (expression_at-is line before (drop 1 tokens) y p) (more-is n line y.0 y.1 x q)))
      (λ (h : (next_is (codes ",") tokens ≡ false) × (done (before, tokens) ≡ Ok x)). read_as (TakesMore before tokens) (before, tokens) x h.1 (none_more before tokens))
      (chosen (next_is (codes ",") tokens) (expression_at limits line before (drop 1 tokens) >>= λ y. chain_of n (codes ",") (expression_at limits line) y.0 y.1) (done (before, tokens)) (Ok x) e)

  -- the first one and those behind it
  first_and_more : (tokens : List Token) (first all : List (List RawNode) × List Token) (rest : List Token) → TakesOne [] tokens first → TakesMore first.0 first.1 all → all.1 ≡ rest → Takes (SpellsExpressions limits all.0) tokens rest
  first_and_more tokens first all rest one more ends =
      rw (more.made ∙ ap (λ (ns : List (List RawNode)). ns ++ more.more) one.made)
      (record {
        own = one.taken.own ++ more.taken.own;
        is_own = (one.taken.own, more.taken.own, one.taken.is_own, more.taken.is_own, refl);
        whole = one.taken.whole ∙ ap (λ (ts : List Token). one.taken.own ++ ts) (more.taken.whole ∙ ap (λ (ts : List Token). more.taken.own ++ ts) ends) ∙ sym (append_assoc one.taken.own more.taken.own rest);
      })

  pub expressions_at-is : (line : ℕ) (tokens : List Token) (x : List (List RawNode) × List Token) → expressions_at limits line tokens ≡ Ok x → Takes (SpellsExpressions limits x.0) tokens x.1
  unfolding expressions_at
  expressions_at-is line tokens x e =
      bound (expression_at limits line [] tokens) _ _ e (λ first p e1.
      bound (more_expressions limits line first.0 first.1) _ _ e1 (λ all q e2.
      bound (line_end line all.1) _ _ e2 (λ rest ends e3.
      read_as (λ (y : List (List RawNode) × List Token). Takes (SpellsExpressions limits y.0) tokens y.1) (all.0, rest) x e3
      (first_and_more tokens first all rest (expression_at-is line [] tokens first p) (more-is (length first.1) line first.0 first.1 all q) (line_end-is line all.1 rest ends)))))

  -- ---- what is spelled is read

  more_ends : (more : List (List RawNode)) (own rest : List Token) → SpellsMoreExpressions limits more own → EndsLine rest → EndsTerm (own ++ rest)
  unfolding operator_in
  more_ends [] own rest is ends = rw is (line_ends_term limits rest ends)
  more_ends (nodes ∷ more) own rest (o, r, one, others, whole) ends = rw whole refl

  no_comma : (rest : List Token) → EndsLine rest → next_is (codes ",") rest ≡ false
  no_comma [] ends = refl
  no_comma (Line next ∷ rest) ends = refl
  no_comma tokens ends = absurd ends

  expression_at-of : (line : ℕ) (before : List (List RawNode)) (nodes : List RawNode) (own rest : List Token) → SpellsExpression limits nodes own → EndsTerm rest → expression_at limits line before (own ++ rest) ≡ Ok (before ++ nodes ∷ [], rest)
  expression_at-of line before nodes own rest is ends = rw (term_at-of limits Witness limits.nested line nodes own rest is ends) refl

  more-of : (n line : ℕ) (before more : List (List RawNode)) (own rest : List Token) → SpellsMoreExpressions limits more own → EndsLine rest → length own ≤ n → chain_of n (codes ",") (expression_at limits line) before (own ++ rest) ≡ Ok (before ++ more, rest)
  unfolding chain_of
  more-of zero line before [] own rest is ends le = rw is (ap (λ (ns : List (List RawNode)). Ok (ns, rest)) (sym (append-nil before)))
  more-of (suc n) line before [] own rest is ends le = rw (is, no_comma rest ends) (ap (λ (ns : List (List RawNode)). Ok (ns, rest)) (sym (append-nil before)))
  more-of zero line before (nodes ∷ more) own rest (o, r, one, others, whole) ends le = absurd (omega (arith, ap length whole))
  more-of (suc n) line before (nodes ∷ more) own rest (o, r, one, others, whole) ends le =
      let read = expression_at-of line before nodes o (r ++ rest) one (more_ends more r rest others ends) in
      let next = more-of n line (before ++ nodes ∷ []) more r rest others ends (omega (arith, ap length whole, length-append o r)) in
      rw (whole, append_assoc o r rest, read, next) (ap (λ (ns : List (List RawNode)). Ok (ns, rest)) (append_assoc before (nodes ∷ []) more))

  pub expressions_at-of : (line : ℕ) (all : List (List RawNode)) (own rest : List Token) → SpellsExpressions limits all own → EndsLine rest → expressions_at limits line (own ++ rest) ≡ Ok (all, rest)
  unfolding expressions_at
  expressions_at-of line [] own rest is ends = absurd is
  expressions_at-of line (nodes ∷ more) own rest (o, r, one, others, whole) ends =
      let read = expression_at-of line [] nodes o (r ++ rest) one (more_ends more r rest others ends) in
      let next = more-of (length (r ++ rest)) line (nodes ∷ []) more r rest others ends (omega (arith, length-append r rest)) in
      rw (whole, append_assoc o r rest, read, next, line_end-of line rest ends) refl
