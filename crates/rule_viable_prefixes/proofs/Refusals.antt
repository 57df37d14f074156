-- The fault of a text as that of its tokens with the limit of nodes; and lists of tokens that are cut in two.
use Rattle.rule_viable_prefixes.proofs.Common.{◌≡◌, ℕ, List, [], ◌∷◌, ◌++◌, Err, refl, sym, ap, ◌∙◌, append_assoc, ◌⊎◌, inl, inr, arith, append-nil, OneTokenAtAPlace, Limits, RuleFault, Token, Excess, AreTokens, one_reading, RawRule, limited, SpellsFile, IsWithinLimit, all_rules, IsFaultWithin, kept_up_to_the_limit, of_back, file_of_text}

-- the fault of a text is that of these tokens
pub fault_of : (limits : Limits) → OneTokenAtAPlace → (text : List ℕ) (tokens : List Token) (last : ℕ) (found : RuleFault) → AreTokens text tokens last → IsFaultWithin limits text found → all_rules limits last (limited tokens) ≡ Err found
fault_of limits one text tokens last found are fault =
    let same = one_reading one text are (omega arith) fault.tokens fault.last fault.are_tokens in
    ap (λ (ts : List Token). all_rules limits last (limited ts)) same.0 ∙ ap (λ (l : ℕ). all_rules limits l (limited fault.tokens)) same.1 ∙ fault.found

-- where no rule passes the limit of nodes, all tokens are kept
pub kept_whole : (tokens : List Token) → IsWithinLimit tokens → limited tokens ≡ tokens
kept_whole tokens within = elim (kept_up_to_the_limit tokens) [
  | inl (also, same) ↦ same
  | inr c ↦ let few = within (c.front ++ c.token ∷ []) c.rest (c.whole ∙ sym (append_assoc c.front (c.token ∷ []) c.rest)) in absurd (omega (arith, few, c.passed))
]

-- tokens that spell rules have no `Excess`
pub no_mark : (limits : Limits) (front more : List Token) (rules : List RawRule) → SpellsFile limits rules (front ++ Excess ∷ more) → ⊥
no_mark limits front more rules is = (of_back front (Excess ∷ more) (file_of_text limits rules (front ++ Excess ∷ more) is)).0

-- of two cuts of one list, the first part of one is a prefix of that of the other
pub split : (xs ys vs ws : List Token) → xs ++ ys ≡ vs ++ ws
    → ((g : List Token) × (vs ≡ xs ++ g) × (ys ≡ g ++ ws)) ⊎ ((t : Token) × (g : List Token) × (xs ≡ vs ++ t ∷ g) × (ws ≡ t ∷ g ++ ys))
split [] ys vs ws e = inl (vs, refl, e)
split (x ∷ xs) ys [] ws e = inr (x, xs, refl, sym e)
split (x ∷ xs) ys (v ∷ vs) ws e =
    let first : x ≡ v = cc in
    let others : xs ++ ys ≡ vs ++ ws = cc in
    elim (split xs ys vs ws others) [
      | inl (g, p, q) ↦ inl (g, ap (λ (ts : List Token). v ∷ ts) p ∙ ap (λ (t : Token). t ∷ xs ++ g) (sym first), q)
      | inr (t, g, p, q) ↦ inr (t, g, ap (λ (u : Token). u ∷ xs) first ∙ ap (λ (ts : List Token). v ∷ ts) p, q)
    ]

-- the first token of which P does not hold is one
pub one_place : (P : List Token → Token → Type 0) (tokens f g : List Token) (t u : Token) (x y : List Token) → tokens ≡ f ++ t ∷ x → tokens ≡ g ++ u ∷ y
    → ((before : List Token) (earlier : Token) (more : List Token) → f ≡ before ++ earlier ∷ more → P before earlier) → ¬ P f t
    → ((before : List Token) (earlier : Token) (more : List Token) → g ≡ before ++ earlier ∷ more → P before earlier) → ¬ P g u → (f ≡ g) × (t ≡ u)
one_place P tokens f g t u x y p q all_f last_f all_g last_g = by (split f (t ∷ x) g (u ∷ y) (sym p ∙ q))
  where
    longer : (h : List Token) → g ≡ f ++ h → t ∷ x ≡ h ++ u ∷ y → (f ≡ g) × (t ≡ u)
    longer [] a b = (sym (a ∙ append-nil f), cc)
    longer (v ∷ h) a b = let first : v ≡ t = cc in absurd (last_f (all_g f t h (a ∙ ap (λ (w : Token). f ++ w ∷ h) first)))

    by : ((h : List Token) × (g ≡ f ++ h) × (t ∷ x ≡ h ++ u ∷ y)) ⊎ ((v : Token) × (h : List Token) × (f ≡ g ++ v ∷ h) × (u ∷ y ≡ v ∷ h ++ t ∷ x)) → (f ≡ g) × (t ≡ u)
    by (inl (h, a, b)) = longer h a b
    by (inr (v, h, a, b)) = let first : v ≡ u = cc in absurd (last_g (all_f g u h (a ∙ ap (λ (w : Token). g ++ w ∷ h) first)))
