-- No binary operator is next behind a term that was read.
use Rattle.rule_terms.proofs.Common.{◌≡◌, ℕ, zero, suc, ◌<◌, List, ◌∷◌, length, Option, Some, None, Ok, refl, sym, ap, subst, ⊎_elim, ◌⊎◌, arith, eq-eqb, ne_eqb, Opcode, Token, Mark, bound, read_as, TermPlace, RawNode, EndsTerm, TermsAreReadAsSpelled, of_level, operator_at, join, joined_or_end, behind_at, operand_at, primary_at, term_at, operator_in, level_of, loosest, Limits}
use Rattle.rule_terms.specs.TermReaders.{Reader, chain_at}
use Rattle.rule_terms.proofs.Chains.{Shortens}
use Rattle.rule_terms.proofs.Meanings.{operator_level, operator_at-is}
use Rattle.rule_terms.proofs.Readings.{operand_shorter}
use Rattle.rule_terms.proofs.Spellings.{term_at-is, term_at-of}

module _ (limits : Limits) where
  -- no operator of a level below this one is next
  abbrev NoneBelow : ℕ → List Token → Type 0
  NoneBelow level rest = (k : ℕ) → k < level → operator_at k rest ≡ None

  none_more : (level : ℕ) (rest : List Token) → NoneBelow level rest → operator_at level rest ≡ None → NoneBelow (suc level) rest
  none_more level rest below here k lt = ⊎_elim
      (λ (less : k < level). below k less)
      (λ (same : k ≡ level). subst (λ (n : ℕ). operator_at n rest ≡ None) (sym same) here)
      (below_or_same k level lt)
    where
      below_or_same : (a b : ℕ) → a < suc b → (a < b) ⊎ (a ≡ b)
      below_or_same a b lt = grind arith

  -- no operator has level 0
  none_at_0 : (rest : List Token) → operator_at 0 rest ≡ None
  unfolding operator_at
  none_at_0 (Mark mark ∷ rest) = none (operator_in mark) refl
    where
      none : (found : Option Opcode) → operator_in mark ≡ found → of_level 0 found rest ≡ None
      none None f = refl
      none (Some op) f = rw (ne_eqb (level_of op) 0 (λ e. omega (arith, e, (operator_level mark op f).0))) refl
  none_at_0 rest = refl

  -- what holds behind each operand holds behind the chain; and no operator of its level is next there
  further : (operand others : Reader) (level : ℕ) (left : List RawNode) (tokens : List Token) (x : List RawNode × List Token) → ((before : List RawNode) (ts : List Token) (y : List RawNode × List Token) → operand before ts ≡ Ok y → NoneBelow level y.1) → Shortens limits operand → NoneBelow level tokens
      → (found : Option (Opcode × List Token)) → operator_at level tokens ≡ found → joined_or_end operand others left tokens found ≡ Ok x → ((ls : List RawNode) (ts : List Token) → length ts < length tokens → NoneBelow level ts → others ls ts ≡ Ok x → NoneBelow (suc level) x.1) → NoneBelow (suc level) x.1
  further operand others level left tokens x ends short below None f e more = read_as (λ (y : List RawNode × List Token). NoneBelow (suc level) y.1) (left, tokens) x e (none_more level tokens below f)
  further operand others level left tokens x ends short below (Some next) f e more =
      bound (operand left next.1) _ _ e (λ both p e1.
      let fewer : length both.1 < length next.1 = short left next.1 both p in
      more (join next.0 left both.0) both.1 (omega (arith, ap length (operator_at-is level tokens next f).whole)) (ends left next.1 both p) e1)

  chain_ends : (operand : Reader) (level n : ℕ) (left : List RawNode) (tokens : List Token) (x : List RawNode × List Token) → ((before : List RawNode) (ts : List Token) (y : List RawNode × List Token) → operand before ts ≡ Ok y → NoneBelow level y.1) → Shortens limits operand → NoneBelow level tokens → length tokens < n
      → chain_at operand level n left tokens ≡ Ok x → NoneBelow (suc level) x.1
  unfolding chain_at
  chain_ends operand level zero left tokens x ends short below lt e = absurd (omega arith)
  chain_ends operand level (suc n) left tokens x ends short below lt e =
      further operand (λ ls ts. chain_at operand level n ls ts) level left tokens x ends short below (operator_at level tokens) refl e
      (λ ls ts fewer none e1. chain_ends operand level n ls ts x ends short none (omega arith) e1)

  behind_ends : (place : TermPlace) (line nesting level : ℕ) (left : List RawNode) (tokens : List Token) (x : List RawNode × List Token) → behind_at (primary_at limits place line nesting) level left tokens ≡ Ok x → NoneBelow (suc level) x.1
  unfolding behind_at
  behind_ends place line nesting zero left tokens x e = none_more 0 x.1 (λ k lt. absurd (omega arith)) (none_at_0 x.1)
  behind_ends place line nesting (suc level) left tokens x e =
      bound (behind_at (primary_at limits place line nesting) level left tokens) _ _ e (λ first p e1.
      chain_ends (operand_at (primary_at limits place line nesting) level) (suc level) _ first.0 first.1 x
      (λ before ts y q. bound (primary_at limits place line nesting before ts) _ _ q (λ z r q1. behind_ends place line nesting level z.0 z.1 y q1))
      (operand_shorter limits place line nesting level) (behind_ends place line nesting level left tokens first p) (omega arith) e1)

  ends_term : (rest : List Token) → NoneBelow 7 rest → EndsTerm rest
  unfolding operator_at
  ends_term (Mark mark ∷ rest) none = ended (operator_in mark) refl
    where
      ended : (found : Option Opcode) → operator_in mark ≡ found → found ≡ None
      ended None f = refl
      ended (Some op) f =
          let here : operator_at (level_of op) (Mark mark ∷ rest) ≡ Some (op, rest) = rw (f, eq-eqb (level_of op) (level_of op) refl) refl in
          let nothing : operator_at (level_of op) (Mark mark ∷ rest) ≡ None = none (level_of op) (operator_level mark op f).1 in
          absurd cc
  ends_term rest none = tt

  pub term_at-ends : (place : TermPlace) (nesting line : ℕ) (tokens : List Token) (x : List RawNode × List Token) → term_at limits place nesting line tokens ≡ Ok x → EndsTerm x.1
  unfolding term_at
  term_at-ends place nesting line tokens x e =
      bound (primary_at limits place line nesting _ tokens) _ _ e (λ y p e1. ends_term x.1 (behind_ends place line nesting loosest y.0 y.1 x e1))

pub terms_are_read : TermsAreReadAsSpelled
terms_are_read = λ limits place nesting line tokens nodes rest. (
  λ e. let t = term_at-is limits place nesting line tokens (nodes, rest) e in (t.own, t.is_own, term_at-ends limits place nesting line tokens (nodes, rest) e, t.whole),
  λ s. subst (λ (ts : List Token). term_at limits place nesting line ts ≡ Ok (nodes, rest)) (sym s.3) (term_at-of limits place nesting line nodes s.0 rest s.1 s.2),
)
