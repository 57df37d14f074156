-- The first line on which something is unbound is that of `Pre:`, of `Wit:`, or the first one of the source, or of the
-- target.
use Rattle.rule_reader.proofs.Common.{◌≡◌, ◌⊎◌, inl, inr, ℕ, ◌≤◌, List, Option, None, Some, refl, sym, ap, subst, ◌∙◌, arith, slice_get, same_Some, RawRule, RawStatement, RawPrecondition, RawWitness, IsWellFormed, Each, FormulaIsBound, TermIsBound, StandsAt, StatementUnbound, PreconditionUnbound, WitnessUnbound, UnboundAt, HasUndefInside, ReadsUndefAlone, UndefInsideAt, IsFirst, IsFirstLine}
use Rattle.rule_reader.specs.declared.place.UseSite.TheVariants as places
use Rattle.rule_reader.proofs.Places.{there}
use Rattle.rule_reader.proofs.Firsts.{first_left, first_right, first_none_of, lines_before}

module _ (raw : RawRule) (well : IsWellFormed raw) where
  abbrev pub InSource : ℕ → Type 0
  InSource = StandsAt raw.source (StatementUnbound raw (λ k. places.Source k))

  abbrev pub InTarget : ℕ → Type 0
  InTarget = StandsAt raw.target (StatementUnbound raw (λ k. places.Target k))

  abbrev InStatements : ℕ → Type 0
  InStatements line = InSource line ⊎ InTarget line

  abbrev BehindPrecondition : ℕ → Type 0
  BehindPrecondition line = WitnessUnbound raw line ⊎ InStatements line

  source_target : (l m : ℕ) → InSource l → InTarget m → l ≤ m
  source_target = lines_before raw.source raw.target (StatementUnbound raw (λ k. places.Source k)) (StatementUnbound raw (λ k. places.Target k)) well.source_first

  -- a line that is not behind the source's is not behind that of any statement
  before_statements : (l : ℕ) → ((k : ℕ) (s : RawStatement) → slice_get raw.source k ≡ Some s → l ≤ s.line) → (m : ℕ) → InStatements m → l ≤ m
  before_statements l first m (inl (k, s, at, not, is)) = let le : l ≤ s.line = first k s at in omega (arith, is)
  before_statements l first m (inr (k, t, at, not, is)) =
      let (s, at') = there raw.source 0 well.source.some in
      let le : l ≤ s.line = first 0 s at' in
      let le' : s.line ≤ t.line = well.source_first 0 k s t at' at in
      omega (arith, is)

  witness_before : (l m : ℕ) → WitnessUnbound raw l → InStatements m → l ≤ m
  witness_before l m (w, is, not, e) stands = before_statements l (λ k s at. let le : w.line ≤ s.line = well.witness_first w k s is at in omega (arith, e)) m stands

  precondition_before : (l m : ℕ) → PreconditionUnbound raw l → BehindPrecondition m → l ≤ m
  precondition_before l m (p, is, not, e) (inl (w, is', not', e')) = let le : p.line ≤ w.line = well.precondition_before p w is is' in omega (arith, e, e')
  precondition_before l m (p, is, not, e) (inr stands) = before_statements l (λ k s at. let le : p.line ≤ s.line = well.precondition_first p k s is at in omega (arith, e)) m stands

  pub in_precondition : (line : ℕ) → IsFirstLine (PreconditionUnbound raw) line → IsFirstLine (UnboundAt raw) line
  in_precondition line first = first_left (PreconditionUnbound raw) BehindPrecondition line first precondition_before

  pub in_witness : (line : ℕ) → ((l : ℕ) → ¬ PreconditionUnbound raw l) → IsFirstLine (WitnessUnbound raw) line → IsFirstLine (UnboundAt raw) line
  in_witness line none first = first_right (PreconditionUnbound raw) BehindPrecondition line none (first_left (WitnessUnbound raw) InStatements line first witness_before)

  pub in_source : (line : ℕ) → ((l : ℕ) → ¬ PreconditionUnbound raw l) → ((l : ℕ) → ¬ WitnessUnbound raw l) → IsFirstLine InSource line → IsFirstLine (UnboundAt raw) line
  in_source line none none' first = first_right (PreconditionUnbound raw) BehindPrecondition line none (first_right (WitnessUnbound raw) InStatements line none' (first_left InSource InTarget line first source_target))

  pub in_target : (found : Option ℕ) → ((l : ℕ) → ¬ PreconditionUnbound raw l) → ((l : ℕ) → ¬ WitnessUnbound raw l) → ((l : ℕ) → ¬ InSource l) → IsFirst InTarget found → IsFirst (UnboundAt raw) found
  in_target (Some line) none none' none'' first = first_right (PreconditionUnbound raw) BehindPrecondition line none (first_right (WitnessUnbound raw) InStatements line none' (first_right InSource InTarget line none'' first))
  in_target None none none' none'' none''' = first_none_of (PreconditionUnbound raw) BehindPrecondition none (first_none_of (WitnessUnbound raw) InStatements none' (first_none_of InSource InTarget none'' none'''))

  -- ---- `undef`s and freezes

  abbrev pub Inside : ℕ → Type 0
  Inside = StandsAt raw.source (HasUndefInside raw.source)

  abbrev pub Alone : ℕ → Type 0
  Alone = StandsAt raw.target (λ k s. ReadsUndefAlone s.op)

  pub inside_source : (half : List RawStatement) (line : ℕ) → half ≡ raw.source → IsFirstLine (StandsAt half (HasUndefInside half)) line → IsFirstLine (UndefInsideAt raw) line
  inside_source half line is first =
      first_left Inside Alone line (subst (λ ss. IsFirstLine (StandsAt ss (HasUndefInside ss)) line) is first) (lines_before raw.source raw.target (HasUndefInside raw.source) (λ k s. ReadsUndefAlone s.op) well.source_first)

  rest : (found : Option ℕ) → ((l : ℕ) → ¬ Inside l) → IsFirst Alone found → IsFirst (UndefInsideAt raw) found
  rest (Some line) none first = first_right Inside Alone line none first
  rest None none none' = first_none_of Inside Alone none none'

  pub alone_target : (half other : List RawStatement) (found : Option ℕ) → half ≡ raw.source → other ≡ raw.target → ((line : ℕ) → ¬ StandsAt half (HasUndefInside half) line) → IsFirst (StandsAt other (λ k s. ReadsUndefAlone s.op)) found → IsFirst (UndefInsideAt raw) found
  alone_target half other found is is' none first = rest found (subst (λ ss. (line : ℕ) → ¬ StandsAt ss (HasUndefInside ss) line) is none) (subst (λ ss. IsFirst (StandsAt ss (λ k s. ReadsUndefAlone s.op)) found) is' first)

-- there is one `Pre:`, so its line is the first where it names what is unbound
pub one_precondition : (raw : RawRule) (p : RawPrecondition) → raw.precondition ≡ Some p → ¬ Each (FormulaIsBound raw) p.formula → IsFirstLine (PreconditionUnbound raw) p.line
one_precondition raw p is not = (
  (p, is, not, refl),
  λ other (q, is', not', e). let same : p ≡ q = same_Some p q (sym is ∙ is') in let lines : p.line ≡ q.line = ap (λ (x : RawPrecondition). x.line) same in omega (arith, e),
)

pub bound_precondition : (raw : RawRule) (p : RawPrecondition) → raw.precondition ≡ Some p → Each (FormulaIsBound raw) p.formula → (line : ℕ) → ¬ PreconditionUnbound raw line
bound_precondition raw p is each line (q, is', not, e) = not (subst (λ (x : RawPrecondition). Each (FormulaIsBound raw) x.formula) (same_Some p q (sym is ∙ is')) each)

pub one_witness : (raw : RawRule) (w : RawWitness) → raw.witness ≡ Some w → ¬ Each (TermIsBound raw places.Heading) w.expressions → IsFirstLine (WitnessUnbound raw) w.line
one_witness raw w is not = (
  (w, is, not, refl),
  λ other (q, is', not', e). let same : w ≡ q = same_Some w q (sym is ∙ is') in let lines : w.line ≡ q.line = ap (λ (x : RawWitness). x.line) same in omega (arith, e),
)

pub bound_witness : (raw : RawRule) (w : RawWitness) → raw.witness ≡ Some w → Each (TermIsBound raw places.Heading) w.expressions → (line : ℕ) → ¬ WitnessUnbound raw line
bound_witness raw w is each line (q, is', not, e) = not (subst (λ (x : RawWitness). Each (TermIsBound raw places.Heading) x.expressions) (same_Some w q (sym is ∙ is')) each)
