-- A match stands on what is known of the operands that its binding gives for the registers of whose bits its rule says
-- something.
use Rattle.bindings.proofs.Common.{◌≡◌, ℕ, Some, refl, sym, ap, subst, ◌∙◌, Contains, Function, Operand, Known, place_in, IsBeforeRoot, IsRule, MayBeFormula, Formula, Name, Rule, AsksBitsOf, FactFollows, Knowledge, SaysOf, number_of_term, operand_for, MatchesWhere, Binding}
use Rattle.rule_core.specs.declared.rule.Formula.TheVariants as formulas

-- each operand that the second binding gives for such a register is there for one of the first, of which the same is
-- known
abbrev pub KnowsAsMuch : Rule → (Operand → Known) → (Operand → Known) → Binding → Binding → Type 0
KnowsAsMuch rule known known' m m' =
    (r : Name) (y : Operand) → AsksBitsOf rule r → operand_for m' r ≡ Some y → (x : Operand) × (operand_for m r ≡ Some x) × (known x ≡ known' y)

module _ (rule : Rule) (known known' : Operand → Known) (m m' : Binding) (numbers : (a : ℕ) → number_of_term rule m' a ≡ number_of_term rule m a)
    (as_much : KnowsAsMuch rule known known' m m') where
  pub facts_follow : (formula : Formula) → Contains rule.precondition formula → FactFollows known rule m formula → FactFollows known' rule m' formula
  facts_follow (formulas.MaskedValueIsZero r a) among follows = λ y at.
      let (x, at_x, same) = as_much r y (formulas.MaskedValueIsZero r a, among, refl) at in
      rw (numbers a, sym same) (follows x at_x)
  facts_follow (formulas.IsKnownNonZero r) among follows = λ y at none.
      let (x, at_x, same) = as_much r y (formulas.IsKnownNonZero r, among, refl) at in
      follows x at_x (ap (λ (k : Known). k.ones) same ∙ none)
  facts_follow (formulas.HasOneUse j) among follows = tt
  facts_follow (formulas.Compare pred a b) among follows = tt
  facts_follow (formulas.IsPowerOfTwo a) among follows = tt
  facts_follow (formulas.IsSignBit a) among follows = tt
  facts_follow (formulas.Not a) among follows = tt
  facts_follow (formulas.And a b) among follows = tt
  facts_follow (formulas.Or a b) among follows = tt

-- where as much is known, a match stays one
pub known_too : {Before : ℕ → ℕ → ℕ → ℕ → Type 0} {known : Knowledge} (known' : Knowledge) (f : Function) (b k : ℕ) (rule : Rule) (m : Binding)
    → ((r : Name) (x : Operand) → AsksBitsOf rule r → operand_for m r ≡ Some x → known b k x ≡ known' b k x) → MatchesWhere Before known f b k rule m → MatchesWhere Before known' f b k rule m
known_too {known = known} known' f b k rule m as_much is = record {
  block = is.block;
  place = is.place;
  reached = is.reached;
  statement_count = is.statement_count;
  statements = is.statements;
  before = is.before;
  input_count = is.input_count;
  no_undef = is.no_undef;
  constant_count = is.constant_count;
  typing = is.typing;
  precondition = is.precondition;
  one_use = is.one_use;
  facts = λ formula among. facts_follow rule (known b k) (known' b k) m m (λ a. refl) (λ r x asks at. (x, at, as_much r x asks at)) formula among (is.facts formula among);
}

-- the rule asks it of inputs and of temporaries alone
asked_of : (rule : Rule) (n : ℕ) (r : Name) (formula : Formula) → MayBeFormula rule n formula → SaysOf r formula → IsBeforeRoot rule r
asked_of rule n r (formulas.MaskedValueIsZero q a) may is = subst (IsBeforeRoot rule) is may.0
asked_of rule n r (formulas.IsKnownNonZero q) may is = subst (IsBeforeRoot rule) is may
asked_of rule n r (formulas.HasOneUse j) may is = absurd is
asked_of rule n r (formulas.Compare pred a b) may is = absurd is
asked_of rule n r (formulas.IsPowerOfTwo a) may is = absurd is
asked_of rule n r (formulas.IsSignBit a) may is = absurd is
asked_of rule n r (formulas.Not a) may is = absurd is
asked_of rule n r (formulas.And a b) may is = absurd is
asked_of rule n r (formulas.Or a b) may is = absurd is

pub asked_before_root : (rule : Rule) (r : Name) → IsRule rule → AsksBitsOf rule r → IsBeforeRoot rule r
asked_before_root rule r good (formula, among, is) =
    let (n, at) = place_in rule.precondition formula among in
    asked_of rule n r formula (good.precondition n formula at) is
