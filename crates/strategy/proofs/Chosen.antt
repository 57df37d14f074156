-- The rule of a match, read from the list of rules.
use Rattle.strategy.proofs.Common.{◌≡◌, ℕ, Bool, true, false, not, List, refl, get_or, sym, subst, ◌∙◌, get_or_from_slice_get, MatchesWhere, IsRule, Rule, HasNoFault, Knowledge, MatchesAmong, AreReady, Match, Function}

-- the rule that is read is the one that the match is of
pub rule_there : {Before : ℕ → ℕ → ℕ → ℕ → Type 0} {known : Knowledge} (rules : List Rule) (f : Function) (m : Match) (read : Rule) (is : MatchesAmong Before known rules f m) → read ≡ get_or rules m.rule read → is.rule ≡ read
rule_there rules f m read is from = sym (from ∙ get_or_from_slice_get rules m.rule is.rule read is.is_rule)

-- that rule is ready
pub ready_there : {Before : ℕ → ℕ → ℕ → ℕ → Type 0} {known : Knowledge} (rules : List Rule) (f : Function) (m : Match) (read : Rule) → AreReady rules → MatchesAmong Before known rules f m → read ≡ get_or rules m.rule read
    → IsRule read × HasNoFault read × MatchesWhere Before known f m.binding.block m.binding.place read m.binding
ready_there {Before} {known} rules f m read ready is from =
    let same = rule_there rules f m read is from in
    let good = ready m.rule is.rule is.is_rule in
    (subst IsRule same good.checks, subst HasNoFault same good.typed, subst (λ (r : Rule). MatchesWhere Before known f m.binding.block m.binding.place r m.binding) same is.matches)

pub is_true : (b : Bool) → not b ≡ false → b ≡ true
is_true true e = refl
is_true false e = sym e
