-- Matches without regard to the order of instructions are matches in a function that meets its checks, where the same
-- is known at the instruction.
use Rattle.matcher.proofs.Common.{◌≡◌, ℕ, Bool, Option, None, Some, sym, Ok, Err, IfOk, IfSome, IfNone, Result, MeetsChecks, Function, Operand, IsRule, Rule, IsMatch, Knowledge, MatchesInAnyOrder, known_in, known_too, Binding, in_any_order, TemporariesStandBefore}

module _ (across : Bool) (known : Knowledge) (f : Function) (b k : ℕ) (same : (x : Operand) → known b k x ≡ known_in f b k x) where
  module _ (stand_before : TemporariesStandBefore) (rule : Rule) (checks : MeetsChecks f) (good : IsRule rule) where
    pub found_in_order : {E : Type 0} (r : Result (Option Binding) E) → IfOk r (λ found. IfSome found (MatchesInAnyOrder across known f b k rule)) → IfOk r (λ found. IfSome found (IsMatch across f b k rule))
    found_in_order (Ok (Some m)) is = stand_before across f b k rule m checks good (known_too (known_in f) f b k rule m (λ r x asks at. same x) is)
    found_in_order (Ok None) is = tt
    found_in_order (Err e) is = tt

  pub none_in_order : {E : Type 0} (rule : Rule) (r : Result (Option Binding) E)
      → IfOk r (λ found. IfNone found ((m : Binding) → ¬ MatchesInAnyOrder across known f b k rule m)) → IfOk r (λ found. IfNone found ((m : Binding) → ¬ IsMatch across f b k rule m))
  none_in_order rule (Ok (Some m)) none = tt
  none_in_order rule (Ok None) none = λ m is. none m (known_too known f b k rule m (λ r x asks at. sym (same x)) (in_any_order across f b k rule m is))
  none_in_order rule (Err e) none = tt
