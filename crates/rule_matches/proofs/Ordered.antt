-- Matches without regard to the order of instructions are matches in a function that meets its checks, where the same
-- is known at them.
use Rattle.rule_matches.proofs.Common.{◌≡◌, Bool, List, get_or, sym, Ok, Err, IfOk, Result, MeetsChecks, Function, Operand, Rule, AskBits, Knowledge, known_in, known_too, TemporariesStandBefore, Match, AreMatchesInAnyOrder, AreMatchesWhere, IsMatchAmong, IsMatchInAnyOrder, AreReady}
use Rattle.bindings.proofs.Roots as roots

module _ (across : Bool) (known : Knowledge) (rules : List Rule) (f : Function) (P : Match → Type 0)
    (same : AskBits rules → (m : Match) → P m → (x : Operand) → known m.binding.block m.binding.place x ≡ known_in f m.binding.block m.binding.place x) where
  pub in_any_order : (m : Match) → P m → IsMatchAmong across rules f m → IsMatchInAnyOrder across known rules f m
  in_any_order m p is = record {
    rule = is.rule;
    is_rule = is.is_rule;
    matches = known_too {known = known_in f} known f m.binding.block m.binding.place is.rule m.binding (λ r x asks at. sym (same (m.rule, is.rule, r, is.is_rule, asks) m p x))
        (roots.in_any_order across f m.binding.block m.binding.place is.rule m.binding is.matches);
  }

  module _ (stand_before : TemporariesStandBefore) (checks : MeetsChecks f) (ready : AreReady rules) where
    pub in_order : (m : Match) → P m → IsMatchInAnyOrder across known rules f m → IsMatchAmong across rules f m
    in_order m p is = record {
      rule = is.rule;
      is_rule = is.is_rule;
      matches = stand_before across f m.binding.block m.binding.place is.rule m.binding checks (ready m.rule is.rule is.is_rule).checks
          (known_too {known = known} (known_in f) f m.binding.block m.binding.place is.rule m.binding (λ r x asks at. same (m.rule, is.rule, r, is.is_rule, asks) m p x) is.matches);
    }

    pub are_in_order : (ms : List Match) → AreMatchesInAnyOrder across known rules f P ms → AreMatchesWhere across rules f P ms
    are_in_order ms are = record {
      each = λ k d lt. let h = are.each k d lt in (in_order (get_or ms k d) h.1 h.0, h.1);
      all = λ m is p. are.all m (in_any_order m p is) p;
      in_order = are.in_order;
    }

    pub found_in_order : {E : Type 0} (r : Result (List Match) E) → IfOk r (AreMatchesInAnyOrder across known rules f P) → IfOk r (AreMatchesWhere across rules f P)
    found_in_order (Ok ms) are = are_in_order ms are
    found_in_order (Err e) are = tt
