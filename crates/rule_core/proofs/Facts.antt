-- What is said of bits holds where it does node by node.
use Rattle.rule_core.proofs.Common.{◌≡◌, ℕ, ◌&&◌, List, [], ◌∷◌, refl, ap, ◌∙◌, Contains, IsTrue, Contains-append_right, Formula, fact_holds, facts_hold, Held}
use Rattle.rule_core.proofs.Members.{Contains-from_get}

pub each_said : (held : Held) (numbers : List ℕ) (precondition : List Formula) → ((formula : Formula) → Contains precondition formula → IsTrue (fact_holds held numbers formula)) → IsTrue (facts_hold held numbers precondition)
each_said held numbers [] each = refl
each_said held numbers (formula ∷ precondition) each =
    ap (λ b. b && facts_hold held numbers precondition) (each formula (Contains-from_get (formula ∷ precondition) 0 formula refl))
    ∙ each_said held numbers precondition (λ f among. each f (Contains-append_right (formula ∷ []) precondition f among))
