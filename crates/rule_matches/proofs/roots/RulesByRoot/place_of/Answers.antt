use Rattle.rule_matches.proofs.Common.{◌≡◌, rules, tests, IsFirst-from_position, YieldsList-from_slice, Group}
use Rattle.rule_matches.proofs.Groups.{found_some, found_none}
use Rattle.rule_matches.proofs.roots.RulesByRoot.place_of.Goals as goal

pub returns-clause-some : goal.returns-clause-some
returns-clause-some c =
    found_some c.args.self.now c.args.kind c.position.result
    (IsFirst-from_position _ _ c.position.result (λ (x : Group). x.kind ≡ c.args.kind) (λ (x : Group). ¬ (x.kind ≡ c.args.kind)) c.position.ensures.ran (YieldsList-from_slice c.args.self.now.groups.items cc)
    (λ x q k. search (rules, tests)) (λ x q k. search (rules, tests)))

pub returns-clause-none : goal.returns-clause-none
returns-clause-none c =
    found_none c.args.self.now c.args.kind c.position.result
    (IsFirst-from_position _ _ c.position.result (λ (x : Group). x.kind ≡ c.args.kind) (λ (x : Group). ¬ (x.kind ≡ c.args.kind)) c.position.ensures.ran (YieldsList-from_slice c.args.self.now.groups.items cc)
    (λ x q k. search (rules, tests)) (λ x q k. search (rules, tests)))
