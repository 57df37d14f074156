use Rattle.rule_matches.proofs.Common.{◌≡◌, ◌∙◌, sym, subst, ap, ℕ, List, get_or_from_slice_get, Group, RootKind, AreCandidates, AreOfKind}
use Rattle.rule_matches.proofs.Groups.{of_kind, no_group}
use Rattle.rule_matches.proofs.roots.RulesByRoot.at.Goals as goal

pub returns-in-Some-place_of : goal.returns-in-Some-place_of
returns-in-Some-place_of c rules are =
    let (group, at, named) = c.in-Some-place_of.ensures.some in
    let read : c.index.result.now ≡ group = c.index.ensures ∙ get_or_from_slice_get c.args.self.now.groups.items c.in-Some-place_of.group group c.index.result.now at in
    subst (λ (places : List ℕ). AreCandidates rules c.args.op.now places) (ap (λ (g : Group). g.rules.items) (sym read) ∙ sym c.as_slice.ensures.value)
    (of_kind rules c.args.op.now c.in-Some.kind group.rules.items (sym c.kind_of_inst.ensures ∙ c.in-Some.is)
    (subst (λ (k : RootKind). AreOfKind rules k group.rules.items) named (are.each c.in-Some-place_of.group group at)))

pub returns-in-None : goal.returns-in-None
returns-in-None c rules are =
    no_group rules c.args.op.now c.in-Some.kind c.args.self.now (sym c.kind_of_inst.ensures ∙ c.in-Some.is) are c.in-None.ensures.none
