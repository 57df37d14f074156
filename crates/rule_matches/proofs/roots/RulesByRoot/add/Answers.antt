use Rattle.rule_matches.proofs.Common.{◌≡◌, ◌∙◌, ◌++◌, ◌∷◌, [], List, ℕ, refl, sym, ap, arith, get_or_from_slice_get, slice_get_within, Group}
use Rattle.rule_matches.proofs.Grouping.{no_kind, grows, begins}
use Rattle.rule_matches.proofs.roots.RulesByRoot.add.Goals as goal

pub index_mut-requires : goal.index_mut-requires
index_mut-requires c =
    let (group, at, named) = c.in-Some-place_of.ensures.some in
    let within = slice_get_within c.args.self.now.groups.items c.in-Some-place_of.group group at in
    search (arith, within)

pub returns-in_default : goal.returns-in_default
returns-in_default c rules count are = no_kind rules c.args.rule.now c.args.self.now (sym c.kind_of_root.ensures ∙ c.in_default.is) are

pub returns-in_ok-push-in-Some-place_of : goal.returns-in_ok-push-in-Some-place_of
returns-in_ok-push-in-Some-place_of c rules count are =
    let (group, at, named) = c.in-Some-place_of.ensures.some in
    let read : c.index_mut.result.now ≡ group = c.index_mut.ensures.value ∙ get_or_from_slice_get c.args.self.now.groups.items c.in-Some-place_of.group group c.index_mut.result.now at in
    let items : c.push.new.self.items ≡ group.rules.items ++ c.args.count ∷ [] = c.in_ok-push-in-Some-place_of.ensures.items ∙ ap (λ (g : Group). g.rules.items ++ c.args.count ∷ []) read in
    grows rules c.args.rule.now c.args.self.now _ c.in-Some.kind (sym c.kind_of_root.ensures ∙ c.in-Some.is) are
    c.in-Some-place_of.group group record { kind = c.index_mut.result.now.kind; rules = c.push.new.self } at named refl
    (ap (λ (g : Group). g.kind) read) (items ∙ ap (λ (n : ℕ). group.rules.items ++ n ∷ []) (sym count))

pub returns-in_ok-push-in-None-2 : goal.returns-in_ok-push-in-None-2
returns-in_ok-push-in-None-2 c rules count are =
    let items : c.push-in-None.new.self.items ≡ c.args.count ∷ [] = c.in_ok-push-in-None.ensures.items ∙ ap (λ (l : List ℕ). l ++ c.args.count ∷ []) c.new-rules.ensures.items in
    begins rules c.args.rule.now c.args.self.now _ c.in-Some.kind (sym c.kind_of_root.ensures ∙ c.in-Some.is) are
    record { kind = c.in-Some.kind; rules = c.push-in-None.new.self } c.in-None.ensures.none c.in_ok-push-in-None-2.ensures.items refl
    (items ∙ ap (λ (n : ℕ). n ∷ []) (sym count))
