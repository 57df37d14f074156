use Rattle.depth_first.proofs.Common.{◌≡◌, ◌<◌, ◌≤◌, List, Some, length, take, ◌++◌, ◌∷◌, [], refl, sym, ap, ◌∙◌, subst, slice_get, slice_get_read, Lit, negation_of, Entry, Reason, IsOpen, literals}
use Rattle.depth_first.proofs.Lists.{some_same}
use Rattle.depth_first.proofs.trail.Trail.flip_decision.Goals as goal

pub push-requires-clause-first : goal.push-requires-clause-first
push-requires-clause-first c =
    let entries = c.args.self.now.entries.items in
    let e = c.index.result.now in
    let at : slice_get entries c.args.place ≡ Some e = slice_get_read entries (length entries) c.args.place e refl c.requires c.index.ensures in
    subst (λ (l : Lit). 1 ≤ l.variable) (sym c.negation-literal.ensures) (c.args.self.now.fresh c.args.place e at).0

pub push-requires-clause-last : goal.push-requires-clause-last
push-requires-clause-last c =
    let entries = c.args.self.now.entries.items in
    let e = c.index.result.now in
    let at : slice_get entries c.args.place ≡ Some e = slice_get_read entries (length entries) c.args.place e refl c.requires c.index.ensures in
    subst (λ (l : Lit). l.variable < length c.cut.new.self.values.items) (sym c.negation-literal.ensures)
    (subst (λ n. e.literal.variable < n) (sym c.cut.ensures.variables) (c.args.self.now.fresh c.args.place e at).1)

pub push-requires-clause-open : goal.push-requires-clause-open
push-requires-clause-open c =
    let entries = c.args.self.now.entries.items in
    let e = c.index.result.now in
    let at : slice_get entries c.args.place ≡ Some e = slice_get_read entries (length entries) c.args.place e refl c.requires c.index.ensures in
    subst (λ (l : Lit). IsOpen (literals c.cut.new.self.entries.items) l.variable) (sym c.negation-literal.ensures)
    (subst (λ es. IsOpen (literals es) e.literal.variable) (sym c.cut.ensures.entries) (c.args.self.now.fresh c.args.place e at).2)

pub returns-clause-ok : goal.returns-clause-ok
returns-clause-ok c =
    λ e at.
    let entries = c.args.self.now.entries.items in
    let here = c.index.result.now in
    let read : slice_get entries c.args.place ≡ Some here = slice_get_read entries (length entries) c.args.place here refl c.requires c.index.ensures in
    let same : here ≡ e = some_same here e (sym read ∙ at) in
    let literal : c.negation-literal.result ≡ negation_of e.literal =
    c.negation-literal.ensures ∙ ap (λ (y : Entry). negation_of y.literal) same in
    let flipped : Lit → List Entry = λ l. take c.args.place entries ++ record { literal = l; cause = Reason c.args.reason } ∷ [] in
    c.in_ok-push.ensures.ok
    ∙ ap (λ es. es ++ record { literal = c.negation-literal.result; cause = Reason c.args.reason } ∷ []) c.cut.ensures.entries
    ∙ ap flipped literal
