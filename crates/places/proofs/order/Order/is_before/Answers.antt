use Rattle.places.proofs.Common.{◌<◌, Contains, IsTrue, sym, subst, ◌↔◌, place_in}
use Rattle.places.proofs.order.Order.is_before.Goals as goal

pub is_before-requires-clause-one : goal.is_before-requires-clause-one
is_before-requires-clause-one c = subst (λ l. Contains l c.args.one) (sym c.self.view_is) c.requires.one

pub is_before-requires-clause-other : goal.is_before-requires-clause-other
is_before-requires-clause-other c = subst (λ l. Contains l c.args.other) (sym c.self.view_is) c.requires.other

pub returns : goal.returns
returns c = subst (λ l. IsTrue c.is_before.result ↔ (place_in l c.args.one < place_in l c.args.other)) c.self.view_is c.is_before.ensures
