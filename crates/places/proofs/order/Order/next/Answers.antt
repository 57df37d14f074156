use Rattle.places.proofs.Common.{◌≡◌, suc, Contains, sym, subst, slice_get, place_in}
use Rattle.places.proofs.order.Order.next.Goals as goal

pub next-requires-clause-number : goal.next-requires-clause-number
next-requires-clause-number c = subst (λ l. Contains l c.args.number) (sym c.self.view_is) c.requires

pub returns : goal.returns
returns c = subst (λ l. c.next.result ≡ slice_get l (suc (place_in l c.args.number))) c.self.view_is c.next.ensures
