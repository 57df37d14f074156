use Rattle.readers.proofs.Common.{List, Contains, subst, sym, on_ok_weaker, IsListedAmong, Place}
use Rattle.readers.proofs.Listing.{listed_again, listed_push}
use Rattle.readers.proofs.uses.list_last.Goals as goal

pub returns-then-ends_in-clause-listed : goal.returns-then-ends_in-clause-listed
returns-then-ends_in-clause-listed c = listed_again c.args.places.now c.args.place (subst (λ (l : List Place). Contains l c.args.place) c.as_slice.ensures (c.ends_in.ensures c.if-ends_in.true))

pub returns-clause-listed : goal.returns-clause-listed
returns-clause-listed c = on_ok_weaker c.push.result (λ is. subst (λ (l : List Place). IsListedAmong c.args.place c.args.places.now l) (sym is) (listed_push c.args.places.now c.args.place)) c.push.ensures.ok
