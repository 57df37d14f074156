use Rattle.first_uip.proofs.Common.{◌≡◌, ℕ, ◌<◌, Some, length, set, refl, sym, ap, ◌∙◌, subst, arith, slice_get, slice_get_read, Watcher, numbers_in}
use Rattle.first_uip.proofs.LookLemmas.{number_at}
use Rattle.first_uip.proofs.Replaced.{map-set_same}
use Rattle.first_uip.proofs.WatcherLists.{Keeps, Keeps-set}
use Rattle.first_uip.proofs.watchers.Watchers.block_at.Goals as goal

pub returns-clause-numbers : goal.returns-clause-numbers
returns-clause-numbers c =
    let items = c.self.inside.items.items in
    let is : items ≡ c.args.self.now = cc in
    let number : Watcher → ℕ = λ (w : Watcher). w.number in
    map-set_same number items c.args.place _ c.index_mut.result.now (omega (arith, c.requires, ap length is)) (ap number c.index_mut.ensures.value)
    ∙ ap numbers_in is

pub returns-clause-only : goal.returns-clause-only
returns-clause-only c =
    let items = c.self.inside.items.items in
    let is : items ≡ c.args.self.now = cc in
    let place = c.args.place in
    let before : Watcher = c.index_mut.result.now in
    let after : Watcher = record { number = before.number; blocker = c.args.blocker } in
    let within : place < length items = omega (arith, c.requires, ap length is) in
    let at : slice_get (numbers_in c.args.self.now) place ≡ Some before.number =
    ap (λ ws. slice_get (numbers_in ws) place) (sym is)
    ∙ number_at items place before (slice_get_read items (length items) place before refl within c.index_mut.ensures.value) in
    let IsNew : Watcher → Type 0 = λ w. (slice_get (numbers_in c.args.self.now) place ≡ Some w.number) × (w.blocker ≡ c.args.blocker) in
    subst (λ ws. Keeps IsNew ws (set items place after)) is (Keeps-set IsNew items place after within (at, refl))
