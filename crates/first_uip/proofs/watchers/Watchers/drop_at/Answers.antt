use Rattle.first_uip.proofs.Common.{◌≡◌, ◌<◌, length, ap, ◌∙◌, arith, swap_remove, Watcher, numbers_in}
use Rattle.first_uip.proofs.Replaced.{map-swap_remove}
use Rattle.first_uip.proofs.watchers.Watchers.drop_at.Goals as goal

pub returns-clause-numbers : goal.returns-clause-numbers
returns-clause-numbers c =
    let items = c.self.inside.items.items in
    let is : items ≡ c.args.self.now = cc in
    let within : c.args.place < length items = omega (arith, c.requires, ap length is) in
    ap numbers_in c.swap_remove.ensures.items
    ∙ map-swap_remove (λ (w : Watcher). w.number) items c.args.place c.swap_remove.result 0 within
    ∙ ap (λ ws. swap_remove (numbers_in ws) c.args.place 0) is
