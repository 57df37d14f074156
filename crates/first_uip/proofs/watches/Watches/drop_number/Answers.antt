use Rattle.first_uip.proofs.Common.{◌≡◌, [], set, get_or, ap, ◌∙◌, subst, inl, get_or_default, code_of, Watcher}
use Rattle.first_uip.proofs.WatcherLists.{Keeps, Keeps-self, each_list}
use Rattle.first_uip.proofs.watches.Watches.drop_number.Goals as goal

pub returns-clause-only : goal.returns-clause-only
returns-clause-only c =
    let lists = c.args.self.now.lists.items in
    let code = code_of c.args.literal in
    let before = c.index_mut.result.now in
    let after = c.drop_at.new.self in
    let IsNew : Watcher → Type 0 = λ w. ⊥ in
    let is : before ≡ get_or lists code [] =
    c.index_mut.ensures.value ∙ ap (λ n. get_or lists n before) c.code_of.ensures ∙ get_or_default lists code before [] c.requires.within in
    each_list lists (set lists c.code_of.result after) c.args.literal after c.requires.within (ap (λ n. set lists n after) c.code_of.ensures)
    (Keeps IsNew) (Keeps-self IsNew)
    (subst (λ ws. Keeps IsNew ws after) is (λ w h. inl (c.drop_at.ensures.only w h)))
