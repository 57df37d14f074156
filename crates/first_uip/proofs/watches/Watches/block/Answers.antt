use Rattle.first_uip.proofs.Common.{◌≡◌, ℕ, List, [], Some, set, get_or, ap, ◌∙◌, subst, slice_get, get_or_default, code_of, Watcher, numbers_in, numbers_of}
use Rattle.first_uip.proofs.WatcherLists.{Keeps, Keeps-self, each_list}
use Rattle.first_uip.proofs.watches.Watches.block.Goals as goal

pub returns-clause-only : goal.returns-clause-only
returns-clause-only c =
    let lists = c.args.self.now.lists.items in
    let code = code_of c.args.literal in
    let before = c.index_mut.result.now in
    let after = c.block_at.new.self in
    let IsBlocked : List ℕ → Watcher → Type 0 = λ ns w. (slice_get ns c.args.place ≡ Some w.number) × (w.blocker ≡ c.args.blocker) in
    let IsNew : Watcher → Type 0 = IsBlocked (numbers_of c.args.self.now c.args.literal) in
    let is : before ≡ get_or lists code [] =
    c.index_mut.ensures.value ∙ ap (λ n. get_or lists n before) c.code_of.ensures ∙ get_or_default lists code before [] c.requires.within in
    each_list lists (set lists c.code_of.result after) c.args.literal after c.requires.within (ap (λ n. set lists n after) c.code_of.ensures)
    (Keeps IsNew) (Keeps-self IsNew)
    (subst (λ ws. Keeps (IsBlocked (numbers_in ws)) ws after) is c.block_at.ensures.only)
