use Rattle.draft_steps.proofs.Common.{insts-stay}
use Rattle.draft_steps.proofs.rewriting.replace_root.Goals as goal

pub remove_inst-requires-clause-at : goal.remove_inst-requires-clause-at
remove_inst-requires-clause-at c =
    let e = c.in_ok-replaced.ensures in
    insts-stay c.args.draft.now c.replace.new.draft c.requires.whole e.whole e.orders c.args.root.block c.args.root.number c.requires.root
