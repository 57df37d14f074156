use Rattle.rewriter.proofs.Common.{◌∙◌, List, ◌++◌, ap, sym, append-nil, Inst}
use Rattle.rewriter.proofs.insts.push_put.Goals as goal

pub returns-in_ok-push : goal.returns-in_ok-push
returns-in_ok-push c = c.in_ok-push.ensures.ok ∙ ap (λ (p : List Inst). c.args.insts.now ++ p) c.in-Some.ensures

pub returns-in_default : goal.returns-in_default
returns-in_default c = sym (append-nil c.args.insts.now) ∙ ap (λ (p : List Inst). c.args.insts.now ++ p) c.in_default.ensures
