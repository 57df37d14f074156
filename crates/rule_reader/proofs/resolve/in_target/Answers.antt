use Rattle.rule_reader.proofs.Common.{subst, IsRoot}
use Rattle.rule_reader.proofs.Looking.{denies}
use Rattle.rule_reader.proofs.Found.{found_in_target}
use Rattle.rule_reader.proofs.resolve.in_target.Goals as goal

pub returns-in-None : goal.returns-in-None
returns-in-None c =
    found_in_target c.args.rule.now c.args.names.now c.requires.names c.args.name.now c.args.place c.as_slice-2.result.now c.before_root.result
    c.as_slice-2.ensures (subst (λ ss. ¬ IsRoot ss c.args.name.now) c.as_slice.ensures (denies _ _ c.is_root.ensures c.if-is_root.false)) c.in-None.ensures.none c.before_root.ensures
